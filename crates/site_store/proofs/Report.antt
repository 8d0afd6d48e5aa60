-- What the journals that a store is read as say is the report of records that its disks kept.
use Rattle.std.proofs.Common.{◌≡◌, ℕ, zero, suc, ◌+◌, ◌*◌, ◌<◌, List, [], ◌∷◌, ◌++◌, map, Bool, IsTrue, true, Option, Some, None, refl, sym, ◌∙◌, ap, subst, arith, flat_map}
use Rattle.site_store.proofs.Words.{map-append, Each, DiskName, PairRec, note_view, Topology, Setting, first_joiner, BallotNote, joiners_kept, journals, values_from, Disks, Store, AreOf, TellsTheReport, joiner_of, ReadTopologyIsKept, ReadNotesAreKept, OpenedIsWhole, Kept, KeptDisk, KeptValues, IsOfKind, AreKept, Says, AreRecordsOf, other_names, IsAsked, ArePassed, KeptStore, notes_at, pairs_at, IsOfValues, IsRead, Tells}
use Rattle.outside.specs.declared.store.DiskName.TheVariants as name
use Rattle.site_store.proofs.Lending.{each_two}
use Rattle.site_store.proofs.Names.{by_outputs, by_replicas, others_apart, others_are}
use Rattle.site_store.proofs.Recorded.{left_with, records_of, are_records}
use Rattle.site_store.proofs.Values.{by_names}

-- ---- lists as the values of a function

values_same : {X : Type 0} (f h : ℕ → X) (a b n : ℕ) → ((i : ℕ) → i < n → f (a + i) ≡ h (b + i)) → values_from f a n ≡ values_from h b n
values_same f h a b zero same = refl
values_same {X} f h a b (suc n) same =
    let here : f a ≡ h b = ap f (omega arith) ∙ same 0 (omega arith) ∙ ap h (omega arith) in
    ap (λ (x : X). x ∷ values_from f (suc a) n) here ∙ ap (λ (xs : List X). h b ∷ xs) (values_same f h (suc a) (suc b) n (λ i lt. ap f (omega arith) ∙ same (suc i) (omega (arith, lt)) ∙ ap h (omega arith)))

values_both : {X : Type 0} (f : ℕ → X) (a n m : ℕ) → values_from f a n ++ values_from f (a + n) m ≡ values_from f a (n + m)
values_both {X} f a zero m = ap (λ k. values_from f k m) (omega arith) ∙ ap (values_from f a) (omega arith)
values_both {X} f a (suc n) m =
    let next : suc a + n ≡ a + suc n = omega arith in
    let last : suc (n + m) ≡ suc n + m = omega arith in
    ap (λ (xs : List X). f a ∷ xs) (ap (λ k. values_from f (suc a) n ++ values_from f k m) (sym next) ∙ values_both f (suc a) n m) ∙ ap (values_from f a) last

map_flat : {A X Y : Type 0} (f : A → List X) (v : X → Y) (as_ : List A) → map v (flat_map f as_) ≡ flat_map (λ a. map v (f a)) as_
map_flat f v [] = refl
map_flat {A} {X} {Y} f v (a ∷ as_) = map-append v (f a) (flat_map f as_) ∙ ap (λ (ys : List Y). map v (f a) ++ ys) (map_flat f v as_)

-- ---- by the names of the disks

module _ (g : Setting) (d : Disks) where
  abbrev notes_by : DiskName → List (List BallotNote)
  notes_by (name.Replica r) = (d.replicas r).notes ∷ []
  notes_by other = []

  abbrev pairs_by : DiskName → List (List PairRec)
  pairs_by (name.Output s j) = (d.joiners (joiner_of g s j)).pairs ∷ []
  pairs_by other = []

  notes_said : (n : DiskName) (kept : Kept) → IsOfKind n kept → Says g d n kept → map (map note_view) (notes_at kept) ≡ notes_by n
  notes_said h kept own k = grind (arith, note_view)

  pairs_said : (n : DiskName) (kept : Kept) → IsOfKind n kept → Says g d n kept → pairs_at kept ≡ pairs_by n
  pairs_said h kept own says = grind arith

  abbrev of_site : ℕ → ℕ → List PairRec
  of_site s j = (d.joiners (joiner_of g s j)).pairs

  module _ (disks : List KeptDisk) (named : map (λ o. o.name) disks ≡ other_names g.config.joiners g.config.replicas) (kinds : Each (λ o. IsOfKind o.name o.kept) disks) (of : AreRecordsOf g disks d) where
    pub notes_are : map (map note_view) (flat_map (λ o. notes_at o.kept) disks) ≡ journals g.config.replicas d.replicas
    notes_are =
        let by = each_two (λ (o : KeptDisk). IsOfKind o.name o.kept) (λ (o : KeptDisk). Says g d o.name o.kept) (λ (o : KeptDisk). map (map note_view) (notes_at o.kept) ≡ notes_by o.name) disks (λ o kind says. notes_said o.name o.kept kind says) kinds of in
        map_flat (λ (o : KeptDisk). notes_at o.kept) (map note_view) disks ∙ by_names (λ k. map (map note_view) (notes_at k)) notes_by disks by ∙ ap (flat_map notes_by) named
        ∙ by_replicas g.config.joiners g.config.replicas notes_by (λ r. (d.replicas r).notes) refl (λ s j. refl) (λ r. refl) (λ s j. refl)

    pub pairs_are : flat_map (λ o. pairs_at o.kept) disks ≡ values_from (λ j. (d.joiners j).pairs) (first_joiner g) (2 * g.config.joiners)
    pairs_are =
        let f : ℕ → List PairRec = λ j. (d.joiners j).pairs in
        let n = g.config.joiners in
        let by = each_two (λ (o : KeptDisk). IsOfKind o.name o.kept) (λ (o : KeptDisk). Says g d o.name o.kept) (λ (o : KeptDisk). pairs_at o.kept ≡ pairs_by o.name) disks (λ o kind says. pairs_said o.name o.kept kind says) kinds of in
        let first : values_from (of_site 0) 0 n ≡ values_from f (first_joiner g) n = values_same (of_site 0) f 0 (first_joiner g) n (λ i lt. ap f (omega arith)) in
        let second : values_from (of_site 1) 0 n ≡ values_from f (first_joiner g + n) n = values_same (of_site 1) f 0 (first_joiner g + n) n (λ i lt. ap f (omega arith)) in
        by_names pairs_at pairs_by disks by ∙ ap (flat_map pairs_by) named ∙ by_outputs n g.config.replicas pairs_by (of_site 0) refl (λ s j. refl) (of_site 1) (λ r. refl) (λ j. refl) (λ j. refl)
        ∙ ap (λ (xs : List (List PairRec)). xs ++ values_from (of_site 1) 0 n) first ∙ ap (λ (xs : List (List PairRec)). values_from f (first_joiner g) n ++ xs) second
        ∙ values_both f (first_joiner g) n n ∙ ap (values_from f (first_joiner g)) (omega arith)

-- ---- of a store that is read

module _ (tells : Bool) (sure : IsTrue tells) (image : DiskName → List ℕ → Type 0) (g : Setting) (v : KeptValues) (kept : AreKept tells image g.config.replicas 0 v) (t : Topology) (topology_is : v.topology ≡ Some t)
    (is : IsAsked t g) where
  pub many_are : joiners_kept v.topology 0 ≡ g.config.joiners
  many_are = ap (λ (o : Option Topology). joiners_kept o 0) topology_is ∙ sym is.joiners

  abbrev pub its : Disks
  its = records_of g v.disks

  pub named : map (λ d. d.name) v.disks ≡ other_names g.config.joiners g.config.replicas
  named = kept.named ∙ ap (λ n. other_names n g.config.replicas) many_are

  pub of : AreRecordsOf g v.disks its
  of = are_records g v.disks (other_names g.config.joiners g.config.replicas) named (others_apart g.config.joiners g.config.replicas) (others_are g g.config.joiners (omega arith)) kept.kinds

  tells_of : (k : KeptStore) → IsOfValues v k → ReadTopologyIsKept → ReadNotesAreKept → OpenedIsWhole g image → TellsTheReport → Tells g image k.journals
  tells_of k told topology read whole report =
      let left = left_with tells sure image 0 g v kept many_are its of topology read in
      let store : Store = record { topology = left.0; disks = its; is_used = true } in
      let are : AreOf g its k.journals = record {
        notes = ap (map (map note_view)) told.notes ∙ notes_are g its v.disks named kept.kinds of;
        pairs = told.pairs ∙ pairs_are g its v.disks named kept.kinds of;
      } in
      record {
        store = store;
        left = left.1;
        are = are;
        lines = report g its k.journals are;
        whole = λ sound. let x = whole store sound left.1 in (x.0, x.1);
      }

-- what was read, of what the disks keep
pub ok_read : (tells : Bool) (before : DiskName → List ℕ → Type 0) (replicas : ℕ) (log_tells : Bool) (log : List ℕ) (end_ : ℕ) (v : KeptValues) → AreKept tells before replicas 0 v → ArePassed log_tells log end_ None v → (k : KeptStore) → IsOfValues v k
    → IsRead tells before replicas log_tells log end_ k
ok_read tells before replicas log_tells log end_ v kept fine k told = record { values = v; kept = kept; told = told; fine = fine }

pub read_tells : (tells : Bool) → IsTrue tells → (before : DiskName → List ℕ → Type 0) (replicas : ℕ) (log_tells : Bool) (log : List ℕ) (end_ : ℕ) → ReadTopologyIsKept → ReadNotesAreKept → ((g : Setting) → OpenedIsWhole g before) → TellsTheReport
    → (k : KeptStore) → IsRead tells before replicas log_tells log end_ k → (t : Topology) (g : Setting) → k.topology ≡ Some t → IsAsked t g → g.config.replicas ≡ replicas → Tells g before k.journals
read_tells tells sure before replicas log_tells log end_ topology read whole report k is t g kept asked same =
    tells_of tells sure before g is.values (subst (λ n. AreKept tells before n 0 is.values) (sym same) is.kept) t (is.told.topology ∙ kept) asked k is.told topology read (whole g) report
