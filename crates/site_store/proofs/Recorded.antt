-- The records of a setting's nodes that its disks keep.
use Rattle.std.proofs.Common.{◌≡◌, ◌≢◌, ◌⊎◌, inl, inr, ℕ, suc, ◌+◌, ◌-◌, ◌*◌, ◌<◌, nat_lt, List, [], map, Bool, true, cond, IsTrue, Option, Some, None, sym, ◌∙◌, ap, subst, arith}
use Rattle.site_store.proofs.Words.{Each, EachPair, each_from, Mem, DiskName, ReplicaNote, PairRec, Setting, first_joiner, JoinerKept, ReplicaKept, IsKeptIn, kept_of, Disks, StoreTopology, topology_of, WholeSound, TopologyComesFirst, IsDisk, KeepsOf, KeepsVotes, IsSoundStore, AreLeft, joiner_of, topology_read, ReadTopologyIsKept, ReadNotesAreKept, OpenedIsWhole, joiners_kept, Kept, OffsetIs, PendingAre, EpochIs, NotesAre, PairsAre, KeptDisk, KeptValues, KeepsAs, IsOfKind, IsKept, AreKept, Says, AreRecordsOf, other_names}
use Rattle.outside.specs.declared.store.DiskName.TheVariants as name
use Rattle.site_store.proofs.Lending.{each_mem, same_or_not}
use Rattle.site_store.proofs.Names.{all_named}
use Rattle.site_store.proofs.Values.{at_name, find_name, one_named, named_mem}

-- ---- what is kept of records is kept as they say

pub keeps_of : ReadNotesAreKept → (g : Setting) (d : Disks) (n : DiskName) (kept : Kept) (c : List ℕ) → Says g d n kept → KeepsAs kept c → KeepsOf g d n c
keeps_of read g d name.Topology kept c says keeps = tt
keeps_of read g d (name.Replica r) kept c (notes, is, same) keeps = subst (λ (k : ReplicaKept). KeepsVotes k c) (sym same) (read notes c (subst (λ (k : Kept). KeepsAs k c) is keeps))
keeps_of read g d _ kept c says keeps = subst (λ (k : Kept). KeepsAs k c) says keeps

-- the records were left with a topology, or with none
abbrev pub IsLeftWith : Setting → (DiskName → List ℕ → Type 0) → Disks → Type 0
IsLeftWith g image d = (t : Option StoreTopology) × AreLeft g image (record { topology = t; disks = d; is_used = true })

module _ (tells : Bool) (sure : IsTrue tells) (image : DiskName → List ℕ → Type 0) (asked : ℕ) (g : Setting) (k : KeptValues) (kept : AreKept tells image g.config.replicas asked k) (same : joiners_kept k.topology asked ≡ g.config.joiners)
    (d : Disks) (of : AreRecordsOf g k.disks d) where
  records_left : ReadNotesAreKept → (disk : DiskName) → IsDisk g disk → IsKeptIn (image disk) (KeepsOf g d disk)
  records_left read disk here = elim (same_or_not disk name.Topology) [
    | inl is ↦ let x = kept.topology sure in subst (λ (n : DiskName). IsKeptIn (image n) (KeepsOf g d n)) (sym is) (x.0, x.1, tt)
    | inr not ↦
        let o = at_name (λ (d : KeptDisk). d.name) k.disks disk (subst (Mem disk) (sym (kept.named ∙ ap (λ n. other_names n g.config.replicas) same)) (all_named g disk here not)) in
        let x = each_mem (IsKept image) o.0 k.disks (kept.kept sure) o.1 in
        let says = each_mem (λ (e : KeptDisk). Says g d e.name e.kept) o.0 k.disks of o.1 in
        subst (λ (n : DiskName). IsKeptIn (image n) (KeepsOf g d n)) o.2 (x.0, x.1, keeps_of read g d o.0.name o.0.kept x.0 says x.2)
  ]

  pub left_with : ReadTopologyIsKept → ReadNotesAreKept → IsLeftWith g image d
  left_with topology read =
      let x = kept.topology sure in
      (topology_read k.topology, record { topology = (x.0, x.1, topology k.topology x.0 x.2); records = records_left read })

-- of a sound store they are a whole store
pub whole_with : (g : Setting) (image : DiskName → List ℕ → Type 0) (d : Disks) → IsLeftWith g image d → OpenedIsWhole g image → TopologyComesFirst → IsSoundStore g image
    → (used : Bool) × WholeSound g (record { topology = Some (topology_of g); disks = d; is_used = used })
whole_with g image d left opened first sound =
    let x = opened (record { topology = left.0; disks = d; is_used = true }) sound left.1 in
    (x.0, first g (record { topology = left.0; disks = d; is_used = x.0 }) x.1)

-- ---- there are such records

abbrev pub kept_found : (disks : List KeptDisk) (n : DiskName) → ((d : KeptDisk) × Mem d disks × (d.name ≡ n)) ⊎ ((d : KeptDisk) → Mem d disks → d.name ≡ n → ⊥) → Option Kept
kept_found disks n (inl found) = Some found.0.kept
kept_found disks n (inr none) = None

abbrev pub kept_at : List KeptDisk → DiskName → Option Kept
kept_at disks n = kept_found disks n (find_name disks n)

found_is : (disks : List KeptDisk) → EachPair (λ one other. one ≢ other) (map (λ d. d.name) disks) → (d : KeptDisk) → Mem d disks
    → (found : ((o : KeptDisk) × Mem o disks × (o.name ≡ d.name)) ⊎ ((o : KeptDisk) → Mem o disks → o.name ≡ d.name → ⊥)) → kept_found disks d.name found ≡ Some d.kept
found_is disks apart d among found = grind (arith, one_named)

abbrev pub offset_in : Option Kept → ℕ
offset_in (Some (OffsetIs offset)) = offset
offset_in other = 0

abbrev pub pending_in : Option Kept → List ℕ
pending_in (Some (PendingAre positions)) = positions
pending_in other = []

abbrev pub epoch_in : Option Kept → ℕ
epoch_in (Some (EpochIs epoch)) = epoch
epoch_in other = 0

abbrev pub notes_in : Option Kept → List ReplicaNote
notes_in (Some (NotesAre notes)) = notes
notes_in other = []

abbrev pub pairs_in : Option Kept → List PairRec
pairs_in (Some (PairsAre pairs)) = pairs
pairs_in other = []

-- the site and the place there of a joiner's number
abbrev pub site_in : (many place : ℕ) → ℕ
site_in many place = cond (nat_lt place many) 0 1

abbrev pub place_in : (many place : ℕ) → ℕ
place_in many place = cond (nat_lt place many) place (place - many)

joiner_in : (many s j place : ℕ) → s < 2 → j < many → place ≡ s * many + j → (site_in many place ≡ s) × (place_in many place ≡ j)
joiner_in many (suc (suc s)) j place lt below is = absurd (omega (arith, lt))
joiner_in many _ j place lt below is = grind arith

abbrev pub joiner_disks : Setting → List KeptDisk → (s j : ℕ) → JoinerKept
joiner_disks g disks s j = record { epoch = epoch_in (kept_at disks (name.Epoch s j)); pairs = pairs_in (kept_at disks (name.Output s j)) }

abbrev pub records_of : Setting → List KeptDisk → Disks
records_of g disks = record {
  dispatchers = λ s. record { offset = offset_in (kept_at disks (name.Offset s)); pending = pending_in (kept_at disks (name.Retry s)) };
  servers = λ s. record { epoch = epoch_in (kept_at disks (name.Server s)) };
  replicas = λ r. kept_of (notes_in (kept_at disks (name.Replica r)));
  joiners = λ n. joiner_disks g disks (site_in g.config.joiners (n - first_joiner g)) (place_in g.config.joiners (n - first_joiner g));
}

place_is : (first many s j : ℕ) → first + s * many + j - first ≡ s * many + j
place_is first many s j = omega arith

seat : (g : Setting) (disks : List KeptDisk) (s j : ℕ) → s < 2 → j < g.config.joiners → (records_of g disks).joiners (joiner_of g s j) ≡ joiner_disks g disks s j
seat g disks s j lt below =
    let so = joiner_in g.config.joiners s j (joiner_of g s j - first_joiner g) lt below (place_is (first_joiner g) g.config.joiners s j) in
    ap (λ i. joiner_disks g disks i (place_in g.config.joiners (joiner_of g s j - first_joiner g))) so.0 ∙ ap (joiner_disks g disks s) so.1

says_at : (g : Setting) (disks : List KeptDisk) (n : DiskName) (kept : Kept) → IsOfKind n kept → IsDisk g n → kept_at disks n ≡ Some kept → Says g (records_of g disks) n kept
says_at g disks (name.Replica r) kept (v, is) here at = (v, is, ap (λ o. kept_of (notes_in o)) (at ∙ ap Some is))
says_at g disks (name.Epoch s j) kept (v, is) here at = is ∙ ap EpochIs (sym (ap (λ (x : JoinerKept). x.epoch) (seat g disks s j here.0 here.1) ∙ ap epoch_in (at ∙ ap Some is)))
says_at g disks (name.Output s j) kept (v, is) here at = is ∙ ap PairsAre (sym (ap (λ (x : JoinerKept). x.pairs) (seat g disks s j here.0 here.1) ∙ ap pairs_in (at ∙ ap Some is)))
says_at g disks _ kept (v, is) here at = grind arith

-- the records of disks of a setting with so many joiners
pub are_records : (g : Setting) (disks : List KeptDisk) (names : List DiskName) → map (λ d. d.name) disks ≡ names → EachPair (λ one other. one ≢ other) names → Each (IsDisk g) names
    → Each (λ d. IsOfKind d.name d.kept) disks → AreRecordsOf g disks (records_of g disks)
are_records g disks names named apart here kinds = grind (arith, each_from, says_at, each_mem, named_mem, found_is)
