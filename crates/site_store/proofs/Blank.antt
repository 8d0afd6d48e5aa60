-- A sound store that keeps no topology keeps no records.
use Rattle.std.proofs.Common.{◌≡◌, ℕ, List, [], ◌∷◌, map, length, Bool, IsTrue, true, false, Option, Some, None, refl, sym, ◌∙◌, ap, subst, arith, flat_map}
use Rattle.site_store.proofs.Words.{Each, each_from, DiskName, ReplicaNote, note, gate_rule, Topology, Setting, KeepsNotes, vote_record, StoreTopology, Store, IsBlank, IsDisk, KeepsTopology, IsSoundStore, topology_read, KeepOneTopology, ReadTopologyIsKept, one_value, joiners_kept, Kept, KeptDisk, KeptValues, KeepsAs, IsOfKind, AreKept, other_names, LeavesSomething, KeptStore, notes_at, pairs_at, IsRead, KeepsNothing, values_from}
use Rattle.outside.specs.declared.store.DiskName.TheVariants as name
use Rattle.site_store.proofs.Lending.{each_mem}
use Rattle.site_store.proofs.Names.{IsNamed, by_replicas, each_named, flat_none}
use Rattle.site_store.proofs.Sound.{chosen, all_sound, topology_held, held, are_disks}
use Rattle.site_store.proofs.Values.{by_names, named_mem}

no_items : {X Y : Type 0} (f : X → Y) (xs : List X) → map f xs ≡ [] → xs ≡ []
no_items f [] is = refl
no_items f (x ∷ xs) is = absurd (omega (arith, ap length is))

unused : (used : Bool) (kept : Option StoreTopology) (t : StoreTopology) → (used ≡ true → kept ≡ Some t) → kept ≡ None → used ≡ false
unused k kept t h none = grind arith

-- a replica's name has one list without notes, no other name has any
abbrev blank_notes : DiskName → List (List ReplicaNote)
blank_notes (name.Replica r) = [] ∷ []
blank_notes other = []

-- without joiners none is an output's
no_pairs : (replicas : ℕ) (n : DiskName) (kept : Kept) → IsOfKind n kept → IsNamed 0 replicas n → pairs_at kept ≡ []
no_pairs replicas h kept k named = grind arith

module _ (tells : Bool) (sure : IsTrue tells) (image : DiskName → List ℕ → Type 0) (one : KeepOneTopology) (read_topology : ReadTopologyIsKept) (g : Setting) (some : LeavesSomething g image)
    (sound : IsSoundStore g image) (v : KeptValues) (kept : AreKept tells image g.config.replicas 0 v) (none : v.topology ≡ None) where
  many_none : joiners_kept v.topology 0 ≡ 0
  many_none = ap (λ (t : Option Topology). joiners_kept t 0) none

  named : map (λ d. d.name) v.disks ≡ other_names 0 g.config.replicas
  named = kept.named ∙ ap (λ n. other_names n g.config.replicas) many_none

  abbrev its : Store
  its = (all_sound tells sure image 0 g v kept some sound).0

  is_blank : IsBlank g its.disks
  is_blank =
      let all = all_sound tells sure image 0 g v kept some sound in
      let b = (chosen tells sure image 0 g v kept some sound).0 in
      let was : KeepsTopology (topology_read v.topology) (b name.Topology) = read_topology v.topology (b name.Topology) (topology_held tells sure image 0 g v kept some sound) in
      let no_topology : its.topology ≡ None = one its.topology (topology_read v.topology) (b name.Topology) all.1.topology was ∙ ap topology_read none in
      all.2.blank (unused its.is_used its.topology _ all.2.topology no_topology)

  no_notes : (n : DiskName) (kd : Kept) → IsOfKind n kd → IsDisk g n → KeepsAs kd ((chosen tells sure image 0 g v kept some sound).0 n) → notes_at kd ≡ blank_notes n
  no_notes (name.Replica r) kd (x, is) here keeps =
      let c = (chosen tells sure image 0 g v kept some sound).0 (name.Replica r) in
      let own : KeepsNotes x c = subst (λ (k : Kept). KeepsAs k c) is keeps in
      let theirs = (all_sound tells sure image 0 g v kept some sound).1.records (name.Replica r) here in
      let same : map note x ≡ map vote_record (its.disks.replicas r).notes = one_value (gate_rule c) (map note x) (map vote_record (its.disks.replicas r).notes) own.1 theirs.1 in
      let empty : x ≡ [] = no_items note x (same ∙ ap (map vote_record) (is_blank.notes r here)) in
      ap notes_at is ∙ ap (λ (ns : List ReplicaNote). ns ∷ []) empty
  no_notes _ kd (x, is) here keeps = ap notes_at is

  pub notes_blank : flat_map (λ d. notes_at d.kept) v.disks ≡ values_from (λ r. []) 0 g.config.replicas
  notes_blank =
      let all = each_from (λ (d : KeptDisk). notes_at d.kept ≡ blank_notes d.name) v.disks (λ d among.
      let here = are_disks tells sure image 0 g v kept some sound (omega (arith, many_none)) d among in
      no_notes d.name d.kept (each_mem (λ (o : KeptDisk). IsOfKind o.name o.kept) d v.disks kept.kinds among) here (held tells sure image 0 g v kept some sound d among here)) in
      by_names notes_at blank_notes v.disks all ∙ ap (flat_map blank_notes) named ∙ by_replicas 0 g.config.replicas blank_notes (λ r. []) refl (λ s j. refl) (λ r. refl) (λ s j. refl)

  pub pairs_blank : flat_map (λ d. pairs_at d.kept) v.disks ≡ []
  pairs_blank =
      let all = each_from (λ (d : KeptDisk). pairs_at d.kept ≡ []) v.disks (λ d among.
      no_pairs g.config.replicas d.name d.kept (each_mem (λ (o : KeptDisk). IsOfKind o.name o.kept) d v.disks kept.kinds among)
      (each_mem (IsNamed 0 g.config.replicas) d.name _ (subst (Each (IsNamed 0 g.config.replicas)) (sym named) (each_named 0 g.config.replicas)) (named_mem (λ (d : KeptDisk). d.name) v.disks d among))) in
      flat_none (λ (d : KeptDisk). pairs_at d.kept) v.disks all

pub read_nothing : (tells : Bool) → IsTrue tells → (image : DiskName → List ℕ → Type 0) (replicas : ℕ) (log_tells : Bool) (log : List ℕ) (end_ : ℕ) → KeepOneTopology → ReadTopologyIsKept → (k : KeptStore) → IsRead tells image replicas log_tells log end_ k
    → (g : Setting) → k.topology ≡ None → g.config.replicas ≡ replicas → LeavesSomething g image → IsSoundStore g image → KeepsNothing replicas k.journals
read_nothing tells sure image replicas log_tells log end_ one read_topology k is g is_none same some sound =
    let none = is.told.topology ∙ is_none in
    let kept = subst (λ n. AreKept tells image n 0 is.values) (sym same) is.kept in
    record {
      notes = is.told.notes ∙ notes_blank tells sure image one read_topology g some sound is.values kept none ∙ ap (values_from (λ r. []) 0) same;
      pairs = is.told.pairs ∙ pairs_blank tells sure image one read_topology g some sound is.values kept none;
    }
