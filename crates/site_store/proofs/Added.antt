-- A row behind those of the kept table: what is answered, and what it makes of a sound store.
use Rattle.std.proofs.Common.{◌≡◌, ◌≢◌, ◌⊎◌, inl, inr, ⊎_elim, ℕ, List, [], ◌∷◌, ◌++◌, map, Bool, IsTrue, Option, Some, None, Result, Ok, Err, refl, sym, ◌∙◌, ap, subst, arith}
use Rattle.time_shards.specs.declared.ShardRow.{ShardRow}
use Rattle.time_shards.specs.declared.AddFault.{AddFault}
use Rattle.time_shards.specs.Shards.{IsTable, added}
use Rattle.registry_state.specs.declared.Batch.{Batch}
use Rattle.verify_pass.specs.declared.starts.TooSoon.{TooSoon}
use Rattle.verify_pass.specs.TooSoon.{all_batches, too_soon_for}
use Rattle.topology_journal.specs.Topologies.{MayCome}
use Rattle.topology_journal.specs.Topologies as journal
use Rattle.photon_model.specs.Adding.{with_row}
use Rattle.run_fault.specs.declared.fault.Unfit.{Unfit}
use Rattle.site_laws.proofs.SameDisks.{disk_onward}
use Rattle.site_laws.specs.Stores.{IsChoice, IsSoundOr}
use Rattle.site_laws.specs.StoreLaws.{IsRowAdded, RowIsSound, StaysSound}
use Rattle.outside.specs.declared.store.DiskName.TheVariants as name
use Rattle.site_store.proofs.Words.{eq-eqb, Each, Mem, DiskName, IsOpened, GoesOn, Topology, Keeps, IsTopology, Setting, BallotNote, Disks, PlainTopology, topology_of, Bytes, KeepsOf, KeepSound, IsSoundStore, ReadTopologyIsKept, ReadNotesAreKept, TopologyFits, joiners_kept, StaysAs, Lent, IsLent, Lacks, MayBeLeft, topology_lent, OpenView, AllKept, KeptValues, AreKept, AreRecordsOf, kept_all, lent_all, values_of, other_names, IsAsked, LeavesSomething, IsWritten, RunFault, first_limit}
use Rattle.site_store.specs.Adding.{accepted, answer_of, answer_to, IsAnswer, IsUnadded, IsRowCause, HasRow, Leaves}
use Rattle.site_store.proofs.Causes.{limit_is}
use Rattle.site_store.proofs.Appending.{written_through}
use Rattle.site_store.proofs.Leaving.{all_grow, back_grown, back_or, back_others, back_own, back_stays}
use Rattle.site_store.proofs.Lending.{each_mem, lacks_by_names, same_or_not}
use Rattle.site_store.proofs.Names.{all_named, not_topology}
use Rattle.site_store.proofs.Recorded.{keeps_of}
use Rattle.site_store.proofs.Report.{its, of, notes_are, named}
use Rattle.site_store.proofs.Sound.{topology_is}
use Rattle.site_store.proofs.Values.{names_kept}

-- ---- the answer

no_answer : (why : Unfit) (t : Topology) → ◌≡◌ {A = Result Topology Unfit} (Err why) (Ok t) → ⊥
no_answer why t e = (cc)

abbrev Added : Type 0
Added = Result (List ShardRow) AddFault

added_is : (rows : List ShardRow) (row : ShardRow) (table : List ShardRow) → added rows row ≡ Ok table → table ≡ rows ++ row ∷ []
added_is rows row table = grind arith

by_parts : (joiners start : ℕ) (r : Added) (soon : Option TooSoon) (t : Topology) → answer_of joiners start r soon ≡ Ok t
    → (table : List ShardRow) × (r ≡ Ok table) × (journal.topology_of joiners table ≡ t) × (soon ≡ None)
by_parts joiners start h soon t e = grind (arith, no_answer)

-- an answer's topology is the kept one with the row, which nothing forbids
record IsLonger (kept : Option Topology) (batches : List Batch) (row : ShardRow) (t : Topology) : Type 0 where
  was : Topology
  is_kept : kept ≡ Some was
  longer : journal.topology_of was.joiners (was.table ++ row ∷ []) ≡ t
  free : too_soon_for batches row.start ≡ None

answered : (kept : Option Topology) (batches : List Batch) (row : ShardRow) (t : Topology) → answer_to kept batches row ≡ Ok t → IsLonger kept batches row t
answered h batches row t e = grind (arith, no_answer, by_parts)

pub answers : (k : KeptValues) (told : Option RunFault) (was : Topology) (row : ShardRow) (table : List ShardRow) (soon : Option TooSoon) → told ≡ first_limit k → ((f : RunFault) → told ≡ Some f → ⊥) → k.topology ≡ Some was → added was.table row ≡ Ok table
    → too_soon_for (accepted k.disks) row.start ≡ soon → IsAnswer k row (answer_of was.joiners row.start (Ok table) soon)
answers k told was row table soon limit none is so at = grind arith

-- its record may come next
pub may_come : (kept : Option Topology) (was : Topology) (row : ShardRow) (table : List ShardRow) → kept ≡ Some was → IsTopology was → added was.table row ≡ Ok table → IsTable table
    → MayCome kept (journal.topology_of was.joiners table)
may_come kept was row table is fine so ok = grind (arith, eq-eqb, added_is)

-- what is at its limit is told
pub limit_unadded : (k : KeptValues) (row : ShardRow) (f : RunFault) → first_limit k ≡ Some f → IsUnadded k row f
limit_unadded k row f e = grind (arith, limit_is)

-- why kept values aren't answered is why the row isn't added
pub unadded_cause : (tells : Bool) (before : DiskName → List ℕ → Type 0) (replicas : ℕ) (row : ShardRow) (faulted : Type 0) (k : KeptValues) → AreKept tells before replicas 0 k → (f : RunFault) → IsUnadded k row f
    → IsRowCause tells before replicas row faulted f
unadded_cause tells before replicas row faulted k are f why = grind arith

-- ---- the opened disks

not_lacking : {D : Type 0} (disks : List (OpenView D)) (n : DiskName) → Mem n (map (λ o. o.name) disks) → Lacks (lent_all disks) n → ⊥
not_lacking [] n m lacks = absurd m
not_lacking (o ∷ os) n h lacks = grind (arith, not_lacking os n)

module _ {D : Type 0} (left : D → List ℕ → Type 0) (mid after : DiskName → List ℕ → Type 0) (topology : Lent D) (disks : List (OpenView D)) (keep : Each (λ o. AllKept left o) disks)
    (give : (disk : DiskName) (c : List ℕ) → after disk c → MayBeLeft left mid (topology ∷ lent_all disks) disk c) (its_name : topology.name ≡ name.Topology) (read : ReadNotesAreKept) (g : Setting) (d : Disks) (says : AreRecordsOf g (kept_all disks) d) where
  abbrev Holds : Lent D → Type 0
  Holds l = (c : List ℕ) → left l.disk c → KeepsOf g d l.name c

  all_hold : (os : List (OpenView D)) → Each (λ o. AllKept left o) os → AreRecordsOf g (kept_all os) d → Each Holds (lent_all os)
  all_hold [] keep says = tt
  all_hold (o ∷ os) keep says = (λ c now. keeps_of read g d o.name o.kept c says.0 (keep.0 c now), all_hold os keep.1 says.1)

  -- whatever is left of one of them keeps the records
  keeps_records : (disk : DiskName) → disk ≢ name.Topology → Mem disk (map (λ o. o.name) disks) → (c : List ℕ) → after disk c → KeepsOf g d disk c
  keeps_records disk other here c now = elim (give disk c now) [
    | inl stays ↦ absurd (not_lacking disks disk here stays.0.1)
    | inr from ↦ by_one from.one from.among from.named from.may
  ]
    where
      by_one : (one : Lent D) → Mem one (topology ∷ lent_all disks) → one.name ≡ disk → left one.disk c → KeepsOf g d disk c
      by_one one (inl same) is may = absurd (other (sym is ∙ ap (λ (l : Lent D). l.name) (sym same) ∙ its_name))
      by_one one (inr among) is may = subst (λ (n : DiskName). KeepsOf g d n c) is (each_mem Holds one (lent_all disks) (all_hold disks keep says) among c may)

-- ---- a sound store

-- whatever is left of the topology's disk has the record, where that holds of the disk itself
pub all_written : {D : Type 0} (tells : Bool) (left : D → List ℕ → Type 0) (before mid after : DiskName → List ℕ → Type 0) (kept : Option Topology) (old new : D) (disks : List (OpenView D)) (replicas : ℕ) → AreKept tells before replicas 0 (values_of kept disks)
    → (t : Topology) → IsLent left before mid (topology_lent old ∷ lent_all disks) → ((disk : DiskName) (c : List ℕ) → after disk c → MayBeLeft left mid (topology_lent new ∷ lent_all disks) disk c) → ((c : List ℕ) → left new c → IsWritten (left old) t c)
    → (c : List ℕ) → after name.Topology c → IsWritten (before name.Topology) t c
all_written tells left before mid after kept old new disks replicas are t so give own c now =
    let away = lacks_by_names name.Topology disks _ (sym (names_kept disks) ∙ are.named) (not_topology (joiners_kept kept 0) replicas) in
    written_through (before name.Topology) (left old) so.out.0 t c (own c (back_own left before mid (topology_lent old) (topology_lent new) (lent_all disks) so refl after give away c now))

module _ {D : Type 0} (tells : Bool) (sure : IsTrue tells) (left : D → List ℕ → Type 0) (before mid after : DiskName → List ℕ → Type 0) (kept : Option Topology) (old new : D) (disks : List (OpenView D)) (replicas : ℕ) (are : AreKept tells before replicas 0 (values_of kept disks))
    (row : ShardRow) (t : Topology) (answer : IsAnswer (values_of kept disks) row (Ok t)) (keep : Each (λ o. AllKept left o) disks) (so : IsLent left before mid (topology_lent old ∷ lent_all disks))
    (give : (disk : DiskName) (c : List ℕ) → after disk c → MayBeLeft left mid (topology_lent new ∷ lent_all disks) disk c) (either : (c : List ℕ) → left new c → IsOpened (left old) c ⊎ IsWritten (left old) t c)
    (read_topology : ReadTopologyIsKept) (read_notes : ReadNotesAreKept) (fits : TopologyFits) where
  abbrev k : KeptValues
  k = values_of kept disks

  others : (disk : DiskName) → disk ≢ name.Topology → StaysAs (before disk) (after disk)
  others = back_others left before mid (topology_lent old) (topology_lent new) (lent_all disks) so refl after give (IsWritten (left old) t) refl either

  or_not : (c : List ℕ) → after name.Topology c → IsOpened (before name.Topology) c ⊎ IsWritten (before name.Topology) t c
  or_not c now =
      ⊎_elim (λ from. inl from) (λ w. inr (written_through (before name.Topology) (left old) so.out.0 t c w.1))
      (back_or left before mid (topology_lent old) (topology_lent new) (lent_all disks) so refl after give (IsWritten (left old) t) refl either name.Topology c now)

  module _ (g : Setting) (same : g.config.replicas ≡ replicas) (sound : IsSoundStore g before) (b : Bytes) (choice : IsChoice g after b) where
    it : IsLonger k.topology (accepted k.disks) row t
    it = answered k.topology (accepted k.disks) row t answer.is

    some : LeavesSomething g before
    some disk here = elim (same_or_not disk name.Topology) [
      | inl is ↦ let x = are.topology sure in (x.0, subst (λ (n : DiskName). before n x.0) (sym is) x.1)
      | inr not ↦ let x = others disk not (b disk) (choice disk here) in (x.0, x.1)
    ]

    are_own : AreKept tells before g.config.replicas 0 k
    are_own = subst (λ n. AreKept tells before n 0 k) (sym same) are

    -- the kept topology is the setting's
    own : record { joiners = it.was.joiners; table = it.was.table } ≡ topology_of g
    own = topology_is tells sure before 0 g k are_own some sound read_topology fits it.was it.is_kept

    asked : IsAsked it.was g
    asked = record { joiners = ap (λ (u : PlainTopology). u.joiners) (sym own); table = ap (λ (u : PlainTopology). u.table) (sym own) }

    abbrev records : Disks
    records = its tells sure before g k are_own it.was it.is_kept asked

    says : AreRecordsOf g k.disks records
    says = of tells sure before g k are_own it.was it.is_kept asked

    names : map (λ d. d.name) k.disks ≡ other_names g.config.joiners g.config.replicas
    names = named tells sure before g k are_own it.was it.is_kept asked

    row_added : IsRowAdded g row before after
    row_added = record {
      was = let x = are.topology sure in (x.0, x.1);
      others = λ disk here other. others disk other;
      records = records;
      keep = λ disk here c now. elim (same_or_not disk name.Topology) [
        | inl is ↦ subst (λ (n : DiskName). KeepsOf g records n c) (sym is) tt
        | inr not ↦
            keeps_records left mid after (topology_lent new) disks keep give refl read_notes g records says disk not
            (subst (Mem disk) (sym names ∙ names_kept disks) (all_named g disk here not)) c now
      ];
      free = ap (λ (js : List (List BallotNote)). too_soon_for (all_batches js) row.start) (sym (notes_are g records k.disks names are.kinds says)) ∙ it.free;
    }

    longer_is : t ≡ journal.topology_of g.config.joiners (g.config.table ++ row ∷ [])
    longer_is = sym it.longer ∙ ap (λ (u : PlainTopology). journal.topology_of u.joiners (u.table ++ row ∷ [])) own

    sound_longer : RowIsSound g before after → IsWritten (before name.Topology) t (b name.Topology) → KeepSound (with_row g row) b
    sound_longer law w = (law row b sound row_added choice).1 (subst (λ (u : Topology). Keeps (Some u) (b name.Topology)) longer_is w.keeps)

    sound_either : RowIsSound g before after → IsOpened (before name.Topology) (b name.Topology) ⊎ IsWritten (before name.Topology) t (b name.Topology) → KeepSound g b ⊎ KeepSound (with_row g row) b
    sound_either law (inl here) = inl ((law row b sound row_added choice).0 here)
    sound_either law (inr w) = inr (sound_longer law w)

  -- the disks are back, and the topology's may have the row
  pub changed : ((g : Setting) → RowIsSound g before after) → ((g : Setting) → StaysSound g before after) → (surely none : Type 0) → (surely → (c : List ℕ) → left new c → IsWritten (left old) t c) → GoesOn (left old) (left new)
      → (none → StaysAs (left old) (left new)) → Leaves before after replicas (λ r. r ≡ row) (HasRow tells before replicas row) surely none
  changed law same surely none durable grows still =
      let stays = λ (no : none). back_stays left before mid (topology_lent old) (topology_lent new) (lent_all disks) so refl after give (still no) in
      record {
        stays = stays;
        others = others;
        topology = λ c now. ⊎_elim (λ from. inl from) (λ w. inr (t, (k, are, answer), w)) (or_not c now);
        grown = back_grown left before mid (topology_lent old) (topology_lent new) (lent_all disks) so refl after give grows;
        longer = λ yes r is g count sound. (
            subst (λ (x : ShardRow). IsSoundStore (with_row g x) after) (sym is)
            (λ b choice. sound_longer g count sound b (λ disk here. choice disk (disk_onward g (with_row g row) refl refl disk here)) (law g) (all_written tells left before mid after kept old new disks replicas are t so give (durable yes) (b name.Topology) (choice name.Topology tt)))
            );
        still = λ no g sound. same g sound (λ disk here. stays no disk);
        either = λ r is g count sound. (
            subst (λ (x : ShardRow). IsSoundOr g (with_row g x) after) (sym is)
            (λ b choice. sound_either g count sound b choice (law g) (or_not (b name.Topology) (choice name.Topology tt)))
            );
      }

-- none has changed
pub unchanged : (before after : DiskName → List ℕ → Type 0) (replicas : ℕ) (is_row : ShardRow → Type 0) (has : List ℕ → Type 0) (surely none : Type 0) → (surely → ⊥) → ((g : Setting) → StaysSound g before after)
    → ((disk : DiskName) → StaysAs (before disk) (after disk)) → Leaves before after replicas is_row has surely none
unchanged before after replicas is_row has surely none not same stay = record {
  stays = λ no. stay;
  others = λ disk other. stay disk;
  topology = λ c now. inl (stay name.Topology c now);
  grown = all_grow before after stay;
  longer = λ yes. absurd (not yes);
  still = λ no g sound. same g sound (λ disk here. stay disk);
  either = λ r is g count sound b choice. inl (same g sound (λ disk here. stay disk) b choice);
}
