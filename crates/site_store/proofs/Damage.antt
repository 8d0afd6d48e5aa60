-- Of a sound store no disk is told as damaged.
use Rattle.std.proofs.Common.{◌≡◌, ◌≢◌, inl, inr, ℕ, ◌≤◌, List, [], ◌∷◌, map, Bool, IsTrue, Option, Some, None, refl, sym, ◌∙◌, ap, subst, arith, All}
use Rattle.site_store.proofs.Words.{All-nil, All-cons, Each, DiskName, StandsFor, Topology, Keeps, note, IsNote, Setting, BallotNote, ReplicaKept, IsVoted, vote_record, joiners_kept, damaged_by, IsDamagedIn, IsKeptIn, IsJournalOf, IsFirst, IsFirstDisk, other_names, KeepsNotes, IsUnwritten, RunFault, IsWelcome, PlainTopology, Bytes, IsDisk, KeepsTopology, KeepsVotes, KeepSound, KeepsOf, IsSoundStore, ReadTopologyIsKept, TopologyFits, choose, LeavesSomething, Disks}
use Rattle.outside.specs.declared.store.DiskName.TheVariants as name
use Rattle.site_laws.proofs.Keeping.{as_note, is_note, record_is}
use Rattle.site_laws.proofs.Naming.{by_topology}
use Rattle.site_store.proofs.Lending.{each_back}
use Rattle.site_store.proofs.Names.{others_are}
use Rattle.site_store.proofs.Undamaged.{undamaged}

-- ---- the disks that are opened are the setting's

module _ (g : Setting) where
  first_is : (tells : Bool) (image : DiskName → List ℕ → Type 0) (names : List DiskName) (disk : DiskName) → Each (IsDisk g) names → IsFirst tells image names disk → IsDisk g disk
  first_is tells image names disk all first = (each_back (IsDisk g) first.front (disk ∷ first.rest) (subst (Each (IsDisk g)) first.order all)).0

-- ---- the disks of a sound store are journals

are_notes : (ns : List BallotNote) → Each IsVoted ns → All IsNote (map as_note ns)
are_notes [] all = All-nil IsNote
are_notes (n ∷ ns) all = All-cons IsNote (as_note n) (map as_note ns) (is_note n all.0) (are_notes ns all.1)

records_are : (ns : List BallotNote) → map vote_record ns ≡ map note (map as_note ns)
records_are [] = refl
records_are (n ∷ ns) = ap (λ (b : List ℕ). b ∷ map vote_record ns) (record_is n) ∙ ap (λ (bs : List (List ℕ)). note (as_note n) ∷ bs) (records_are ns)

pub notes_kept : (k : ReplicaKept) (c : List ℕ) → KeepsVotes k c → KeepsNotes (map as_note k.notes) c
notes_kept k c is = (are_notes k.notes is.0, subst (λ (rs : List (List ℕ)). StandsFor rs c) (records_are k.notes) is.1)

-- what a disk keeps of a setting's records is a journal of its kind
pub journal_of : (g : Setting) (d : Disks) (disk : DiskName) → disk ≢ name.Topology → (c : List ℕ) → KeepsOf g d disk c → IsJournalOf disk c
journal_of g d name.Topology other c keeps = absurd (other refl)
journal_of g d (name.Replica r) other c keeps = (_, notes_kept (d.replicas r) c keeps)
journal_of g d _ other c keeps = (_, keeps)

-- what a stop may leave of one disk, and something of each other
module _ (g : Setting) (image : DiskName → List ℕ → Type 0) (some : LeavesSomething g image) (sound : IsSoundStore g image) (disk : DiskName) (here : IsDisk g disk) (c : List ℕ) (now : image disk c) where
  one_each : (other : DiskName) → IsDisk g other → (b : List ℕ) × (image other b × (other ≡ disk → b ≡ c))
  one_each other is = grind arith

  abbrev chosen : (b : Bytes) × ((other : DiskName) → IsDisk g other → image other (b other) × (other ≡ disk → b other ≡ c))
  chosen = choose g (λ other b. image other b × (other ≡ disk → b ≡ c)) one_each

  all_sound : KeepSound g chosen.0
  all_sound = sound chosen.0 (λ other is. (chosen.1 other is).0)

  chosen_is : chosen.0 disk ≡ c
  chosen_is = (chosen.1 disk here).1 refl

  never_damaged : (at : ℕ) → damaged_by disk c at → ⊥
  never_damaged at damaged = undamaged disk c at (subst (IsJournalOf disk) chosen_is ((by_topology (λ disk. IsDisk g disk → IsJournalOf disk (chosen.0 disk)) (λ here. (_, all_sound.1.topology)) (λ disk other here. journal_of g all_sound.0.disks disk other (chosen.0 disk) (all_sound.1.records disk here))) disk here)) damaged

-- a topology that is kept has as many joiners as the setting
pub kept_joiners : ReadTopologyIsKept → TopologyFits → (g : Setting) (image : DiskName → List ℕ → Type 0) → LeavesSomething g image → IsSoundStore g image → (kept : Option Topology) (asked : ℕ) → asked ≤ g.config.joiners
    → IsKeptIn (image name.Topology) (Keeps kept) → joiners_kept kept asked ≤ g.config.joiners
kept_joiners read fits g image some sound None asked is kept_in = is
kept_joiners read fits g image some sound (Some t) asked is (c, now, keeps) =
    let b = (chosen g image some sound name.Topology tt c now).0 in
    let kept : KeepsTopology (Some (record { joiners = t.joiners; table = t.table })) (b name.Topology) =
    subst (λ (x : List ℕ). KeepsTopology (Some (record { joiners = t.joiners; table = t.table })) x) (sym (chosen_is g image some sound name.Topology tt c now)) (read (Some t) c keeps) in
    let same : t.joiners ≡ g.config.joiners = ap (λ (u : PlainTopology). u.joiners) (fits g b (record { joiners = t.joiners; table = t.table }) (all_sound g image some sound name.Topology tt c now) kept) in
    omega (arith, same)

-- ---- what isn't told of a sound store

module _ (tells : Bool) (sure : IsTrue tells) (image : DiskName → List ℕ → Type 0) (asked : ℕ) (read : ReadTopologyIsKept) (fits : TopologyFits) (g : Setting) (le : asked ≤ g.config.joiners)
    (sound : IsSoundStore g image) where
  is_disk : (disk : DiskName) → LeavesSomething g image → IsFirstDisk tells image g.config.replicas asked disk → IsDisk g disk
  is_disk disk some (inl topology) = subst (IsDisk g) (sym topology) tt
  is_disk disk some (inr (kept, kept_in, first)) =
      let n_le = kept_joiners read fits g image some sound kept asked le (kept_in sure) in
      first_is g tells image (other_names (joiners_kept kept asked) g.config.replicas) disk (others_are g (joiners_kept kept asked) n_le) first

  pub no_damage : (disk : DiskName) (at : ℕ) → IsFirstDisk tells image g.config.replicas asked disk → (IsTrue tells → IsDamagedIn image disk at) → LeavesSomething g image → ⊥
  no_damage disk at first was some = let (c, now, damaged) = was sure in never_damaged g image some sound disk (is_disk disk some first) c now at damaged

-- and a record that isn't written isn't damaged
pub unwritten_welcome : (holds : Type 0) (f : RunFault) (old new : ℕ) → IsUnwritten old new f → IsWelcome holds f
unwritten_welcome holds f old new is = grind arith
