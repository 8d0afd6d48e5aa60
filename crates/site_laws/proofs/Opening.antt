-- What keeps the disks of a store sound: no bytes at all, nothing new, the topology's record, and what is read from them.
use Rattle.std.proofs.Common.{◌≡◌, ◌≢◌, ⊎_elim, ℕ, Bool, true, List, [], Option, Some, None, refl, sym, ◌∙◌, ap, subst, arith}
use Rattle.site_laws.proofs.Words.{All-nil, some_same, none_some, IsPair, Setting, Topology, topology_of, Store, WholeSound, empty_disks, empty_store, TopologyComesFirst, DiskName, gate_rule, records, IsOpened, Images, IsDisk, IsChoice, KeepsTopology, KeepsOf, IsFit, KeepSound, IsSoundStore, AreLeft, SameRecords, KeepOneTopology, HoldSameRecords, SameIsWhole, LeavesNothing, TopologyIsFirst, TopologyFits, StaysSound, OthersStay, WrittenIsSound}
use Rattle.outside.specs.declared.store.DiskName.TheVariants as name
use Rattle.site_laws.specs.Stores.{Bytes}
use Rattle.site_laws.proofs.Naming.{choose, by_topology}
use Rattle.site_laws.proofs.Keeping.{topology_again, keeps_again}

-- ---- no bytes

empty_keeps : (g : Setting) (disk : DiskName) → KeepsOf g empty_disks disk []
empty_keeps g name.Topology = tt
empty_keeps g (name.Replica r) = (tt, refl)
empty_keeps g (name.Output s j) = (All-nil IsPair, refl)
empty_keeps g _ = refl

pub empty_sound : ((g : Setting) → WholeSound g empty_store) → (g : Setting) (image : Images) → LeavesNothing g image → IsSoundStore g image
empty_sound whole g image nothing b choice = (
  empty_store,
  record {
    topology = topology_again None [] (b name.Topology) (stands name.Topology tt) refl;
    records = λ disk is. keeps_again g empty_disks disk [] (b disk) (stands disk is) (empty_keeps g disk);
    used = λ disk is other some. absurd (some (ap records (no_bytes disk is)));
  },
  whole g,
  λ t e. none_some t e,
)
  where
    no_bytes : (disk : DiskName) → IsDisk g disk → b disk ≡ []
    no_bytes disk is = nothing disk is (b disk) (choice disk is)

    stands : (disk : DiskName) → IsDisk g disk → gate_rule [] ≡ gate_rule (b disk)
    stands disk is = ap gate_rule (sym (no_bytes disk is))

-- ---- nothing new

keep_again : (g : Setting) (b c : Bytes) → ((disk : DiskName) → IsDisk g disk → gate_rule (b disk) ≡ gate_rule (c disk)) → KeepSound g b → KeepSound g c
keep_again g b c stands x = grind arith

pub stays_sound : (g : Setting) (before after : Images) → StaysSound g before after
stays_sound g before after sound stays b choice =
    let was = choose g (λ disk c. before disk c × (gate_rule (b disk) ≡ gate_rule c)) (λ disk is. let x = stays disk is (b disk) (choice disk is) in (x.0, (x.1, x.2))) in
    keep_again g was.0 b (λ disk is. sym (was.1 disk is).1) (sound was.0 (λ disk is. (was.1 disk is).0))

-- ---- the topology is written

-- of a sound store each disk but the topology's stands for nothing new
module _ (g : Setting) (before after : Images) (sound : IsSoundStore g before) (was : (c : List ℕ) × before name.Topology c) (others : OthersStay g before after) (b : Bytes) (choice : IsChoice g after b) where
  -- what may have been left before, and stood for the same
  abbrev Stood : DiskName → List ℕ → Type 0
  Stood disk c = before disk c × (gate_rule (b disk) ≡ gate_rule c)

  other_was : (disk : DiskName) → disk ≢ name.Topology → IsDisk g disk → (c : List ℕ) × Stood disk c
  other_was disk other is = let x = others disk is other (b disk) (choice disk is) in (x.0, (x.1, x.2))

  pub still : IsOpened (before name.Topology) (b name.Topology) → KeepSound g b
  still here =
      let was = choose g Stood (by_topology (λ disk. IsDisk g disk → (c : List ℕ) × Stood disk c) (λ _. (here.0, (here.1, here.2))) other_was) in
      keep_again g was.0 b (λ disk is. sym (was.1 disk is).1) (sound was.0 (λ disk is. (was.1 disk is).0))

  -- what may have been left before, where the topology's disk keeps something else now
  abbrev Was : DiskName → List ℕ → Type 0
  Was disk c = before disk c × (disk ≢ name.Topology → gate_rule c ≡ gate_rule (b disk))

  pub earlier : (c : Bytes) × ((disk : DiskName) → IsDisk g disk → Was disk (c disk))
  earlier =
      choose g Was
      (by_topology (λ disk. IsDisk g disk → (c : List ℕ) × Was disk c) (λ _. (was.0, (was.1, λ other. absurd (other refl))))
      (λ disk other is. let x = other_was disk other is in (x.0, (x.1.0, λ _. sym x.1.1))))

  pub were_sound : KeepSound g earlier.0
  were_sound = sound earlier.0 (λ disk is. (earlier.1 disk is).0)

  pub used_so : (disk : DiskName) → IsDisk g disk → disk ≢ name.Topology → records (b disk) ≢ [] → were_sound.0.is_used ≡ true
  used_so disk is other some = grind (arith, were_sound, earlier)

pub written_sound : TopologyComesFirst → (g : Setting) (before after : Images) → WrittenIsSound g before after
written_sound first g before after sound written b choice =
    let x = were_sound g before after sound written.was written.others b choice in
    let c = earlier g before after sound written.was written.others b choice in
    ⊎_elim (still g before after sound written.was written.others b choice)
    (λ keeps. (
      record x.0 { topology = Some (topology_of g) },
      record {
        topology = keeps;
        records = by_topology (λ disk. IsDisk g disk → KeepsOf g x.0.disks disk (b disk)) (λ _. tt) (λ disk other is. keeps_again g x.0.disks disk (c.0 disk) (b disk) ((c.1 disk is).1 other) (x.1.records disk is));
        used = used_so g before after sound written.was written.others b choice;
      },
      first g x.0 x.2,
      λ t e. sym (some_same (topology_of g) t e),
    ))
    (written.topology (b name.Topology) (choice name.Topology tt))

-- ---- what is read from a sound store

module _ (g : Setting) (image : Images) (s : Store) (sound : IsSoundStore g image) (left : AreLeft g image s) where
  -- one image of each disk, which keeps what was read of it
  abbrev Read : DiskName → List ℕ → Type 0
  Read disk c = (image disk c × KeepsOf g s.disks disk c) × (disk ≡ name.Topology → KeepsTopology s.topology c)

  read_each : (disk : DiskName) → IsDisk g disk → (c : List ℕ) × Read disk c
  read_each = grind arith

  pub opened_whole : KeepOneTopology → HoldSameRecords → SameIsWhole → (used : Bool) × WholeSound g (record s { is_used = used }) × IsFit g s
  opened_whole one_topology one_records same_whole =
      let read = choose g Read read_each in
      let x = sound read.0 (λ disk is. (read.1 disk is).0.0) in
      let topology : x.0.topology ≡ s.topology = one_topology x.0.topology s.topology (read.0 name.Topology) x.1.topology ((read.1 name.Topology tt).1 refl) in
      let same : SameRecords g x.0.disks s.disks = one_records g read.0 x.0.disks s.disks x.1.records (λ disk is. (read.1 disk is).0.1) in
      (x.0.is_used, same_whole g x.0 (record s { is_used = x.0.is_used }) topology refl same x.2, λ t e. x.3 t (topology ∙ e))

-- ---- the topology of a sound store

pub topology_first : TopologyIsFirst
topology_first g b disk x is other some = subst (λ (kept : Option Topology). KeepsTopology kept (b name.Topology)) (x.2.topology (x.1.used disk is other some)) x.1.topology

pub topology_fits : KeepOneTopology → TopologyFits
topology_fits one g b t x keeps = x.3 t (one x.0.topology (Some t) (b name.Topology) x.1.topology keeps)
