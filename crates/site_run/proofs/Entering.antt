-- From a store that was opened to the nodes of a run over it: their records, their places, and the disks that are out.
use Rattle.std.proofs.Common.{◌≡◌, ◌≢◌, ⊎_elim, ℕ, ◌<◌, List, ◌∷◌, map, Some, sym, ◌∙◌, subst, arith}
use Rattle.site_run.proofs.Words.{Each, Mem, each_at, each_more, DiskName, IsOpened, Topology, Setting, AreKeptPlaces, Disks, topology_of, Lent, IsOfOne, MayBeLeft, StaysAs, opened_same, Images, IsSoundStore, KeepsTopology, WrittenIsSound, IsTopologyWritten, Fits, all_kept, other_names, KeptDisk, OpenView, IsOfKind, AreRecordsOf, kept_all, lent_all, IsOut, IsAsked, others_apart, others_are, is_named, not_topology, records_of, are_records, site_fits, names_kept, AreOut, KeepsItsRecord, lacks_by_names, KeepsAsked, OffsetDisk, RetryDisk, TopologyDisk}
use Rattle.site_run.proofs.Outing.{stays_goes_on}

-- ---- the records of a run's nodes

module _ {D : Type 0} (disks : List (OpenView D)) (n replicas : ℕ) (named : map (λ (o : OpenView D). o.name) disks ≡ other_names n replicas) where
  -- as opening the store tells them
  pub records_so : (g : Setting) → g.config.replicas ≡ replicas → g.config.joiners ≡ n → Each (λ (k : KeptDisk). IsOfKind k.name k.kept) (kept_all disks) → AreRecordsOf g (kept_all disks) (records_of g (kept_all disks))
  records_so g count same kinds = grind (arith, others_are, are_records, names_kept, others_apart)

  there : (disk : DiskName) → Mem disk (other_names n replicas) → Mem disk (map (λ (k : KeptDisk). k.name) (kept_all disks))
  there disk = subst (λ (l : List DiskName). Mem disk l) (sym (names_kept disks ∙ named))

  -- and the places that the dispatchers keep fit the log, if those of the opened journals do
  pub places_so : (g : Setting) (d : Disks) → AreRecordsOf g (kept_all disks) d → Each (Fits g.clicks) (all_kept (kept_all disks)) → (s : ℕ) → s < 2 → AreKeptPlaces g (d.dispatchers s)
  places_so g d records fit s lt = site_fits g (kept_all disks) d s records fit (there (OffsetDisk s) (is_named n replicas (OffsetDisk s) lt)) (there (RetryDisk s) (is_named n replicas (RetryDisk s) lt))

-- ---- disks that aren't the topology's

-- the disk has another name
abbrev pub IsApart : {D : Type 0} → Lent D → Type 0
IsApart l = l.name ≢ TopologyDisk

-- so it is with all others of a store that was opened
pub all_apart : {D : Type 0} (disks : List (OpenView D)) (n replicas : ℕ) → map (λ (o : OpenView D). o.name) disks ≡ other_names n replicas → Each IsApart (lent_all disks)
all_apart disks n replicas named = lacks_by_names TopologyDisk disks _ named (not_topology n replicas)

-- ---- the disks that are out

-- the setting's record is what was asked
asked_same : (asked : Topology) (g : Setting) → IsAsked asked g → (c : List ℕ) → KeepsAsked (Some asked) c → KeepsTopology (Some (topology_of g)) c
asked_same asked g is c keeps = grind arith

module _ {D : Type 0} (asked : Topology) (left : D → List ℕ → Type 0) (before inside : Images) (topology : Lent D) (others : List (Lent D)) (out : IsOut asked left before inside topology others) where
  pub out_so : AreOut left before inside topology others
  out_so = search (each_more, stays_goes_on)

  pub keeps_so : (g : Setting) → IsAsked asked g → topology.name ≡ TopologyDisk → KeepsItsRecord left g topology
  keeps_so g is named = record { named = named; keeps = λ c here. asked_same asked g is c (out.keeps c here) }

  -- ---- given back as they were

  module _ (named : topology.name ≡ TopologyDisk) where
    -- of a disk but the topology's
    of_other : (disk : DiskName) (c : List ℕ) → disk ≢ TopologyDisk → IsOfOne left (topology ∷ others) disk c → IsOpened (before disk) c
    of_other disk c other of = grind (arith, each_at)

    module _ (apart : Each IsApart others) where
      -- of the topology's
      of_topology : (c : List ℕ) → IsOfOne left (topology ∷ others) TopologyDisk c → left topology.disk c
      of_topology c of = grind (arith, each_at)

      module _ (after : Images) (give : (disk : DiskName) (c : List ℕ) → after disk c → MayBeLeft left inside (topology ∷ others) disk c) where
        topology_left : (c : List ℕ) → after TopologyDisk c → left topology.disk c
        topology_left c now = ⊎_elim (λ in_it. absurd (in_it.0.0 named)) (λ of. of_topology c of) (give TopologyDisk c now)

        pub other_stays : (disk : DiskName) → disk ≢ TopologyDisk → StaysAs (before disk) (after disk)
        other_stays disk other c now = ⊎_elim (λ in_it. opened_same (before disk) c (out.in_store disk in_it.0 c in_it.1)) (λ of. of_other disk c other of) (give disk c now)

        -- something was left of the topology's disk before, if something of it is left now
        topology_was : (c : List ℕ) → after TopologyDisk c → (o : List ℕ) × before TopologyDisk o
        topology_was c now = grind (arith, topology_left)

        written_so : (g : Setting) → IsAsked asked g → (c : List ℕ) → after TopologyDisk c → IsTopologyWritten g before after
        written_so g is c now = grind (arith, topology_was, asked_same, topology_left, other_stays)

        -- the store is as sound as it was
        pub still_sound : (g : Setting) → IsAsked asked g → WrittenIsSound g before after → IsSoundStore g before → IsSoundStore g after
        still_sound g is law sound b choice = law sound (written_so g is (b TopologyDisk) (choice TopologyDisk tt)) b choice
