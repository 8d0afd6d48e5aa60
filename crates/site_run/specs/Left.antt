-- What a run over a store leaves, by what a stop might have left of each disk before it and may leave of it afterwards.
use Rattle.std.specs.Prelude.{ℕ, List}
use Rattle.site_run.specs.Terms.{AreKept, AreLeft, AreRecordsOf, BusEntry, DiskName, Disks, Entry, Images, IsAtRest, IsDisk, IsRunOf, Journals, KeepsOf, NoJoinerStops, Node, SameRecords, Setting, StateOf, Store, disks, opening, world_after}
use Rattle.photon_model.specs.Verification.{AreOf}
use Rattle.site_run.specs.declared.ran.RunLog.{RunLog}

-- The history is a run of the whole system from these records, and whatever a stop leaves of the disks keeps what their nodes'
-- states may hold.
pub record HasRun (g : Setting) (d : Disks) (h : List BusEntry) (after : Images) : Type 0 where
  pub at : (n : Node) → StateOf n
  pub entries : List Entry
  pub run : IsRunOf g d h at entries
  pub keeps : AreKept g at after

-- The history is a run that has come to rest. Whatever a stop leaves of the disks keeps the records at its end, and these are
-- what was read back. Unless a disk met a fault no joiner has stopped.
pub record HasRested (g : Setting) (d : Disks) (h : List BusEntry) (after : Images) (faulted : Type 0) (journals : Journals) : Type 0 where
  pub at : (n : Node) → StateOf n
  pub entries : List Entry
  pub run : IsRunOf g d h at entries
  pub rest : IsAtRest g (world_after g (opening d) entries)
  pub keeps : AreKept g at after
  pub holds : (disk : DiskName) → IsDisk g disk → (c : List ℕ) → after disk c → KeepsOf g (disks (world_after g (opening d) entries)) disk c
  pub read : AreOf g (disks (world_after g (opening d) entries)) journals
  pub stops : (faulted → ⊥) → NoJoinerStops entries

-- The run is from the records that the disks kept when they were opened, each in an image of its disk; it is one from any records
-- that say the same of the setting's nodes.
pub record RunLeft (g : Setting) (before after : Images) (log : RunLog) : Type 0 where
  pub store : Store
  pub kept : AreLeft g before store
  pub opened : AreRecordsOf g log.opened store.disks
  pub ran : (d : Disks) → SameRecords g store.disks d → HasRun g d log.air.history after

pub record RestLeft (g : Setting) (before after : Images) (h : List BusEntry) (faulted : Type 0) (journals : Journals) : Type 0 where
  pub store : Store
  pub kept : AreLeft g before store
  pub ran : (d : Disks) → SameRecords g store.disks d → HasRested g d h after faulted journals
