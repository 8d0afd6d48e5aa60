-- A row that is put behind those of the table that a store keeps.
use Rattle.std.specs.Prelude.{◌≡◌, ◌≢◌, ◌⊎◌, ℕ, List, map, flat_map, Bool, IsTrue, Option, None, Some, Result, Ok, Err, ⊤}
use Rattle.site_store.specs.Terms.{DiskName, GoesOn, Images, IsOpened, IsSoundOr, IsSoundStore, Misplaced, OfDisk, RunFault, Setting, ShardRow, StaysAs, Topology, Unfit, all_batches, note_view, too_soon_for, topology_by}
use Rattle.outside.specs.declared.store.DiskName.TheVariants as name
use Rattle.registry_state.specs.declared.Batch.{Batch}
use Rattle.time_shards.specs.declared.AddFault.{AddFault}
use Rattle.time_shards.specs.declared.AddFault.TheVariants.{Rows, Start}
use Rattle.time_shards.specs.Shards.{added}
use Rattle.verify_pass.specs.declared.starts.TooSoon.{TooSoon}
use Rattle.verify_pass.specs.declared.starts.TooSoon.TheVariants.{Bound, Id}
use Rattle.photon_model.specs.Adding.{with_row}
use Rattle.run_fault.specs.declared.fault.Unfit.TheVariants as unfit
use Rattle.run_fault.specs.declared.fault.RunFault.TheVariants as fault
use Rattle.site_store.specs.Records.{KeptDisk, KeptValues, AreKept}
use Rattle.site_store.specs.Reading.{notes_at}
use Rattle.site_store.specs.Causes.{first_limit, HasCause, HasFailed}
use Rattle.site_store.specs.Written.{IsWritten}

-- ---- of kept values

-- what the replicas among these disks accepted, decided or not
abbrev pub accepted : List KeptDisk → List Batch
accepted disks = all_batches (map (map note_view) (flat_map (λ d. notes_at d.kept) disks))

-- why what was accepted forbids a start
abbrev pub unfit_by : TooSoon → Unfit
unfit_by (Bound bound) = unfit.Bound bound
unfit_by (Id id) = unfit.Id id

-- the topology of these joiners with the table, or the first reason against the row
abbrev pub answer_of : (joiners start : ℕ) → Result (List ShardRow) AddFault → Option TooSoon → Result Topology Unfit
answer_of joiners start (Err Rows) soon = Err unfit.Rows
answer_of joiners start (Err (Start last)) soon = Err (unfit.Start last start)
answer_of joiners start (Ok table) (Some soon) = Err (unfit_by soon)
answer_of joiners start (Ok table) None = Ok (topology_by joiners table)

-- the kept topology with the row, or the first reason against it
abbrev pub answer_to : Option Topology → List Batch → ShardRow → Result Topology Unfit
answer_to None batches row = Err unfit.NoTopology
answer_to (Some t) batches row = answer_of t.joiners row.start (added t.table row) (too_soon_for batches row.start)

-- nothing that is kept is at its limit, and this is answered
pub record IsAnswer (k : KeptValues) (row : ShardRow) (answer : Result Topology Unfit) : Type 0 where
  pub limits : first_limit k ≡ None
  pub is : answer_to k.topology (accepted k.disks) row ≡ answer

-- why the row can't be added: what is at its limit comes first
abbrev pub IsUnadded : KeptValues → ShardRow → RunFault → Type 0
IsUnadded k row (fault.Limit disk value) = first_limit k ≡ Some (fault.Limit disk value)
IsUnadded k row (fault.Reshard why) = IsAnswer k row (Err why)
IsUnadded k row fault.Memory = ⊤
IsUnadded k row _ = ⊥

-- ---- of a store

-- no place of a click log is looked at
abbrev pub NoneTold : List KeptDisk → Option Misplaced → Type 0
NoneTold disks told = told ≡ None

-- What may be left of the disks where a row, one of these, was to be added. Where sure holds it was added, and where none holds it
-- wasn't; has says of bytes that they have its record.
pub record Leaves (before after : Images) (replicas : ℕ) (is_row : ShardRow → Type 0) (has : List ℕ → Type 0) (sure none : Type 0) : Type 0 where
  -- Each disk stands for what it stood for, but for the topology's, which may have the row besides.
  pub stays : none → (disk : DiskName) → StaysAs (before disk) (after disk)
  pub others : (disk : DiskName) → disk ≢ name.Topology → StaysAs (before disk) (after disk)
  pub topology : (c : List ℕ) → after name.Topology c → IsOpened (before name.Topology) c ⊎ has c
  pub grown : (disk : DiskName) → GoesOn (before disk) (after disk)
  -- A sound store stays so, where the row was added for its setting with the row, and where it wasn't for its setting. Else each choice of
  -- what a stop leaves is sound for one of the two.
  pub longer : sure → (row : ShardRow) → is_row row → (g : Setting) → g.config.replicas ≡ replicas → IsSoundStore g before → IsSoundStore (with_row g row) after
  pub still : none → (g : Setting) → IsSoundStore g before → IsSoundStore g after
  pub either : (row : ShardRow) → is_row row → (g : Setting) → g.config.replicas ≡ replicas → IsSoundStore g before → IsSoundOr g (with_row g row) after

module _ (tells : Bool) (before : DiskName → List ℕ → Type 0) (replicas : ℕ) (row : ShardRow) where
  -- the disks kept values to which this is answered
  abbrev pub Answers : Result Topology Unfit → Type 0
  Answers answer = (k : KeptValues) × AreKept tells before replicas 0 k × IsAnswer k row answer

  -- why the row isn't added
  abbrev pub IsRowCause : (faulted : Type 0) → RunFault → Type 0
  IsRowCause faulted f = HasCause tells before replicas None NoneTold (λ log. ⊥) (HasFailed tells before replicas None NoneTold faulted) ⊥ ((why : Unfit) × (f ≡ fault.Reshard why) × Answers (Err why)) f

  -- the bytes have the record of a topology that is answered behind records that were kept
  abbrev pub HasRow : List ℕ → Type 0
  HasRow c = (t : Topology) × Answers (Ok t) × IsWritten (before name.Topology) t c

  -- The row was added. This table is that of the answer, whose record stands behind those that were kept, whatever a stop leaves.
  pub record IsAdded (after : DiskName → List ℕ → Type 0) (table : List ShardRow) : Type 0 where
    pub topology : Topology
    pub longer : topology.table ≡ table
    pub answers : Answers (Ok topology)
    pub written : IsTrue tells → (c : List ℕ) → after name.Topology c → IsWritten (before name.Topology) topology c

  -- What is left, by what is answered: after any fault but that of the topology's disk the row wasn't added.
  abbrev pub LeavesBy : (after : Images) → Result (List ShardRow) RunFault → Type 0
  LeavesBy after (Ok table) = Leaves before after replicas (λ r. r ≡ row) HasRow ⊤ ⊥
  LeavesBy after (Err f) = Leaves before after replicas (λ r. r ≡ row) HasRow ⊥ (f ≢ fault.Store (OfDisk name.Topology))
