-- What a verification does: what a store keeps is reported over a click log, and no journal changes.
use Rattle.std.specs.Prelude.{ℕ, ◌≡◌, List, ◌++◌, map, Bool, None, Some, Option, IsSomeAnd}
use Rattle.std.specs.List.{list_any}
use Rattle.outside.specs.declared.store.DiskName.TheVariants as name
use Rattle.photon_cli.specs.Terms.{AreLeft, ClickRec, Images, IsClickLog, IsKeptIn, IsLogOf, Journals, KeepsTopology, KeptStore, ReportLine, Setting, Tells, Text, TookPrefix, Topology, U, distinct, is_missing, text_of}
use Rattle.photon_model.specs.Report.{report}
use Rattle.photon_model.specs.Topology.{Store}
use Rattle.photon_model.specs.Verification.{AreOf}
use Rattle.photon_cli.specs.declared.engine.run.TheConstants.{REPLICAS}

-- the setting is over the clicks of this log, and has the topology that the store keeps
pub record IsOver (log : List ℕ) (topology : Topology) (g : Setting) : Type 0 where
  pub clicks : IsLogOf log g
  pub joiners : g.config.joiners ≡ topology.joiners
  pub table : g.config.table ≡ topology.table
  pub replicas : g.config.replicas ≡ REPLICAS

-- The store is read as what its disks keep, each in what a stop might have left of it: the topology, and, where one is kept, the
-- records of the replicas and the outputs.
pub record IsReadFrom (before : Images) (log : List ℕ) (kept : KeptStore) : Type 0 where
  pub topology : IsKeptIn (before name.Topology) (KeepsTopology kept.topology)
  pub records : (t : Topology) → kept.topology ≡ Some t → (g : Setting) → IsOver log t g → Tells g before kept.journals

-- these lines are the report of records that the disks keep, whatever these are
pub record Reports (g : Setting) (before : Images) (journals : Journals) (lines : List ReportLine) : Type 0 where
  pub store : Store
  pub left : AreLeft g before store
  pub are : AreOf g store.disks journals
  pub told : lines ≡ report g store.disks

-- these lines are told of what a store keeps, over the clicks of a log: where no topology is kept every click is unmatched
pub record IsTold (before : Images) (log : List ℕ) (kept : KeptStore) (lines : List ReportLine) : Type 0 where
  pub topology : IsKeptIn (before name.Topology) (KeepsTopology kept.topology)
  pub nothing : kept.topology ≡ None → (cs : List ClickRec) → IsClickLog log cs → lines ≡ map (λ (c : ClickRec). U c.id) (distinct cs)
  pub something : (t : Topology) → kept.topology ≡ Some t → (g : Setting) → IsOver log t g → Reports g before kept.journals lines

-- the log is there and isn't valid
abbrev pub IsUnreadable : (told : List ℕ → Option (List ℕ)) → (clicks : Text) → Type 0
IsUnreadable told clicks = IsSomeAnd (told clicks) (λ log. (cs : List ClickRec) → IsClickLog log cs → ⊥)

-- it is there and is valid
abbrev pub IsReadable : (told : List ℕ → Option (List ℕ)) → (clicks : Text) → Type 0
IsReadable told clicks = (cs : List ClickRec) × IsSomeAnd (told clicks) (λ log. IsClickLog log cs)

-- Here told says what bytes are under a name.
module _ (told : List ℕ → Option (List ℕ)) (clicks : Text) (before : Images) where
  -- they were written behind what was there: whole, or a prefix of them
  abbrev pub PrintsKept : (missing : Bool) → (old new : List ℕ) → Type 0
  PrintsKept missing old new = (kept : KeptStore) × (lines : List ReportLine) × IsSomeAnd (told clicks) (λ log. IsTold before log kept lines) × (missing ≡ list_any is_missing lines) × (new ≡ old ++ text_of lines)

  abbrev pub PrintsKeptPrefix : (old new : List ℕ) → Type 0
  PrintsKeptPrefix old new = (kept : KeptStore) × (lines : List ReportLine) × IsSomeAnd (told clicks) (λ log. IsTold before log kept lines) × TookPrefix old (text_of lines) new
