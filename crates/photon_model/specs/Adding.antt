-- A row that is put behind a table's rows, where nothing that a replica accepted forbids its start: a sound store stays sound, and
-- its report the same.
use Rattle.std.specs.Prelude.{◌≡◌, ◌≢◌, ℕ, Some, ◌++◌, ◌∷◌, [], None}
use Rattle.photon_model.specs.Terms.{EventId, Setting, ShardRow, shard}
use Rattle.verify_pass.specs.TooSoon.{all_batches, too_soon_for}
use Rattle.photon_model.specs.Journals.{journals}
use Rattle.photon_model.specs.Report.{report}
use Rattle.photon_model.specs.Runs.{Disks}
use Rattle.photon_model.specs.Sound.{SoundStore, IsSettled, known_of}
use Rattle.photon_model.specs.Topology.{Store, WholeSound, topology_of}

-- the setting with one more row
abbrev pub with_row : Setting → ShardRow → Setting
with_row g row = record g { config = record g.config { table = g.config.table ++ row ∷ [] } }

-- nothing that any replica accepted forbids a row from this start on
abbrev pub IsFree : Setting → Disks → ℕ → Type 0
IsFree g d start = too_soon_for (all_batches (journals g.config.replicas d.replicas)) start ≡ None

-- an id that the row moves to another shard isn't settled: it is neither registered nor expired nor written
abbrev pub MovesUnsettled : Type 0
MovesUnsettled = (g : Setting) (d : Disks) (row : ShardRow) (i : EventId) → SoundStore g d → IsFree g d row.start → shard (with_row g row) i ≢ shard g i → IsSettled g (known_of g d []) i → ⊥

abbrev pub RowKeepsStores : Type 0
RowKeepsStores = (g : Setting) (d : Disks) (row : ShardRow) → SoundStore g d → IsFree g d row.start → SoundStore (with_row g row) d

abbrev pub RowKeepsReport : Type 0
RowKeepsReport = (g : Setting) (d : Disks) (row : ShardRow) → SoundStore g d → IsFree g d row.start → report (with_row g row) d ≡ report g d

-- a whole store stays so with the record of the longer table behind its topology's
abbrev pub RowKeepsWhole : Type 0
RowKeepsWhole =
    (g : Setting) (s : Store) (row : ShardRow) → WholeSound g s → IsFree g s.disks row.start → WholeSound (with_row g row) (record s { topology = Some (topology_of (with_row g row)) })
