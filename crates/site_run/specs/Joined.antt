-- What a join of both sites over a store comes to, once all nodes rest.
use Rattle.std.specs.Prelude.{◌≡◌, ◌⊎◌, ℕ, ◌<◌, ◌≤◌, List, [], map, Some}
use Rattle.site_run.specs.Terms.{AreLeft, BusEntry, ClickLine, DiskName, Disks, Entry, Images, IsAtRest, IsDisk, IsRunOf, KeepsOf, Mem, Node, ReportLine, Setting, StateOf, Store, disks, opening, shard, shards, world_after}
use Rattle.event_id.specs.declared.id.EventId.{EventId}
use Rattle.registry_state.specs.declared.Token.{Token}
use Rattle.registry_state.specs.declared.Batch.{Batch}
use Rattle.registry_state.specs.LookBack.{bound_of, holder}
use Rattle.ballot_core.specs.declared.Ballot.{Ballot}
use Rattle.log_records.specs.Report as logs
use Rattle.paxos_defs.specs.declared.Place.{Place}
use Rattle.paxos_defs.specs.Notes.Note.{Accepted}
use Rattle.photon_model.specs.Journals.{journals, decided}
use Rattle.photon_model.specs.Report.{report}
use Rattle.photon_model.specs.Sound.{IsDrained, IsMissing, accepted_inserts, known_of}
use Rattle.photon_model.specs.Exact.{IsExact}
use Rattle.photon_model.specs.Stores.{empty_disks}
use Rattle.site_run.specs.Laws.{JoinerStopped}

-- the batches that the replicas' records decide in a shard
abbrev pub decided_by : Setting → Disks → ℕ → List Batch
decided_by g d = decided (journals g.config.replicas d.replicas)

-- the bound stands in an accepted record
abbrev pub IsAcceptedBound : Setting → Disks → ℕ → Type 0
IsAcceptedBound g d bound = (r : ℕ) × (at : Place) × (b : Ballot) × (v : Batch) × (r < g.config.replicas) × Mem (Accepted at b v) (d.replicas r).notes × (v.bound ≡ bound)

-- an insert of the id by the token that holds it stood in an accepted record
abbrev pub WasHeld : Setting → (old new : Disks) → EventId → Type 0
WasHeld g old new i = (h : Token) × (holder (decided_by g new (shard g i)) i ≡ Some h) × Mem (record { id = i; token = h }) (accepted_inserts g old)

-- From the records that the disks kept when they were opened to those that whatever a stop now leaves of them keeps. Both
-- dispatchers have drained. Each shard's bound is not below the horizon, and is the horizon or one that was accepted before. Unless
-- a disk met a fault an id is missing only where it was held so before.
pub record Rested (g : Setting) (before after : Images) (faulted : Type 0) (left : Disks) : Type 0 where
  pub opened : Store
  pub were_kept : AreLeft g before opened
  pub keeps : (disk : DiskName) → IsDisk g disk → (c : List ℕ) → after disk c → KeepsOf g left disk c
  pub drained : (s : ℕ) → s < 2 → IsDrained g (left.dispatchers s)
  pub bounds : (s : ℕ) → s < shards g → g.config.horizon ≤ bound_of (decided_by g left s)
  pub no_others : (s : ℕ) → s < shards g → (bound_of (decided_by g left s) ≡ g.config.horizon) ⊎ IsAcceptedBound g opened.disks (bound_of (decided_by g left s))
  pub missing : (faulted → ⊥) → (i : EventId) → IsMissing g (known_of g left []) i → WasHeld g opened.disks left i

-- These are the lines of the report of the records that the disks keep.
pub record Joins (g : Setting) (before after : Images) (faulted : Type 0) (lines : List ReportLine) : Type 0 where
  pub left : Disks
  pub rested : Rested g before after faulted left
  pub are : lines ≡ report g left

-- From an empty store each click's line is that of the two logs, or the click is missing; unless a disk met a fault none is.
pub record JoinsAfresh (g : Setting) (faulted : Type 0) (lines : List ReportLine) : Type 0 where
  pub left : Disks
  pub are : lines ≡ report g left
  pub exact : (l : ClickLine) → Mem l g.clicks → IsExact g left l.click
  pub whole : (faulted → ⊥) → logs.text_of lines ≡ logs.report g.queries (map (λ (l : ClickLine). l.click) g.clicks) g.config.horizon

-- This history is a run from nothing that has come to rest, and these are the lines of the report of the records at its end. Each
-- click's line is that of the two logs, or the click is missing; unless a joiner stopped all are those of the two logs.
pub record RanAfresh (g : Setting) (h : List BusEntry) (lines : List ReportLine) : Type 0 where
  pub at : (n : Node) → StateOf n
  pub entries : List Entry
  pub run : IsRunOf g empty_disks h at entries
  pub rest : IsAtRest g (world_after g (opening empty_disks) entries)
  pub are : lines ≡ report g (disks (world_after g (opening empty_disks) entries))
  pub exact : (l : ClickLine) → Mem l g.clicks → IsExact g (disks (world_after g (opening empty_disks) entries)) l.click
  pub whole : (JoinerStopped g h → ⊥) → lines ≡ map (logs.line_of g.queries g.config.horizon) (logs.distinct (map (λ (l : ClickLine). l.click) g.clicks))
