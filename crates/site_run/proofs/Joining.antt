-- What the journals of a run that has come to rest say is the report of what its disks keep.
use Rattle.std.proofs.Common.{◌≡◌, inl, inr, ⊎_elim, ℕ, zero, suc, ◌+◌, ◌<◌, ◌≤◌, List, [], ◌∷◌, ◌++◌, refl, arith, ◌⊎◌, ap, ◌∙◌, subst}
use Rattle.site_run.proofs.Words.{cases_lt, Mem, mem_left, mem_right, mem_split, Batch, Ballot, Place, Promised, Accepted, BallotNote, ReplicaKept, All-nil, EventId, IsTable, Insert, bound_of, DiskName, ClickLine, ReportLine, M, BusEntry, IsPair, Setting, Checked, values_from, World, Disks, disks, world_after, opening, WholeSound, SoundStore, IsMissing, inserts_of, known_of, HasBounds, IsBoundOk, RestLeaves, RestIsDone, AtRestFromEmpty, ClicksAreExact, ReportIsExact, TellsTheMissing, RunsKeepStores, empty_disks, empty_store, TellsTheReport, Journals, Images, KeepsOf, IsSoundStore, SameRecords, KeepOneTopology, HoldSameRecords, LeavesNothing, same_is_whole, opened_whole, HasRested, RestLeft, lines_by, AreLinesBy, IsAcceptedBound, WasHeld, Joins, JoinsAfresh, RanAfresh, decided_by, JoinerStopped, NoneStops, OutputDisk, ReplicaDisk, TopologyDisk}
use Rattle.log_records.specs.Report as logs
use Rattle.photon_model.specs.Report as kept

-- ---- the bounds of accepted records

abbrev bounds_in : List BallotNote → List ℕ
bounds_in [] = []
bounds_in (Accepted p b v ∷ ns) = v.bound ∷ bounds_in ns
bounds_in (Promised p b ∷ ns) = bounds_in ns

has_bound : (ns : List BallotNote) (at : Place) (b : Ballot) (v : Batch) → Mem (Accepted at b v) ns → Mem v.bound (bounds_in ns)
has_bound [] at b v m = absurd m
has_bound (Accepted p c w ∷ ns) at b v h = grind (arith, has_bound ns at b v)
has_bound (Promised p c ∷ ns) at b v h = grind (arith, has_bound ns at b v)

-- a record among these accepts a value with the bound
abbrev pub Accepts : List BallotNote → ℕ → Type 0
Accepts ns bound = (at : Place) × (b : Ballot) × (v : Batch) × Mem (Accepted at b v) ns × (v.bound ≡ bound)

from_record : (ns : List BallotNote) (bound : ℕ) → Mem bound (bounds_in ns) → Accepts ns bound
from_record [] bound m = absurd m
from_record (Accepted p b v ∷ ns) bound (inl e) = (p, b, v, inl refl, e)
from_record (Accepted p b v ∷ ns) bound (inr m) = let x = from_record ns bound m in (x.0, x.1, x.2, inr x.3, x.4)
from_record (Promised p b ∷ ns) bound m = let x = from_record ns bound m in (x.0, x.1, x.2, inr x.3, x.4)

-- those of so many replicas from this one on
abbrev pub bounds_from : (ℕ → ReplicaKept) → ℕ → ℕ → List ℕ
bounds_from f from zero = []
bounds_from f from (suc n) = bounds_in (f from).notes ++ bounds_from f (suc from) n

pub to_bounds : (f : ℕ → ReplicaKept) (from n r : ℕ) (at : Place) (b : Ballot) (v : Batch) → from ≤ r → r < from + n → Mem (Accepted at b v) (f r).notes → Mem v.bound (bounds_from f from n)
to_bounds f from zero r at b v low high m = absurd (omega arith)
to_bounds f from (suc n) r at b v low high m = grind (arith, mem_right, mem_left, has_bound, cases_lt, to_bounds f (suc from) n r at b v)

pub from_bounds : (f : ℕ → ReplicaKept) (from n bound : ℕ) → Mem bound (bounds_from f from n) → (r : ℕ) × (r < from + n) × Accepts (f r).notes bound
from_bounds f from zero bound m = absurd m
from_bounds f from (suc n) bound m =
    ⊎_elim (λ k. (from, omega arith, from_record (f from).notes bound k)) (λ k. let x = from_bounds f (suc from) n bound k in let lt = x.1 in (x.0, omega arith, x.2))
    (mem_split bound (bounds_in (f from).notes) (bounds_from f (suc from) n) m)

-- ---- from a sound store

-- the laws that this stands on
pub record Laws : Type 0 where
  pub one_topology : KeepOneTopology
  pub one_records : HoldSameRecords
  pub empty : (g : Setting) → WholeSound g empty_store
  pub runs : RunsKeepStores
  pub rest : RestIsDone
  pub clicks : AtRestFromEmpty ClicksAreExact
  pub report : AtRestFromEmpty ReportIsExact
  pub missing : TellsTheMissing
  pub tells : TellsTheReport

module _ (laws : Laws) (g : Setting) (d : Disks) (h : List BusEntry) (after : Images) (faulted : Type 0) (js : Journals) (checked : Checked g) (sound : SoundStore g d) (rested : HasRested g d h after faulted js) where
  abbrev w : World
  w = world_after g (opening d) rested.entries

  abbrev left : Disks
  left = disks w

  -- the bounds of all accepted records
  abbrev old : List ℕ
  old = bounds_from d.replicas 0 g.config.replicas

  has_bounds : HasBounds g d old
  has_bounds r at b v lt m = to_bounds d.replicas 0 g.config.replicas r at b v (omega arith) (omega arith) m

  leaves : RestLeaves g d rested.entries old w
  leaves = laws.rest g d rested.entries old checked sound has_bounds rested.run.run rested.rest

  was_accepted : (bound : ℕ) → IsBoundOk g old bound → (bound ≡ g.config.horizon) ⊎ IsAcceptedBound g d bound
  was_accepted bound (inl e) = inl e
  was_accepted bound (inr m) = let x = from_bounds d.replicas 0 g.config.replicas bound m in let lt = x.1 in inr (x.0, x.2.0, x.2.1, x.2.2, omega arith, x.2.3, x.2.4)

  missing : (faulted → ⊥) → (i : EventId) → IsMissing g (known_of g left []) i → WasHeld g d left i
  missing calm i m = (m.0.0, m.0.1, leaves.missing (rested.stops calm) i m.0.0 m.0.1 m.1)

  told : lines_by g js ≡ kept.report g left
  told = laws.tells g left js rested.read

pub joins : Laws → (g : Setting) (before after : Images) (h : List BusEntry) (faulted : Type 0) (js : Journals) (lines : List ReportLine)
    → Checked g → IsSoundStore g before → RestLeft g before after h faulted js → AreLinesBy g js lines → Joins g before after faulted lines
joins laws g before after h faulted js lines checked sound rest are =
    let d : Disks = rest.store.disks in
    let was : SoundStore g d = (opened_whole g before rest.store sound rest.kept laws.one_topology laws.one_records same_is_whole).1.records in
    let rested : HasRested g d h after faulted js = rest.ran d (λ n is. refl) in
    let done = leaves laws g d h after faulted js checked was rested in
    record {
      left = left laws g d h after faulted js checked was rested;
      rested = record {
        opened = rest.store;
        were_kept = rest.kept;
        keeps = rested.holds;
        drained = done.drained;
        bounds = λ s lt. (done.bounds s lt).0;
        no_others = λ s lt. was_accepted laws g d h after faulted js checked was rested (bound_of (decided_by g (left laws g d h after faulted js checked was rested) s)) (done.bounds s lt).1;
        missing = missing laws g d h after faulted js checked was rested;
      };
      are = are ∙ told laws g d h after faulted js checked was rested;
    }

-- ---- from an empty store

empty_keeps : (g : Setting) (disk : DiskName) → KeepsOf g empty_disks disk []
empty_keeps g TopologyDisk = tt
empty_keeps g (ReplicaDisk r) = (tt, refl)
empty_keeps g (OutputDisk s j) = (All-nil IsPair, refl)
empty_keeps g _ = refl

-- replicas without records have accepted no insert
none_accepted : (from n : ℕ) (x : Insert) → Mem x (inserts_of (values_from (λ k. []) from n)) → ⊥
none_accepted from zero x m = m
none_accepted from (suc n) x m = none_accepted (suc from) n x m

-- a run over records that are none, and the lines that were told
module _ (laws : Laws) (g : Setting) (h : List BusEntry) (after : Images) (faulted : Type 0) (js : Journals) (lines : List ReportLine) (checked : Checked g) (table : IsTable g.config.table) (are : AreLinesBy g js lines) (rested : HasRested g empty_disks h after faulted js) where
  was : SoundStore g empty_disks
  was = (laws.empty g).records

  abbrev now : Disks
  now = left laws g empty_disks h after faulted js checked was rested

  same : lines ≡ kept.report g now
  same = are ∙ told laws g empty_disks h after faulted js checked was rested

  none_missing : (faulted → ⊥) → (l : ClickLine) → Mem l g.clicks → kept.line_of g now l.click.id ≡ M l.click.id → ⊥
  none_missing calm l m e =
      let held = missing laws g empty_disks h after faulted js checked was rested calm l.click.id ((laws.missing g now l.click.id).0 e) in
      none_accepted 0 g.config.replicas _ held.2

  joined_afresh : JoinsAfresh g faulted lines
  joined_afresh = record {
    left = now;
    are = same;
    exact = laws.clicks g rested.entries checked table rested.run.run rested.rest;
    whole = λ calm. ap logs.text_of (same ∙ laws.report g rested.entries checked table rested.run.run rested.rest (none_missing calm));
  }

  ran_afresh : ((JoinerStopped g h → ⊥) → faulted → ⊥) → RanAfresh g h lines
  ran_afresh from = record {
    at = rested.at;
    entries = rested.entries;
    run = rested.run;
    rest = rested.rest;
    are = same;
    exact = laws.clicks g rested.entries checked table rested.run.run rested.rest;
    whole = λ calm. same ∙ laws.report g rested.entries checked table rested.run.run rested.rest (none_missing (from calm));
  }

blank : (laws : Laws) (g : Setting) (before after : Images) (h : List BusEntry) (faulted : Type 0) (js : Journals) → LeavesNothing g before → (rest : RestLeft g before after h faulted js) → SameRecords g rest.store.disks empty_disks
blank laws g before after h faulted js nothing rest = laws.one_records g (λ disk. []) rest.store.disks empty_disks
    (λ disk is. let x = rest.kept.records disk is in subst (λ (c : List ℕ). KeepsOf g rest.store.disks disk c) (nothing disk is x.0 x.1) x.2)
    (λ disk is. empty_keeps g disk)

pub afresh : Laws → (g : Setting) (before after : Images) (h : List BusEntry) (faulted : Type 0) (js : Journals) (lines : List ReportLine)
    → Checked g → IsTable g.config.table → LeavesNothing g before → RestLeft g before after h faulted js → AreLinesBy g js lines → JoinsAfresh g faulted lines
afresh laws g before after h faulted js lines checked table nothing rest are =
    joined_afresh laws g h after faulted js lines checked table are (rest.ran empty_disks (blank laws g before after h faulted js nothing rest))

-- ---- by the run's own history

stopped : (g : Setting) (d : Disks) (h : List BusEntry) (after : Images) (faulted : Type 0) (js : Journals) → NoneStops → HasRested g d h after faulted js → HasRested g d h after (JoinerStopped g h) js
stopped g d h after faulted js none rested = search

pub joins_by_stops : Laws → NoneStops → (g : Setting) (before after : Images) (h : List BusEntry) (faulted : Type 0) (js : Journals) (lines : List ReportLine)
    → Checked g → IsSoundStore g before → RestLeft g before after h faulted js → AreLinesBy g js lines → Joins g before after (JoinerStopped g h) lines
joins_by_stops laws none g before after h faulted js lines checked sound rest are =
    joins laws g before after h (JoinerStopped g h) js lines checked sound (record { store = rest.store; kept = rest.kept; ran = λ d same. stopped g d h after faulted js none (rest.ran d same) }) are

pub ran : Laws → NoneStops → (g : Setting) (before after : Images) (h : List BusEntry) (faulted : Type 0) (js : Journals) (lines : List ReportLine)
    → Checked g → IsTable g.config.table → LeavesNothing g before → RestLeft g before after h faulted js → AreLinesBy g js lines → RanAfresh g h lines
ran laws none g before after h faulted js lines checked table nothing rest are =
    ran_afresh laws g h after (JoinerStopped g h) js lines checked table are (stopped g empty_disks h after faulted js none (rest.ran empty_disks (blank laws g before after h faulted js nothing rest))) (λ calm. calm)
