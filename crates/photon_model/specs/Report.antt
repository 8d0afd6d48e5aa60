-- The class of a click id, and the report.
use Rattle.std.specs.Prelude.{ℕ, suc, ◌*◌, nat_lt, is_some, List, [], ◌++◌, map, find, if◌then◌else◌, Option, Some, None}
use Rattle.photon_model.specs.Terms.{Batch, ClickLine, EventId, J, M, PairRec, Setting, U, X, bound_of, distinct, first_joiner, holder, shard}
use Rattle.event_id.specs.EventId.{is_same as same_id}
use Rattle.log_records.specs.declared.records.ClickRec.{ClickRec as Click}
use Rattle.log_records.specs.declared.report.ReportLine.{ReportLine}
use Rattle.photon_model.specs.Journals.{journals, decided}
use Rattle.photon_model.specs.Runs.{Disks}

-- the pairs of so many joiners from this one on, in the disks' order
abbrev pub pairs_from : Disks → ℕ → ℕ → List PairRec
pairs_from d j ℕ.zero = []
pairs_from d j (suc n) = (d.joiners j).pairs ++ pairs_from d (suc j) n

module _ (g : Setting) (d : Disks) where
  abbrev pub all_pairs : List PairRec
  all_pairs = pairs_from d (first_joiner g) (2 * g.config.joiners)

  abbrev pub decided_for : EventId → List Batch
  decided_for i = decided (journals g.config.replicas d.replicas) (shard g i)

  -- the first written pair of an id
  abbrev pub pair_of : EventId → Option PairRec
  pair_of i = find (λ (p : PairRec). same_id p.click.id i) all_pairs

  abbrev pub unwritten_line : EventId → ReportLine
  unwritten_line i = if is_some (holder (decided_for i) i) then M i else if nat_lt i.micros (bound_of (decided_for i)) then X i else U i

  abbrev pub line_by : EventId → Option PairRec → ReportLine
  line_by i None = unwritten_line i
  line_by i (Some p) = J p.click p.query

  -- J where written, else M where registered, else X where expired, else U
  abbrev pub line_of : EventId → ReportLine
  line_of i = line_by i (pair_of i)

  -- a line for each click id, in the order of ids
  abbrev pub report : List ReportLine
  report = map (λ (c : Click). line_of c.id) (distinct (map (λ (l : ClickLine). l.click) g.clicks))
