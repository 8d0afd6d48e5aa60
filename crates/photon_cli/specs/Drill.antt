-- What a drill does: both sites run over disks in memory that hold nothing at first, and a plan says what goes wrong.
use Rattle.std.specs.Prelude.{ℕ, ◌≡◌, ◌≤◌, Bool, false, List, ◌++◌, map, Option, IfSome, IsSomeAnd, IsTrue}
use Rattle.std.specs.List.{list_any}
use Rattle.photon_cli.specs.Terms.{AllInAll, ClickLine, Each, Field, IsPlanOf, Node, PlanStop, PlanView, RanAfresh, ReportLine, RunLog, Setting, ShardRow, StopsAsPlanned, Text, TookPrefix, Values, names_of}
use Rattle.lossy_link.specs.Plans.{IsFirstBad}
use Rattle.log_records.specs.Report as logs
use Rattle.photon_cli.specs.Planned.{StopsAtMost, is_joiners}
use Rattle.photon_cli.specs.Join.{AreValid, IsAsked, IsHeardOf, config_of}
use Rattle.photon_cli.specs.Words.{HasTable}

-- These are the lines of the report of a run from nothing under this plan, and that is its history: no node has stopped more often in it
-- than the plan has its disks stop. Where no stop of the plan is of a joiner's disk all lines are those of the two logs.
pub record IsDrilled (g : Setting) (plan : PlanView) (lines : List ReportLine) (log : RunLog) : Type 0 where
  pub ran : RanAfresh g log.air.history lines
  pub heard : IsHeardOf plan g.config.joiners log
  pub stops : StopsAsPlanned (StopsAtMost g.config.joiners plan.stops) g log.air.history
  pub whole : list_any is_joiners plan.stops ≡ false → lines ≡ map (logs.line_of g.queries g.config.horizon) (logs.distinct (map (λ (l : ClickLine). l.click) g.clicks))

-- No stop is of one of a disk's first three calls, which open it, and of each node's disks at most one call is planned to fail.
pub record SparesNodes (v : Values) (stops : List PlanStop) : Type 0 where
  pub late : Each (λ stop. 3 ≤ stop.call) stops
  pub few : (table : List ShardRow) (n : Node) → AllInAll (StopsAtMost v.nodes.joiners stops) (names_of (config_of v.horizon v.nodes table) n) 1

-- Here told says what bytes are under a name.
module _ (told : List ℕ → Option (List ℕ)) where
  -- what was asked for was run under this plan, and the lines are that run's
  abbrev pub Drills : Values → PlanView → Option RunLog → List ReportLine → Type 0
  Drills v plan ran lines = (g : Setting) × IsAsked told v g × IsSomeAnd ran (IsDrilled g plan lines)

  -- the file's bytes are this plan
  abbrev pub IsPlanIn : Text → PlanView → Type 0
  IsPlanIn file plan = IsSomeAnd (told file) (λ bytes. IsPlanOf bytes plan)

  -- they are none, for this place before all others
  abbrev pub IsBadIn : Text → Field → Type 0
  IsBadIn file place = IsSomeAnd (told file) (λ bytes. IsFirstBad bytes place)

  -- The same of a drill: the file's bytes are a plan, too.
  abbrev pub BeginsDrill : (logs : Bool) → Values → Text → Option RunLog → Type 0
  BeginsDrill logs v file ran = HasTable v.nodes.shards × (IsTrue logs → AreValid told v.queries v.clicks) × (plan : PlanView) × (IsTrue logs → IsPlanIn file plan) × IfSome ran (IsHeardOf plan v.nodes.joiners)

  -- a drill by the plan of a file was run
  abbrev pub HasDrilled : Values → Text → Option RunLog → Type 0
  HasDrilled v file ran = (plan : PlanView) × (lines : List ReportLine) × IsPlanIn file plan × Drills v plan ran lines

  -- the lines of a drill by the plan of a file were written behind what was there: whole, or a prefix of them
  abbrev pub PrintsDrill : Values → Text → Option RunLog → (old new : List ℕ) → Type 0
  PrintsDrill v file ran old new = (plan : PlanView) × (lines : List ReportLine) × IsPlanIn file plan × Drills v plan ran lines × (new ≡ old ++ logs.text_of lines)

  abbrev pub PrintsDrillPrefix : Values → Text → Option RunLog → (old new : List ℕ) → Type 0
  PrintsDrillPrefix v file ran old new = (plan : PlanView) × (lines : List ReportLine) × IsPlanIn file plan × Drills v plan ran lines × TookPrefix old (logs.text_of lines) new
