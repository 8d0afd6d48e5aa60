-- What a join of two logs over a store does.
use Rattle.std.specs.Prelude.{ℕ, ◌≡◌, List, [], ◌++◌, map, Bool, Option, None, IfSome, IsSomeAnd, IsTrue}
use Rattle.photon_cli.specs.Terms.{BadLine, ClickLine, ClickRec, Clicks, Config, EventId, Images, IsClickLog, IsQueryLog, IsSettingOf, IsSoundStore, Joins, JoinsAfresh, LogName, NodeValues, PlanView, Queries, QueryRec, RefusesClick, RefusesQuery, ReportLine, RunLeft, RunLog, Setting, ShardRow, TookPrefix, Values, end_from, text_of}
use Rattle.site_laws.specs.StoreLaws.{LeavesNothing}
use Rattle.site_run.specs.Heard as site
use Rattle.photon_cli.specs.Words.{HasTable, IsTextOf}
use Rattle.photon_cli.specs.declared.engine.run.TheConstants.{REPLICAS}

-- Here told says what bytes are under a name.
module _ (told : List ℕ → Option (List ℕ)) (queries clicks : List ℕ) where
  -- the two names are those of valid logs, which hold these records
  pub record AreLogs (qs : List QueryRec) (cs : List ClickRec) : Type 0 where
    pub query : IsSomeAnd (told queries) (λ log. IsQueryLog log qs)
    pub click : IsSomeAnd (told clicks) (λ log. IsClickLog log cs)

  abbrev pub AreValid : Type 0
  AreValid = (qs : List QueryRec) × (cs : List ClickRec) × AreLogs qs cs

  -- the log's first line that is refused; where it is one of the clicks, the queries are valid
  abbrev pub Refuses : LogName → BadLine → Type 0
  Refuses Queries bad = IsSomeAnd (told queries) (λ log. RefusesQuery log bad)
  Refuses Clicks bad = IsSomeAnd (told queries) (λ log. (qs : List QueryRec) × IsQueryLog log qs) × IsSomeAnd (told clicks) (λ log. RefusesClick log bad)

  -- the log is there and isn't valid; where it is the clicks, the queries are valid
  abbrev pub IsInvalid : LogName → Type 0
  IsInvalid Queries = IsSomeAnd (told queries) (λ log. (qs : List QueryRec) → IsQueryLog log qs → ⊥)
  IsInvalid Clicks = IsSomeAnd (told queries) (λ log. (qs : List QueryRec) × IsQueryLog log qs) × IsSomeAnd (told clicks) (λ log. (cs : List ClickRec) → IsClickLog log cs → ⊥)

-- the setting's clicks have these ids
abbrev pub HaveIds : Setting → List EventId → Type 0
HaveIds g ids = map (λ (c : ClickRec). c.id) (map (λ (l : ClickLine). l.click) g.clicks) ≡ ids

-- what all nodes are built for
abbrev pub config_of : (horizon : ℕ) → NodeValues → List ShardRow → Config
config_of horizon nodes table = record { horizon = horizon; joiners = nodes.joiners; table = table; batch = nodes.batch; replicas = REPLICAS }

-- The setting is what was asked: it has these numbers, the table of that text, and the records of the two logs, which are valid.
pub record IsAsked (told : List ℕ → Option (List ℕ)) (v : Values) (g : Setting) : Type 0 where
  pub table : IsTextOf v.nodes.shards g.config.table
  pub setting : IsSettingOf told v.queries v.clicks (config_of v.horizon v.nodes g.config.table) (end_from 0 g.clicks) g

-- Before and after say what a stop might have left of the disks and may leave of them now; faulted is that a disk met a fault.
module _ (told : List ℕ → Option (List ℕ)) (v : Values) (before after : Images) (faulted : Type 0) (old new : List ℕ) where
  -- where the store was sound, the report of what its disks now keep was written behind what was there: whole, or a prefix of it
  abbrev pub Prints : Type 0
  Prints = (g : Setting) × IsAsked told v g × (IsSoundStore g before → (lines : List ReportLine) × Joins g before after faulted lines × (new ≡ old ++ text_of lines))

  abbrev pub PrintsPrefix : Type 0
  PrintsPrefix = (g : Setting) × IsAsked told v g × (IsSoundStore g before → (lines : List ReportLine) × Joins g before after faulted lines × TookPrefix old (text_of lines) new)

  -- where the store was empty, it is that of the two logs, but for missing clicks
  abbrev pub PrintsAfresh : Type 0
  PrintsAfresh = (g : Setting) × IsAsked told v g × (LeavesNothing g before → (lines : List ReportLine) × JoinsAfresh g faulted lines × (new ≡ old ++ text_of lines))

-- nodes of both sites ran under this plan, with so many joiners a site, and this is left of their run
abbrev pub IsHeardOf : PlanView → (joiners : ℕ) → RunLog → Type 0
IsHeardOf plan joiners = site.IsHeardOf plan joiners REPLICAS

-- The history is a run of the whole system, from the records that the disks kept at entry, and this is what was heard of it.
pub record IsHistory (g : Setting) (before after : Images) (plan : PlanView) (log : RunLog) : Type 0 where
  pub left : RunLeft g before after log
  pub heard : IsHeardOf plan g.config.joiners log

-- the plan that leaves all packets, disks and replicas alone
abbrev pub no_plan : PlanView
no_plan = record { rules = []; stops = []; dead = None }

-- All that comes before a join's run is fit: the shards' text is a table, and both logs are valid. What is left of a run is of this one.
abbrev pub BeginsJoin : (logs : Bool) → (told : List ℕ → Option (List ℕ)) → Values → Option RunLog → Type 0
BeginsJoin logs told v ran = HasTable v.nodes.shards × (IsTrue logs → AreValid told v.queries v.clicks) × IfSome ran (IsHeardOf no_plan v.nodes.joiners)

-- what was asked for was run, and this is left of the run
abbrev pub HasRun : (told : List ℕ → Option (List ℕ)) → Values → (before after : Images) → Option RunLog → Type 0
HasRun told v before after ran = (g : Setting) × IsAsked told v g × IsSomeAnd ran (IsHistory g before after no_plan)
