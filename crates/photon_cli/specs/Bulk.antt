-- What a bulk run does: both logs are made from a seed, both sites run over them as in a drill, and the totals line is told.
use Rattle.std.specs.Prelude.{ℕ, ◌≡◌, List, [], ◌∷◌, ◌++◌, Option, None, IfSome, IsSomeAnd}
use Rattle.photon_cli.specs.Terms.{BulkValues, PlanView, ReportLine, RunLog, Setting, TookPrefix, placed}
use Rattle.lossy_link.specs.declared.plan.Fate.{Fate}
use Rattle.lossy_link.specs.declared.plan.Fate.TheVariants.{Drop, Twice}
use Rattle.lossy_link.specs.declared.plan.Rule.{Rule}
use Rattle.bulk_logs.specs.Bulk as logs
use Rattle.photon_cli.specs.Join.{IsHeardOf, config_of}
use Rattle.photon_cli.specs.Drill.{IsDrilled}
use Rattle.photon_cli.specs.Words.{HasTable, IsTextOf}

-- a rule for a thousand packets of each link: the first of this ordinal, then one in so many
abbrev pub rule : (first every : ℕ) → Fate → Rule
rule first every fate = record { from = None; to = None; first = first; count = 1000; every = every; fate = fate }

-- Of each link's packets from the fourth on one in seven is dropped, and of those from the sixth on one in eleven of the others
-- comes again, four packets later.
abbrev pub bulk_plan : PlanView
bulk_plan = record { rules = rule 3 7 Drop ∷ rule 5 11 (Twice 4) ∷ []; stops = []; dead = None }

-- the setting has the records of the two logs that are made of the numbers
pub record IsBulkSetting (v : BulkValues) (g : Setting) : Type 0 where
  pub queries : g.queries ≡ logs.queries v.seed v.count
  pub clicks : g.clicks ≡ placed 0 (logs.clicks v.seed v.count)
  pub table : IsTextOf v.nodes.shards g.config.table
  pub config : g.config ≡ config_of logs.horizon v.nodes g.config.table

-- it was run from nothing under that plan, and this is the run's history
pub record IsBulkRun (v : BulkValues) (log : RunLog) : Type 0 where
  pub setting : Setting
  pub made : IsBulkSetting v setting
  pub lines : List ReportLine
  pub run : IsDrilled setting bulk_plan lines log

-- the same of a bulk run, whose logs are always valid
abbrev pub BeginsBulk : BulkValues → Option RunLog → Type 0
BeginsBulk v ran = HasTable v.nodes.shards × IfSome ran (IsHeardOf bulk_plan v.nodes.joiners)

-- the totals line was written behind what was there: whole, or a prefix of it
abbrev pub PrintsTotals : BulkValues → Option RunLog → (old new : List ℕ) → Type 0
PrintsTotals v ran old new = IsSomeAnd ran (IsBulkRun v) × (new ≡ old ++ logs.totals_made v.count)

abbrev pub PrintsTotalsPrefix : BulkValues → Option RunLog → (old new : List ℕ) → Type 0
PrintsTotalsPrefix v ran old new = IsSomeAnd ran (IsBulkRun v) × TookPrefix old (logs.totals_made v.count) new
