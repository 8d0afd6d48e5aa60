-- From the empty store: the report of what a run leaves at rest is that of the two logs, but for clicks that are missing.
use Rattle.std.specs.Prelude.{◌≡◌, ◌⊎◌, ◌≤◌, List, map, Some}
use Rattle.photon_model.specs.Terms.{Checked, ClickLine, M, Mem, Setting, first}
use Rattle.time_shards.specs.Shards.{IsTable}
use Rattle.log_records.specs.declared.records.QueryRec.{QueryRec as Query}
use Rattle.log_records.specs.declared.records.ClickRec.{ClickRec as Click}
use Rattle.log_records.specs.Report as logs
use Rattle.photon_model.specs.Report.{line_of, report}
use Rattle.photon_model.specs.Rest.{IsAtRest}
use Rattle.photon_model.specs.Runs.{Entry, Disks, disks, world_after, IsRun, opening}
use Rattle.photon_model.specs.Stores.{empty_disks}

-- the click's line is that of the two logs; or it is missing, being young enough and having a query
abbrev pub IsExact : Setting → Disks → Click → Type 0
IsExact g d c =
    (line_of g d c.id ≡ logs.line_of g.queries g.config.horizon c) ⊎ ((line_of g d c.id ≡ M c.id) × (g.config.horizon ≤ c.id.micros) × ((q : Query) × (first g.queries c.query ≡ Some q)))

-- P holds of each setting over checked logs and a table, and of the disks at the end of each run from the empty store that
-- has come to rest
abbrev pub AtRestFromEmpty : (Setting → Disks → Type 0) → Type 0
AtRestFromEmpty P =
    (g : Setting) (es : List Entry) → Checked g → IsTable g.config.table → IsRun g (opening empty_disks) es → IsAtRest g (world_after g (opening empty_disks) es) →
    P g (disks (world_after g (opening empty_disks) es))

abbrev pub ClicksAreExact : Setting → Disks → Type 0
ClicksAreExact g d = (l : ClickLine) → Mem l g.clicks → IsExact g d l.click

-- where no click is missing, the report is one function of the two logs and the horizon
abbrev pub ReportIsExact : Setting → Disks → Type 0
ReportIsExact g d = ((l : ClickLine) → Mem l g.clicks → line_of g d l.click.id ≡ M l.click.id → ⊥) → report g d ≡ map (logs.line_of g.queries g.config.horizon) (logs.distinct (map (λ (l : ClickLine). l.click) g.clicks))
