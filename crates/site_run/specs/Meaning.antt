-- What a run that has come to rest means for the report, by what a stop might have left of the disks before it and may leave of
-- them afterwards.
use Rattle.std.specs.Prelude.{◌≡◌, List, map}
use Rattle.time_shards.specs.Shards.{IsTable}
use Rattle.log_records.specs.declared.records.ClickRec.{ClickRec as Click}
use Rattle.site_run.specs.Terms.{BusEntry, Checked, ClickLine, Images, IsSoundStore, Journals, ReportLine, Setting}
use Rattle.log_records.specs.Report.{distinct}
use Rattle.verify_pass.specs.Classes.{line_of}
use Rattle.site_laws.specs.StoreLaws.{LeavesNothing}
use Rattle.site_run.specs.Left.{RestLeft}
use Rattle.site_run.specs.Joined.{Joins, JoinsAfresh, RanAfresh}
use Rattle.site_run.specs.Laws.{JoinerStopped}

-- what verification makes of the journals: a line for each click id
abbrev pub lines_by : Setting → Journals → List ReportLine
lines_by g js = map (λ (c : Click). line_of js g.config.table c.id) (distinct (map (λ (l : ClickLine). l.click) g.clicks))

-- these are the lines
abbrev pub AreLinesBy : Setting → Journals → List ReportLine → Type 0
AreLinesBy g js lines = lines ≡ lines_by g js

-- after a run from a sound store they are the report of the records that the disks keep
abbrev pub RestJoins : Setting → (before after : Images) → (faulted : Type 0) → Type 0
RestJoins g before after faulted =
    (h : List BusEntry) (js : Journals) (lines : List ReportLine) →
    Checked g → IsSoundStore g before → RestLeft g before after h faulted js → AreLinesBy g js lines → Joins g before after faulted lines

-- and after a run from an empty store, that of the two logs
abbrev pub RestJoinsAfresh : Setting → (before after : Images) → (faulted : Type 0) → Type 0
RestJoinsAfresh g before after faulted =
    (h : List BusEntry) (js : Journals) (lines : List ReportLine) →
    Checked g → IsTable g.config.table → LeavesNothing g before → RestLeft g before after h faulted js → AreLinesBy g js lines → JoinsAfresh g faulted lines

-- what is missing by the run's own history: it is so unless a joiner stopped in it
abbrev pub RestJoinsByStops : Setting → (before after : Images) → (faulted : Type 0) → Type 0
RestJoinsByStops g before after faulted =
    (h : List BusEntry) (js : Journals) (lines : List ReportLine) →
    Checked g → IsSoundStore g before → RestLeft g before after h faulted js → AreLinesBy g js lines → Joins g before after (JoinerStopped g h) lines

abbrev pub RestRanAfresh : Setting → (before after : Images) → (faulted : Type 0) → Type 0
RestRanAfresh g before after faulted =
    (h : List BusEntry) (js : Journals) (lines : List ReportLine) →
    Checked g → IsTable g.config.table → LeavesNothing g before → RestLeft g before after h faulted js → AreLinesBy g js lines → RanAfresh g h lines
