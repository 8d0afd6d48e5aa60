-- Terms of other crates, for the definitions and contracts of this one.
pub use Rattle.clap.specs.Faults.{fault_of}
pub use Rattle.clap.specs.Simple.{subcommand_of}
pub use Rattle.command_words.specs.Clap.{number_in, photon_app, text_in}
pub use Rattle.command_words.specs.Words.{AreBulkRanges, AreInRanges, AskFor, BulkValues, IsFound, IsPlain, NodeValues, Pairs, Text, Values, Wish, a_bulk_run, a_drill, a_join, a_resharding, a_verification, bulk_values, command_of, given, texts, values_in}
pub use Rattle.command_words.specs.declared.asked.WordsFault.{WordsFault}
pub use Rattle.dispatch_core.specs.Places.{IsLogOf}
pub use Rattle.event_id.specs.declared.id.EventId.{EventId}
pub use Rattle.gate_journal.specs.Images.{GoesOn, IsKeptIn, StaysAs}
pub use Rattle.list_words.specs.Bytes.{Lacks}
pub use Rattle.list_words.specs.Lists.{Each}
pub use Rattle.log_records.specs.Check.{AfterWhy, IsClickLog, IsLog, IsQueryLog, Refuses, RefusesClick, RefusesQuery}
pub use Rattle.log_records.specs.FirstPlaces.{Keeps, Places}
pub use Rattle.log_records.specs.Lines.{ClickLine, HoldsLines, end_from, placed}
pub use Rattle.log_records.specs.Log.{AreRecords, line_feed, whole}
pub use Rattle.log_records.specs.Report.{distinct, is_missing, text_of}
pub use Rattle.log_records.specs.declared.check.BadLine.{BadLine}
pub use Rattle.log_records.specs.declared.check.TheConstants.{MAX_LOG}
pub use Rattle.log_records.specs.declared.lines.TheConstants.{MAX_LINE}
pub use Rattle.log_records.specs.declared.records.ClickRec.{ClickRec}
pub use Rattle.log_records.specs.declared.records.QueryRec.{QueryRec}
pub use Rattle.log_records.specs.declared.report.ReportLine.TheVariants.{U}
pub use Rattle.log_records.specs.declared.report.ReportLine.{ReportLine}
pub use Rattle.log_records.specs.declared.why.Why.{Why}
pub use Rattle.lossy_link.specs.Fates.{PlanView}
pub use Rattle.lossy_link.specs.Plans.{IsPlanOf, size_limit}
pub use Rattle.lossy_link.specs.declared.bad_plan.Field.{Field}
pub use Rattle.lossy_link.specs.declared.plan.DiskKind.TheVariants.{Epoch, Offset, Output, Replica, Retry, Server}
pub use Rattle.lossy_link.specs.declared.plan.DiskKind.{DiskKind}
pub use Rattle.lossy_link.specs.declared.plan.PlanStop.{PlanStop}
pub use Rattle.mem_outside.specs.Files.{bytes_under}
pub use Rattle.mem_outside.specs.Kept.{fuses_for, same_name}
pub use Rattle.mem_outside.specs.Plan.{is_planned}
pub use Rattle.mem_outside.specs.declared.disk.Fuse.{Fuse}
pub use Rattle.outside.specs.Faults.{Counts, Rose}
pub use Rattle.outside.specs.Plans.{AtMost}
pub use Rattle.outside.specs.declared.faults.OpenFault.TheVariants.{Read}
pub use Rattle.outside.specs.declared.store.DiskName.{DiskName}
pub use Rattle.photon_model.specs.Headline.{IsOutputOnce}
pub use Rattle.photon_model.specs.Runs.{Disks, opening}
pub use Rattle.report_text.specs.Stream.{TookPrefix}
pub use Rattle.run_fault.specs.Causes.{IsCounted, IsWelcome}
pub use Rattle.run_fault.specs.Faults.{message, status_of}
pub use Rattle.run_fault.specs.declared.fault.LogName.TheVariants.{Clicks, Queries}
pub use Rattle.run_fault.specs.declared.fault.LogName.{LogName}
pub use Rattle.run_fault.specs.declared.fault.RunFault.{RunFault}
pub use Rattle.run_fault.specs.declared.fault.StorePlace.{StorePlace}
pub use Rattle.site_laws.specs.Stores.{AreAllLeft, AreLeft, Bytes, HoldsRecords, Images, IsChoice, IsDisk, IsSoundStore}
pub use Rattle.site_run.specs.Asked.{IsSettingOf}
pub use Rattle.site_run.specs.Joined.{Joins, JoinsAfresh, RanAfresh}
pub use Rattle.site_run.specs.Left.{HasRun, RunLeft}
pub use Rattle.site_run.specs.Naming.{names_of}
pub use Rattle.site_run.specs.Over.{EndsOver, IsIdle}
pub use Rattle.site_run.specs.Refused.{HasPassed, IsCauseOf, IsTaken, Kept, NamesFailed, PlacesFit, TellsPlaces, WasJournal, asked_of}
pub use Rattle.site_run.specs.Stops.{AllInAll, StopsAsPlanned}
pub use Rattle.site_run.specs.declared.ran.RunLog.{RunLog}
pub use Rattle.site_store.specs.Causes.{HasCause, LeavesSomething, first_limit}
pub use Rattle.site_store.specs.Records.{AreKept, KeptValues}
pub use Rattle.site_store.specs.Telling.{Tells}
pub use Rattle.site_store.specs.declared.reading.kept.KeptStore.{KeptStore}
pub use Rattle.tail_reader.specs.Buffered.{behind}
pub use Rattle.tail_reader.specs.Next.{IsNext}
pub use Rattle.time_shards.specs.Shards.{IsRow, IsTable}
pub use Rattle.time_shards.specs.Text.{IsFirstBad, row_text, table_text}
pub use Rattle.time_shards.specs.declared.ShardRow.{ShardRow}
pub use Rattle.time_shards.specs.declared.TheConstants.{MOST_JOINERS}
pub use Rattle.topology_journal.specs.Topologies.{Keeps as KeepsTopology}
pub use Rattle.topology_journal.specs.declared.topology.Topology.{Topology}
pub use Rattle.turn_defs.specs.Setting.{Checked, Setting}
pub use Rattle.turn_defs.specs.declared.config.Config.{Config}
pub use Rattle.turn_defs.specs.declared.node.Node.{Node}
pub use Rattle.verify_pass.specs.declared.journals.Journals.{Journals}
