-- The words of this crate's proofs: what they take from its definitions and from the crates below, under one name each.
pub use Rattle.air_bus.specs.Waiting.{is_dead}
pub use Rattle.clap.specs.Walk.{Row}
pub use Rattle.command_words.proofs.Levels.{plain_gives}
pub use Rattle.command_words.proofs.Read.{same_command}
pub use Rattle.command_words.proofs.Walks.{first_given, one_given, pair_rows}
pub use Rattle.photon_cli.specs.Terms.{AfterWhy, AllInAll, AreRecords, AskFor, AtMost, BadLine, BulkValues, Checked, ClickLine, ClickRec, Clicks, Config, Counts, DiskKind, DiskName, Each, EndsOver, Epoch, EventId, Field, Fuse, GoesOn, HasCause, Images, IsCauseOf, IsClickLog, IsFound, IsLog, IsLogOf, IsNext, IsOutputOnce, IsPlain, IsPlanOf, IsQueryLog, IsSettingOf, IsSoundStore, IsTable, IsWelcome, Joins, JoinsAfresh, Journals, Keeps, KeepsTopology, KeptStore, Topology as KeptTopology, KeptValues, Lacks, LeavesSomething, LogName, MAX_LINE, MAX_LOG, Node, Output, Pairs, Places, PlanStop, PlanView, Queries, QueryRec, RanAfresh, RefusesClick, RefusesQuery, ReportLine, Rose, RunFault, RunLeft, RunLog, Setting, ShardRow, StaysAs, StopsAsPlanned, StorePlace, Tells, TellsPlaces, Text, TookPrefix, Topology, U, Values, Why, Wish, WordsFault, a_bulk_run, a_drill, a_join, a_resharding, a_verification, asked_of, behind, bulk_values, bytes_under, command_of, distinct, end_from, fault_of, first_limit, fuses_for, given, is_missing, is_planned, line_feed, message, names_of, number_in, photon_app, placed, same_name, size_limit, status_of, subcommand_of, text_in, text_of, texts, values_in, whole}
pub use Rattle.command_words.specs.Words.{IsRefusedBy, name_of, wish_of, wish_by}
pub use Rattle.gate_journal.proofs.Growth.{continues_same}
pub use Rattle.list_words.proofs.Splits.{lacks_none, split_same}
pub use Rattle.log_records.proofs.FirstPlaces.{found, length-one, none_found}
pub use Rattle.log_records.proofs.Places.{lines_follow}
pub use Rattle.log_records.proofs.Reading.{clicks_same, one_more, queries_same}
pub use Rattle.log_records.proofs.WholeLogs.{clicks_found, clicks_right, queries_found, queries_right}
pub use Rattle.log_records.specs.Check.{NextWhy}
pub use Rattle.log_records.specs.FirstPlaces.{first_place, place_at, seen_of}
pub use Rattle.log_records.specs.Line.{IsClick, IsQuery, OrMemory, click_line, query_line}
pub use Rattle.log_records.specs.Log.{HoldsClicks, HoldsQueries}
pub use Rattle.log_records.specs.Report.{totals}
pub use Rattle.lossy_link.proofs.Outcomes.{one_outcome}
pub use Rattle.lossy_link.specs.Outcome.{Outcome, bad, good}
pub use Rattle.lossy_link.specs.Plans.{HasOutcome, IsFault, IsFirstBad}
pub use Rattle.outside.specs.Faults.{added}
pub use Rattle.outside.specs.declared.faults.ReadFault.{ReadFault}
pub use Rattle.outside.specs.declared.faults.StoreFault.{StoreFault}
pub use Rattle.paxos_acceptor.specs.Cells.{note_view}
pub use Rattle.photon_cli.specs.Again.{AreCalls, AreOutputOnce, Call, IsLater, KeepsBy, setting_after, store_after}
pub use Rattle.photon_cli.specs.Bulk.{IsBulkRun, IsBulkSetting, bulk_plan}
pub use Rattle.photon_cli.specs.Causes.{CanBeRead, HasCauseInVerify, IsOverLog, unasked}
pub use Rattle.photon_cli.specs.CheckedLogs.{AreLines, EndsAt, IsChecked, kept}
pub use Rattle.photon_cli.specs.Drill.{Drills, IsBadIn, IsDrilled, SparesNodes}
pub use Rattle.photon_cli.specs.Ends.{AreObeyed, BulkEnds, DrillEnds, Ends, JoinEnds, VerifyEnds}
pub use Rattle.photon_cli.specs.Faults.{words_status}
pub use Rattle.photon_cli.specs.Join.{AreLogs, AreValid, BeginsJoin, HaveIds, IsAsked, IsHeardOf, IsHistory, IsInvalid, Refuses, config_of, no_plan}
pub use Rattle.photon_cli.specs.LogFaults.{IsBeforeLogs, IsEarly, IsFailedRead, IsLogFault, IsNamedBy, IsOfDrill, IsOfLogs, IsOfPlanOrLogs, IsOfRun, IsOfVerify, IsPast, IsPlanFault, IsRowFault, OfClicks, failed_read}
pub use Rattle.photon_cli.specs.Planned.{StopsAtMost, fuse_of, is_at, is_for, is_joiners, named_by, of_joiners, place_of, planned_for, same_kind}
pub use Rattle.photon_cli.specs.ReadLines.{AtEnd, IsStep, SoFar, WrongNext}
pub use Rattle.photon_cli.specs.Reshard.{HasRow, IsCauseFor, IsRowOf, ReshardEnds}
pub use Rattle.photon_cli.specs.Status.{IsAnswered}
pub use Rattle.photon_cli.specs.Told.{IsNamed, IsNamedInBulk, IsNamedInDrill, IsNamedInVerify}
pub use Rattle.photon_cli.specs.Verify.{IsReadFrom, IsReadable, IsTold, IsUnreadable, PrintsKept}
pub use Rattle.photon_cli.specs.Words.{ArePlain, AreReadAs, AreRefused, HasTable, IsTextOf}
pub use Rattle.photon_cli.specs.declared.engine.run.TheConstants.{REPLICAS}
pub use Rattle.photon_cli.specs.declared.log_check.check.CheckFault.{CheckFault}
pub use Rattle.photon_cli.specs.declared.log_check.lines.Lines.{Lines}
pub use Rattle.photon_cli.specs.declared.log_check.step.Step.{Step}
pub use Rattle.photon_model.specs.EveryRun.{AfterEveryRun}
pub use Rattle.photon_model.specs.Stores.{ReadIsChecked}
pub use Rattle.registry_state.specs.Same.{same_batch}
pub use Rattle.run_fault.specs.Faults.{of_place}
pub use Rattle.run_fault.specs.declared.fault.Mismatch.{Mismatch}
pub use Rattle.run_fault.specs.declared.fault.Misplaced.{Misplaced}
pub use Rattle.run_fault.specs.declared.fault.Unfit.{Unfit}
pub use Rattle.site_laws.specs.StoreLaws.{HoldSameRecords, LeavesNothing, LongerStaysSound, SameIsSound}
pub use Rattle.site_run.proofs.Counting.{rose_before}
pub use Rattle.site_run.proofs.Earlier.{leaves_placed}
pub use Rattle.site_run.proofs.Entered.{counted_more, left_before, place_welcome, sound_placed, welcome_where}
pub use Rattle.site_run.proofs.Outing.{goes_on_through, goes_on_within, stays_goes_on}
pub use Rattle.site_run.proofs.Refusing.{kept_are_journals}
pub use Rattle.site_run.proofs.Planning.{all_earlier, none_of_joiners, stops_earlier}
pub use Rattle.site_run.specs.Heard.{kinds_of}
pub use Rattle.site_run.specs.Over.{Keeps as KeepsOver, RunsOver}
pub use Rattle.site_run.specs.Left.{RestLeft}
pub use Rattle.site_run.specs.Meaning.{AreLinesBy, RestJoins, RestJoinsAfresh, RestRanAfresh}
pub use Rattle.site_run.specs.Refused.{IsLate}
pub use Rattle.site_run.specs.declared.ran.Outcome.{Outcome as RunOutcome}
pub use Rattle.site_store.proofs.Planned.{same_left}
pub use Rattle.site_store.proofs.Causes.{cause_more, failed_rose, passed_more, unread_rose}
pub use Rattle.site_store.specs.Causes.{AreTold, HasFailed, HasPassed as PassesFor, IsCause, IsUnread}
pub use Rattle.site_store.specs.Leaving.{IsAsked as HasTopology}
pub use Rattle.site_store.specs.Misfits.{IsFitFor, limit_at, limit_in}
pub use Rattle.site_store.specs.Reading.{IsRead}
pub use Rattle.site_store.specs.Records.{EpochIs, IsKept, KeepsAs, Kept, KeptDisk, NotesAre}
pub use Rattle.std.proofs.Math.Seq.{take-add, take-append-add}
pub use Rattle.std.proofs.lemmas.Bool.{cases_Bool, cases_lt, eqb-true}
pub use Rattle.std.proofs.lemmas.Bool.Decides.{Decides-eqb, nat_tests}
pub use Rattle.std.proofs.lemmas.List.{append-nil, drop-take, drop_at, drop_more, length-append, length-map, length-take, length-take-le, map-append, map_push, take-append-drop, take-append-le, take-take, take_all, take_at}
pub use Rattle.std.proofs.lemmas.List.Elements.{Contains-append_right, Contains-push_cases}
pub use Rattle.std.proofs.lemmas.Result.{IfErr-weaker, IfOk-weaker, err_from_is_err_and}
pub use Rattle.std.proofs.lemmas.Slice.Eq.{slice_eq-Decides}
pub use Rattle.std.specs.List.{AllByRecursion, flat_map, list_any}
pub use Rattle.std.specs.Option.{IfSome, IsSomeAnd}
pub use Rattle.std.specs.Prelude.{⊤}
pub use Rattle.std.specs.Result.{IfOk}
pub use Rattle.time_shards.proofs.Texts.{none_bad, only_table}
pub use Rattle.time_shards.specs.Shards.{shard_of}
pub use Rattle.turn_defs.specs.declared.pair.PairRec.{PairRec}
pub use Rattle.verify_pass.specs.Classes.{first_pair, line_by, line_of}
