-- The words of this crate's proofs: what they take from its definitions and from the crates below, under one name each.
pub use Rattle.air_bus.specs.History.{IsAired, is_of, phase, phase_after}
pub use Rattle.air_bus.specs.Waiting.{is_dead, is_replica as is_for_replica, kind_at}
pub use Rattle.air_bus.specs.declared.entry.Entry.TheVariants.{End, Stop}
pub use Rattle.air_bus.specs.declared.entry.Entry.{Entry, Entry as BusEntry}
pub use Rattle.air_bus.specs.declared.entry.Input.{Input as Bytes}
pub use Rattle.air_bus.specs.declared.entry.Phase.TheVariants.{Busy, Idle}
pub use Rattle.air_bus.specs.declared.entry.Phase.{Phase}
pub use Rattle.ballot_core.specs.declared.Ballot.{Ballot}
pub use Rattle.dispatch_node.specs.Journals.{ready_states}
pub use Rattle.dispatch_node.specs.Kept.{kept_as}
pub use Rattle.epoch_journal.specs.Epochs.{Keeps as KeepsEpoch}
pub use Rattle.event_id.specs.declared.id.EventId.{EventId}
pub use Rattle.gate_journal.specs.Growth.{Continues}
pub use Rattle.gate_journal.specs.Opening.{IsOpened}
pub use Rattle.list_words.proofs.Lists.{each_append, each_at, each_from, each_more, mem_left, mem_right, mem_split, some_same}
pub use Rattle.list_words.specs.Lists.{EachPair}
pub use Rattle.log_records.specs.Check.{IsQueryLog}
pub use Rattle.log_records.specs.declared.report.ReportLine.TheVariants.{M}
pub use Rattle.offset_journal.specs.Offsets.{Keeps as KeepsOffset}
pub use Rattle.output_log.specs.Pairs.{Keeps as KeepsPairs}
pub use Rattle.outside.specs.Disk.{Within}
pub use Rattle.outside.specs.Faults.{added}
pub use Rattle.outside.specs.declared.faults.StoreFault.{StoreFault}
pub use Rattle.paxos_acceptor.specs.Cells.{note_view}
pub use Rattle.paxos_acceptor.specs.declared.notes.ReplicaNote.{ReplicaNote}
pub use Rattle.paxos_defs.specs.Notes.Note.{Accepted, Promised}
pub use Rattle.paxos_defs.specs.declared.Place.{Place}
pub use Rattle.photon_model.specs.EveryRun.{HasBounds, IsBoundOk, RestIsDone, RestLeaves}
pub use Rattle.photon_model.specs.Exact.{AtRestFromEmpty, ClicksAreExact, ReportIsExact}
pub use Rattle.photon_model.specs.Headline.{TellsTheMissing}
pub use Rattle.photon_model.specs.Journals.{journals as journals_of, values_from}
pub use Rattle.photon_model.specs.Rest.{UpWith}
pub use Rattle.photon_model.specs.Runs.{Entry as RunEntry, Stop as RunStop, World}
pub use Rattle.photon_model.specs.Sound.{IsMissing, SoundStore, inserts_of, known_of}
pub use Rattle.photon_model.specs.Stores.{ReadIsChecked, RunsKeepStores, empty_disks, empty_store}
pub use Rattle.photon_model.specs.Topology.{Topology as SettingTopology, WholeSound}
pub use Rattle.photon_model.specs.Verification.{AreOf, TellsTheReport}
pub use Rattle.registry_state.specs.LookBack.{bound_of}
pub use Rattle.registry_state.specs.declared.Batch.{Batch}
pub use Rattle.registry_state.specs.declared.Insert.{Insert}
pub use Rattle.retry_log.specs.Pending.{Keeps as KeepsPending}
pub use Rattle.run_fault.specs.Faults.{of_place}
pub use Rattle.run_fault.specs.declared.fault.Misplaced.{Misplaced}
pub use Rattle.site_laws.proofs.Naming.{by_node, by_topology, is_joiner, node_of_disk, one_seat}
pub use Rattle.site_laws.proofs.Nodes.{same_is_whole}
pub use Rattle.site_laws.proofs.Opening.{opened_whole}
pub use Rattle.site_laws.specs.Choosing.{Chosen, choose}
pub use Rattle.site_laws.specs.Kinds.{cell_of, kept_of}
pub use Rattle.site_laws.specs.Laws.{AiredIsRun, EachWalked}
pub use Rattle.site_laws.specs.Meaning.{AllMean}
pub use Rattle.site_laws.specs.Rest.{RestsAt, StatesRest}
pub use Rattle.site_laws.specs.StoreLaws.{HoldSameRecords, IsTopologyWritten, KeepOneTopology, LeavesNothing, ReadNotesAreKept, RunStaysSound, WrittenIsSound}
pub use Rattle.site_laws.specs.Stores.{Bytes as DiskBytes, HoldsRecords, KeepsVotes, joiner_of, node_with}
pub use Rattle.site_node.specs.Faults.{OfBoth, of_two}
pub use Rattle.site_node.specs.Replicas.{OnDisk, kept_of as notes_kept}
pub use Rattle.site_node.specs.Shell.{StandsAt as StandsBy, down_over as down_with, waits_by}
pub use Rattle.site_node.specs.States.{Ends as RowEnds, Path as RowPath, Stops as RowStops, phase_by, row_of, written}
pub use Rattle.site_node.specs.declared.kind.NodeDisk.TheVariants.{First, Second}
pub use Rattle.site_node.specs.declared.kind.NodeFault.TheVariants.{Damaged, Spent}
pub use Rattle.site_node.specs.declared.kind.SiteNode.{Ghosts}
pub use Rattle.site_run.specs.AnyNodes.{AnyLeads, AnyState, DispatcherState, GoesOn as WalksOn, IsAtLast, IsMeant, JoinerState, ServerState, StartsAt, any_of, any_phase, any_rests}
pub use Rattle.site_run.specs.Asked.{AreLogsOf, IsSettingOf, IsSettingOver}
pub use Rattle.site_run.specs.Causes.{IsOfDisks, disk_of, joiner_disk, log_of, of_node}
pub use Rattle.site_run.specs.Heard.{kinds_of}
pub use Rattle.site_run.specs.Held.{HasGoneOn, HaveGoneOn, HoldsAs}
pub use Rattle.site_run.specs.Joined.{IsAcceptedBound, Joins, JoinsAfresh, RanAfresh, WasHeld, decided_by}
pub use Rattle.site_run.specs.Laws.{AllHold, AreHeld, AreMet, IsLeftBy, JoinerStopped, KeepsItsRecord, NoJoinerStopped, NoneStops}
pub use Rattle.site_run.specs.Left.{HasRested, HasRun, RestLeft, RunLeft}
pub use Rattle.site_run.specs.Making.{AreFrom, IsStart, Makes, StockView, clicks_from, disks_from, disks_in, logs_in, number_of, queries_from, view_of}
pub use Rattle.site_run.specs.Meaning.{AreLinesBy, lines_by}
pub use Rattle.site_run.specs.Naming.{DisksIn, IsTakenFrom, all_from, as_lent, count_of, disks_by, joiner_of as place_at, log_read, names_of, site_of}
pub use Rattle.site_run.specs.Out.{AreOut}
pub use Rattle.site_run.specs.Over.{RunsOver}
pub use Rattle.site_run.specs.Placed.{AllAt, IsDownAt, IsUpAt}
pub use Rattle.site_run.specs.Refused.{HasPassed, HasSpent, IsCauseOf, IsLate, IsNearLast, IsOfRun, IsSpent, KeptAreJournals, NamesFailed, TellsPlaces, asked_of}
pub use Rattle.site_run.specs.Resting.{AllKeep, IsClosed, KeepsAs}
pub use Rattle.site_run.specs.Running.{AreDownOver, ComesToLast, DeadAreReplicas, HasCome, HaveGrown, IsRunFrom, KeptEpoch}
pub use Rattle.site_run.specs.Settled.{AreKeptIn, AreUp, first_fault, lent_outputs, lent_replicas, told_of}
pub use Rattle.site_run.specs.Terms.{AreAmongImages, AreKept, AreKeptPlaces, AreLeft, AreReadFrom, AreRecordsOf, Begin, Checked, ClickLine, Config, DiskName, Disks, Dispatcher, Each, EachWith, EpochDisk, GoesOn, Images, IsCounted, IsDisk, IsJournalOf, IsKeptIn, IsLogOf, IsNode, IsOfOne, IsOnlyRead, IsRunOf, IsRunnable, IsSoundStore, IsToldBy, IsWelcome, Joiner, Journals, KeepsFor, KeepsNotes, KeepsOf, KeepsTopology, KeptDisk, KeptOf, KeptValues, Kind, Lacks, Leads, LeavesSomething, Lent, LentDisk, MayBeLeft, MayHold, Mem, NoJoinerStops, Node, NodeDisk, NodeFault, Numbered, OffsetDisk, OneWith, OpenView, OutputDisk, Path, PlanView, Reached, Replica, ReplicaDisk, ReplicaState, ReportLine, RetryDisk, Rose, Rows, RunFault, SameRecords, Server, ServerDisk, Setting, Start, State, StateOf, StaysAs, Store, StorePlace, TopologyDisk, damaged_by, disks, dispatcher_rows, down_over, end_from, is_in_turn, is_output, is_read, is_replica, is_stop, joiner_rows, kept_all, lent_all, made_by, node_count, node_number, numbered, opening, or_else, other_names, replica_rows, rows_of, server_rows, state_phase, stop_count, topology_lent, topology_of, with_number, world_after}
pub use Rattle.site_run.specs.declared.ran.Outcome.{Outcome}
pub use Rattle.site_run.specs.declared.ran.RunLog.{RunLog}
pub use Rattle.site_store.proofs.Causes.{cause_more, failed_rose, passed_more, unread_rose}
pub use Rattle.site_store.proofs.Damage.{journal_of}
pub use Rattle.site_store.proofs.Lending.{each_map, each_unmap, lacks_by_names}
pub use Rattle.site_store.proofs.Names.{all_named, is_named, not_topology, others_apart, others_are, others_count}
pub use Rattle.site_store.proofs.Planned.{calm_by_plan, each_calm, same_left, spared}
pub use Rattle.site_store.proofs.Recorded.{are_records, epoch_in, offset_in, pending_in, records_of}
pub use Rattle.site_store.proofs.Stays.{goes_same, goes_through, opened_same}
pub use Rattle.site_store.proofs.Telling.{site_fits}
pub use Rattle.site_store.proofs.Undamaged.{undamaged}
pub use Rattle.site_store.proofs.Values.{at_name, named_mem, names_kept, one_named, was_journal}
pub use Rattle.site_store.proofs.Walking.{each_same, each_with_append}
pub use Rattle.site_store.specs.Causes.{ArePassed, AreTold, IsCause}
pub use Rattle.site_store.specs.Kept.{Fits, all_kept}
pub use Rattle.site_store.specs.Leaving.{IsAsked, IsOut}
pub use Rattle.site_store.specs.Misfits.{limit_at, limit_in}
pub use Rattle.site_store.specs.Plans.{AllAsPlanned, HasSoon, IsAsPlanned, Left}
pub use Rattle.site_store.specs.Records.{AreKept as WereKept, EpochIs, IsKept, IsOfKind, KeepsAs as KeepsKind, Kept, NotesAre, OffsetIs, PairsAre, PendingAre, Says, kept_by, lent_by, values_of}
pub use Rattle.site_workers.specs.Rounds.{AreCaused, HasFault, Rests}
pub use Rattle.site_workers.specs.Works.{GrowsOn, HasAtMost, HasMet, IsCaused, KeepsPlan, LeadsOn, StandsAt, is_begin, open_stops}
pub use Rattle.site_workers.specs.declared.one_of.OneOf.{OneOf}
pub use Rattle.std.proofs.Math.Seq.{get_or-append_seam}
pub use Rattle.std.proofs.lemmas.Bool.{and_parts, cases_lt, eq-eqb, lt-ltb, ltb-false}
pub use Rattle.std.proofs.lemmas.List.Elements.{All-from_recursion, All-nil, filter-append, recursion_from_All}
pub use Rattle.std.proofs.lemmas.List.Sorted.{All-permutation, IsPermutation-append_comm, IsPermutation-append_left, IsPermutation-append_right, IsPermutation-cons, IsPermutation-map, IsPermutation-middle, IsPermutation-refl, IsPermutation-sym, IsPermutation-to_front, IsPermutation-trans, length_permutation}
pub use Rattle.std.proofs.lemmas.List.{append-nil, drop_more, get_or-append_right, get_or-replicate, get_or_append_left, get_or_default, length-map, length-replicate, map-append, map-id, nil_from_length, take-append-drop, take_all, take_at}
pub use Rattle.std.proofs.lemmas.Result.{IfErr-at_err, IfErr-weaker, IfOk-at_ok, IfOk-weaker, on_ok_weaker}
pub use Rattle.std.specs.List.Sorted.{IsPermutation}
pub use Rattle.std.specs.List.{list_any}
pub use Rattle.std.specs.Vec.Iter.{into_iter_items, into_iter_len}
pub use Rattle.time_shards.specs.Shards.{IsTable}
pub use Rattle.topology_journal.specs.Topologies.{Keeps as KeepsAsked, topology_of as topology_as}
pub use Rattle.topology_journal.specs.declared.topology.Topology.{Topology}
pub use Rattle.turn_defs.specs.Dispatcher.{DispatcherKept, dispatcher_at_rest}
pub use Rattle.turn_defs.specs.Joiner.{JoinerKept, JoinerLive, joiner_at_rest, land_joiner}
pub use Rattle.turn_defs.specs.Nodes.{NumbersAreNodes, node_of}
pub use Rattle.turn_defs.specs.Replica.{ReplicaKept}
pub use Rattle.turn_defs.specs.Server.{ServerKept, ServerLive, land_server, server_at_rest}
pub use Rattle.turn_defs.specs.Setting.{first_joiner}
pub use Rattle.turn_defs.specs.Spellings.{IsPair}
pub use Rattle.turn_defs.specs.Turns.{BallotNote, Note, land}
pub use Rattle.turn_defs.specs.declared.node.Input.{Input}
pub use Rattle.turn_defs.specs.declared.pair.PairRec.{PairRec}
pub use Rattle.verify_pass.specs.Classes.{notes_of}
