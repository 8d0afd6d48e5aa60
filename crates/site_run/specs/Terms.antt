-- Terms of other crates, for the definitions and contracts of this one.
pub use Rattle.air_bus.specs.declared.entry.Entry.TheVariants.{Begin}
pub use Rattle.air_bus.specs.declared.entry.Entry.{Entry as BusEntry}
pub use Rattle.air_bus.specs.declared.entry.Input.TheVariants.{Start}
pub use Rattle.air_bus.specs.declared.entry.Input.{Input}
pub use Rattle.ballot_core.specs.declared.TheConstants.{LAST_EPOCH}
pub use Rattle.dispatch_core.specs.Places.{AreKeptPlaces, IsLogOf}
pub use Rattle.gate_journal.specs.Images.{GoesOn, IsKeptIn, StaysAs}
pub use Rattle.list_words.specs.Lists.{Each, Mem, option_or_else}
pub use Rattle.log_records.specs.Lines.{ClickLine, end_from}
pub use Rattle.log_records.specs.declared.report.ReportLine.{ReportLine}
pub use Rattle.lossy_link.specs.Fates.{PlanView}
pub use Rattle.lossy_link.specs.declared.plan.Kind.{Kind}
pub use Rattle.outside.specs.Faults.{Counts, Rose}
pub use Rattle.outside.specs.declared.store.DiskName.TheVariants.{Epoch as EpochDisk, Offset as OffsetDisk, Output as OutputDisk, Replica as ReplicaDisk, Retry as RetryDisk, Server as ServerDisk, Topology as TopologyDisk}
pub use Rattle.outside.specs.declared.store.DiskName.{DiskName}
pub use Rattle.photon_model.specs.EveryRun.{NoJoinerStops}
pub use Rattle.photon_model.specs.Rest.{IsAtRest}
pub use Rattle.photon_model.specs.Runs.{Disks, Entry, disks, opening, world_after}
pub use Rattle.photon_model.specs.Topology.{Store, topology_of}
pub use Rattle.run_fault.specs.Causes.{IsCounted, IsOfDisk, IsWelcome}
pub use Rattle.run_fault.specs.declared.fault.LogName.TheVariants.{Clicks, Queries}
pub use Rattle.run_fault.specs.declared.fault.LogName.{LogName}
pub use Rattle.run_fault.specs.declared.fault.RunFault.{RunFault}
pub use Rattle.run_fault.specs.declared.fault.StorePlace.{StorePlace}
pub use Rattle.site_laws.specs.Kinds.{KeptOf, StateOf, down_over, rows_of}
pub use Rattle.site_laws.specs.Laws.{IsRunOf, made_by}
pub use Rattle.site_laws.specs.Stores.{AreKept, AreLeft, Bytes, Images, IsDisk, IsSoundStore, KeepsFor, KeepsOf, KeepsTopology, SameRecords}
pub use Rattle.site_node.specs.Replicas.{KeepsNotes, ReplicaState, replica_rows}
pub use Rattle.site_node.specs.Rows.{Numbered, dispatcher_rows, joiner_rows, numbered, server_rows, spent_epoch, with_number}
pub use Rattle.site_node.specs.Shell.{spends_at}
pub use Rattle.site_node.specs.States.{Leads, MayHold, MayTake, Rows, Says, State, state_phase}
pub use Rattle.site_node.specs.declared.kind.NodeDisk.TheVariants.{First}
pub use Rattle.site_node.specs.declared.kind.NodeDisk.{NodeDisk}
pub use Rattle.site_node.specs.declared.kind.NodeFault.{NodeFault}
pub use Rattle.site_store.specs.Causes.{HasCause, LeavesSomething}
pub use Rattle.site_store.specs.Kinds.{damaged_by, joiners_kept}
pub use Rattle.site_store.specs.Lent.{IsOfOne, Lacks, Lent, MayBeLeft}
pub use Rattle.site_store.specs.Misfits.{or_else}
pub use Rattle.site_store.specs.Plans.{AllAsPlanned, HasSoon, Left}
pub use Rattle.site_store.specs.ReadBack.{AreAmongImages, AreReadFrom, EachWith, IsOnlyRead, IsToldBy, OneWith, is_output, is_read, is_replica, outputs, replicas}
pub use Rattle.site_store.specs.Records.{AreRecordsOf, EpochIs, KeptDisk, KeptValues, OpenView, kept_all, lent_all, topology_lent}
pub use Rattle.site_store.specs.Refusals.{IsJournalOf, other_names}
pub use Rattle.site_store.specs.declared.lent.disk.LentDisk.{LentDisk}
pub use Rattle.site_workers.specs.Works.{Path, Reached, is_in_turn, is_stop, stop_count}
pub use Rattle.turn_defs.specs.Configs.{IsRunnable}
pub use Rattle.turn_defs.specs.Nodes.{IsNode, node_count, node_number}
pub use Rattle.turn_defs.specs.Setting.{Checked, IsJoiner, Setting, shard, shards}
pub use Rattle.turn_defs.specs.declared.config.Config.{Config}
pub use Rattle.turn_defs.specs.declared.node.Node.TheVariants.{Dispatcher, Joiner, Replica, Server}
pub use Rattle.turn_defs.specs.declared.node.Node.{Node}
pub use Rattle.verify_pass.specs.declared.journals.Journals.{Journals}
