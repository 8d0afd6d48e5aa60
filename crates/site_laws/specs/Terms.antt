-- Terms of other crates, for the definitions and contracts of this one.
pub use Rattle.air_bus.specs.History.{IsAired, is_of, node_of as number_in}
pub use Rattle.air_bus.specs.Waiting.{is_dead}
pub use Rattle.air_bus.specs.declared.entry.Entry.{Entry as BusEntry}
pub use Rattle.epoch_journal.specs.Epochs.{Keeps as KeepsEpoch}
pub use Rattle.gate_journal.specs.Gate.{framed, gate_rule, records}
pub use Rattle.gate_journal.specs.Images.{IsKeptIn, StaysAs}
pub use Rattle.gate_journal.specs.Opening.{IsOpened}
pub use Rattle.list_words.specs.Lists.{Each}
pub use Rattle.lossy_link.specs.Fates.{PlanView}
pub use Rattle.lossy_link.specs.declared.plan.Kind.{Kind}
pub use Rattle.output_log.specs.Pairs.{Keeps as KeepsPairs, record_of}
pub use Rattle.output_log.specs.Rows.{a_pair}
pub use Rattle.outside.specs.declared.store.DiskName.{DiskName}
pub use Rattle.paxos_acceptor.specs.declared.notes.ReplicaNote.{ReplicaNote}
pub use Rattle.photon_model.specs.Adding.{IsFree, RowKeepsWhole, with_row}
pub use Rattle.photon_model.specs.Runs.{Begin, Cell, Disks, End, Entry, IsRun, Stop, World, disks, opening, world_after}
pub use Rattle.photon_model.specs.Stores.{IsLonger, IsOneTopology, LongerKeepsWhole, empty_disks}
pub use Rattle.photon_model.specs.Topology.{Store, Topology, WholeSound, topology_of}
pub use Rattle.site_node.specs.Bytes.{AreSpelled, IsNoted, Reads, addressed}
pub use Rattle.site_node.specs.Replicas.{IsVoted, KeepsNotes, OnDisk, kept_of as notes_kept, replica_rows, vote_record}
pub use Rattle.site_node.specs.Rows.{dispatcher_rows, joiner_rows, server_rows}
pub use Rattle.site_node.specs.States.{IsDone, IsIdle, Leads, MayHold, MayTake, Path, Rows, State, row_of}
pub use Rattle.time_shards.specs.declared.ShardRow.{ShardRow}
pub use Rattle.topology_journal.specs.declared.topology.Topology.{Topology as KeptTopology}
pub use Rattle.turn_defs.specs.Dispatcher.{DispatcherKept, DispatcherLive, dispatcher_at_rest, dispatcher_start, dispatcher_wants}
pub use Rattle.turn_defs.specs.Joiner.{JoinerKept, JoinerLive, joiner_at_rest}
pub use Rattle.turn_defs.specs.Nodes.{IsNode, node_count, node_number, node_of}
pub use Rattle.turn_defs.specs.Replica.{ReplicaKept}
pub use Rattle.turn_defs.specs.Rows.{worked}
pub use Rattle.turn_defs.specs.Server.{ServerKept, ServerLive, server_at_rest, server_wants}
pub use Rattle.turn_defs.specs.Setting.{Checked, Setting, first_joiner}
pub use Rattle.turn_defs.specs.declared.node.Node.{Node}
pub use Rattle.turn_defs.specs.declared.node.Node.TheVariants.{Dispatcher, Joiner, Replica, Server}
