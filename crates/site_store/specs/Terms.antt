-- Terms of other crates, for the definitions and contracts of this one.
pub use Rattle.ballot_core.specs.declared.TheConstants.{LAST_EPOCH}
pub use Rattle.dispatch_core.specs.Places.{AreKeptPlaces, IsLogOf}
pub use Rattle.epoch_journal.specs.Epochs.{Keeps as KeepsEpoch, epoch_of}
pub use Rattle.gate_journal.specs.Gate.{StandsFor, gate_rule}
pub use Rattle.gate_journal.specs.Images.{GoesOn, IsKeptIn, StaysAs}
pub use Rattle.gate_journal.specs.Opening.{IsOpened}
pub use Rattle.gate_journal.specs.declared.journal.JournalState.TheVariants.{Ready}
pub use Rattle.gate_journal.specs.declared.reading.JournalFault.{JournalFault}
pub use Rattle.list_words.specs.Lists.{Each, EachPair, Mem, has}
pub use Rattle.log_records.specs.Lines.{ClickLine, Follow, HoldsLines, IsBoundary, at, end_from, placed}
pub use Rattle.log_records.specs.Log.{line_feed}
pub use Rattle.log_records.specs.Rows.{one_click}
pub use Rattle.log_records.specs.declared.records.ClickRec.{ClickRec, ClickRec as Click}
pub use Rattle.offset_journal.specs.Offsets.{Keeps as KeepsOffset, offset_of}
pub use Rattle.output_log.specs.Pairs.{IsDamagedAt as IsOutputDamaged, Keeps as KeepsPairs}
pub use Rattle.outside.specs.Disk.{StopsAmong, Throughout, Within}
pub use Rattle.outside.specs.Faults.{Counts, Rose, added, tallied}
pub use Rattle.outside.specs.Plans.{AtMost, MeetsPlan}
pub use Rattle.outside.specs.declared.store.DiskName.{DiskName}
pub use Rattle.outside.specs.declared.store.DiskName.TheVariants.{Offset, Replica, Retry}
pub use Rattle.paxos_acceptor.specs.Cells.{note_view}
pub use Rattle.paxos_acceptor.specs.declared.notes.ReplicaNote.{ReplicaNote}
pub use Rattle.photon_model.specs.Journals.{journals, values_from}
pub use Rattle.photon_model.specs.Runs.{Disks}
pub use Rattle.photon_model.specs.Topology.{IsBlank, Store, Topology as PlainTopology, Topology as StoreTopology, WholeSound, topology_of}
pub use Rattle.photon_model.specs.Verification.{AreOf, TellsTheReport}
pub use Rattle.retry_log.specs.Pending.{Keeps as KeepsPending, pending_of}
pub use Rattle.run_fault.specs.Causes.{IsOfDisk, IsWelcome}
pub use Rattle.run_fault.specs.declared.fault.LogName.{LogName}
pub use Rattle.run_fault.specs.declared.fault.LogName.TheVariants.{Clicks}
pub use Rattle.run_fault.specs.declared.fault.Misplaced.{Misplaced}
pub use Rattle.run_fault.specs.declared.fault.RunFault.{RunFault}
pub use Rattle.run_fault.specs.declared.fault.RunFault.TheVariants.{Memory, Store as StoreFailed}
pub use Rattle.run_fault.specs.declared.fault.StorePlace.{StorePlace}
pub use Rattle.run_fault.specs.declared.fault.StorePlace.TheVariants.{Disk as OfDisk}
pub use Rattle.run_fault.specs.declared.fault.Unfit.{Unfit}
pub use Rattle.site_laws.specs.Stores.{AreLeft, Bytes, Holds, Images, IsDisk, IsSoundOr, IsSoundStore, KeepSound, KeepsOf, KeepsTopology, KeepsVotes, joiner_of}
pub use Rattle.site_node.specs.Replicas.{IsVoted, KeepsNotes, kept_of, vote_record}
pub use Rattle.time_shards.specs.declared.ShardRow.{ShardRow}
pub use Rattle.topology_journal.specs.Topologies.{IsDamagedAt as IsTopologyDamaged, IsTopology, Keeps, MayCome, topologies, topology_of as topology_by, topology_record}
pub use Rattle.topology_journal.specs.declared.topology.Topology.{Topology, Topology as KeptTopology}
pub use Rattle.turn_defs.specs.Setting.{Setting, first_joiner}
pub use Rattle.turn_defs.specs.declared.pair.PairRec.{PairRec}
pub use Rattle.verify_pass.specs.TooSoon.{all_batches, taken, too_soon_for}
