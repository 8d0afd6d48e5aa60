-- The words of this crate's proofs: what they take from its definitions and from the crates below, under one name each.
pub use Rattle.air_bus.proofs.Phases.{aired_more, aired_none}
pub use Rattle.site_laws.specs.Terms.{AreSpelled, BusEntry, DiskName, IsAired, IsDone, IsIdle, IsNoted, IsOneTopology, IsOpened, IsVoted, KeepsEpoch, KeepsPairs, KeptTopology, Kind, Leads, LongerKeepsWhole, MayHold, MayTake, Path, PlanView, Reads, ReplicaNote, RowKeepsWhole, Rows, ShardRow, State, a_pair, addressed, gate_rule, is_dead, number_in, records, row_of, vote_record, with_row}
pub use Rattle.air_bus.specs.Laws.{DeliveredWasSent, Sent as BusSent, sent, sent_by, sent_to}
pub use Rattle.air_bus.specs.declared.entry.Phase.TheVariants.{Busy, Down}
pub use Rattle.gate_journal.specs.Fold.{read_as}
pub use Rattle.packet_codec.specs.Notes.{IsNote, note, pair as record_of}
pub use Rattle.paxos_acceptor.specs.Cells.{note_view, place_of}
pub use Rattle.photon_model.proofs.DispatcherRows.{each_packet as each_join}
pub use Rattle.photon_model.proofs.JoinerRows.{each_packet}
pub use Rattle.photon_model.proofs.ServerRows.{every_row, replicas_each, replies_each, reply_each, tick_each}
pub use Rattle.photon_model.proofs.Words.{Addressed, Answer, AnyJoiner, AreOwned, BallotNote, Batch, Begin, Cell, Deliver, Disks, Dispatcher, DispatcherKept, DispatcherLive, DispatcherSound, DrawnSound, Each, End, Entry, EventId, Expired, Fits, ImagesAreRuns, Input, Insert, InsertsOf, IsBlank, IsGranted, IsJoiner, IsNode, IsPacket, IsPair, IsRun, IsSettled, IsTo, IsTurn, IsWritten, Joiner, JoinerKept, JoinerLive, JoinerSound, JournalsAgree, Known, May, MayBegin, MayStop, Mem, Node, Note, NumbersAreNodes, Only, Out, Own, Packet, PairRec, PairSound, Phase, Place, Promised, Proposal, Registered, Replica, ReplicaKept, RunsKeepWhole, Sent, Server, ServerKept, ServerLive, Setting, ShardState, Sound, SoundStore, Start, Stop, Store, Tick, To, Took as Accepted, Topology, TopologyComesFirst, UpWith, WasSent, WholeSound, World, accepted, accepted_inserts, after, at, begun, disks, dispatcher_turn, down, each_at, each_more, empty_disks, empty_store, ended, first_joiner, image, inserts_of, is_own_joiner, joiner_turn, journals, known_of, left_by, mem_left, mem_right, mem_split, node_count, node_number, node_of, none_some, on_accepted, on_promise, opening, packet, promised, replies, row, sends, server_turn, set_at, shard, site_of_joiner, some_same, stopped, to_replicas, topology_of, values_from, worked, world_after}
pub use Rattle.photon_model.specs.Journals.{decided}
pub use Rattle.site_laws.specs.Choosing.{all_left, is_node_or}
pub use Rattle.site_laws.specs.Example.{DispatcherComesUp, DownIsStrict, on_the_bus, stands_at}
pub use Rattle.site_laws.specs.Kinds.{KeptOf, LiveOf, StateOf, cell_of, down_over, kept_of, rows_of}
pub use Rattle.site_laws.specs.Laws.{EachWalked, IsRunOf, LeftIsWhole, MayLeave, made_by}
pub use Rattle.site_laws.specs.Meaning.{AllMean, Means, OpenedAs}
pub use Rattle.site_laws.specs.Rest.{StatesAreQuiet, StatesRest}
pub use Rattle.site_laws.specs.StoreExample.{SoundBytes, a_row, pair_alone, row_behind, topology_alone}
pub use Rattle.site_laws.specs.StoreLaws.{HoldSameRecords, IsRowAdded, KeepOneTopology, LeavesNothing, LeftIsHeld, LongerStaysSound, OthersStay, ReadNotesAreKept, ReadTopologyIsKept, RowIsSound, RunStaysSound, SameIsSound, SameIsWhole, StaysSound, TopologyFits, TopologyIsFirst, WrittenIsSound}
pub use Rattle.site_laws.specs.Stores.{AreKept, AreLeft, HoldsRecords, Images, IsChoice, IsDisk, IsFit, IsSoundStore, KeepSound, KeepsFor, KeepsOf, KeepsTopology, KeepsVotes, SameRecords, joiner_of, node_with}
pub use Rattle.site_node.proofs.Replicas.{views_ok}
pub use Rattle.std.proofs.lemmas.Bool.{cases_lt, cond_both, eqb-false, eqb-true}
pub use Rattle.std.proofs.lemmas.List.{length-map}
pub use Rattle.std.proofs.lemmas.List.Elements.{All-head, All-nil, All-tail}
