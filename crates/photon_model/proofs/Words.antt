-- The words of the law: what its proofs take from its definitions and from the crates below, under one name each.
pub use Rattle.photon_model.specs.Agreement.{AcceptedBy, AreOwned, IsOwned, NackedBy, Offer, Offered, PromisedBy, ReplicasSound, Votes, VotesAgree, VotesOf, VotesOfPhase, VotesOfProposal, VotesOfServer, next_place, offer}
pub use Rattle.photon_model.specs.EveryRun.{AllFactsHold, HasBounds, IsBoundOk, NoJoinerStops, RestLeaves, decided_in}
pub use Rattle.photon_model.specs.Facts.{Covers, DispatcherFacts, DispatcherHolds, FlightHolds, HoldsOf, HoldsOfBatch, HoldsOfBest, HoldsOfInput, HoldsOfOutcome, HoldsOfPhase, HoldsOfProposal, HoldsOfReply, IfOpen, IfUp, IsFreshSound, IsLineOf, IsTooOld, JoinerFacts, JoinerHolds, ReplicaFacts, ServerFacts, ServerHolds, ShardHolds, WorldHolds, known}
pub use Rattle.photon_model.specs.Images.{ImagesAreRuns, image, left_by}
pub use Rattle.photon_model.specs.Journals.{journals, values_from}
pub use Rattle.photon_model.specs.Keeping.{DispatcherKeeps, Grows, IsChosenNow, IsDrawing, IsFlying, IsResolved, JoinerKeeps, PacketsHold, PaxosGives, ReplicaKeeps, ServerKeeps, extended}
pub use Rattle.photon_model.specs.Report.{all_pairs, decided_for, line_by, line_of, pair_of, pairs_from, unwritten_line}
pub use Rattle.photon_model.specs.Rest.{BothUp, Carries, DispatcherWorks, IsAtRest, IsInterval, IsQuiet, IsWork, JoinerWorks, ServerWorks, UpWith, if_up, is_out, is_tick_of, is_unfinished, put_in, same_node, ticks_due, ticks_of, to_live}
pub use Rattle.photon_model.specs.Runs.{Cell, KeptOf, LiveOf, at_node, land_at, row_of, start_at, turn_at, Begin, Disks, End, Entry, Fits, IsRun, IsTurn, May, MayBegin, MayStop, Stop, WasSent, World, after, begun, disks, dispatcher_row, down, ended, joiner_row, opening, replica_row, row, sends, server_row, stopped, world_after}
pub use Rattle.photon_model.specs.Sound.{DispatcherSound, DrawnSound, HasNoQuery, InsertsOf, IsDrained, IsInsertOf, IsMissing, IsSettled, IsWritten, JoinerSound, Known, PairSound, Sound, SoundStore, accepted_inserts, inserts_in, inserts_of, known_of, values_of}
pub use Rattle.photon_model.specs.Stores.{IsLonger, ReadIsChecked, RunsKeepWhole, TopologyComesFirst, empty_disks, empty_store}
pub use Rattle.photon_model.specs.Topology.{IsBlank, Store, Topology, WholeSound, topology_of}
pub use Rattle.turn_defs.proofs.ShardsBelow.{shard_below}
pub use Rattle.photon_model.specs.Terms.{Accept, Accepting, Addressed, Already, Ballot, BallotNote, Batch, Begins, Busy, Checked, Chosen, ClickLine, Deliver, Dispatcher, DispatcherKept, DispatcherLive, Duplicate, Each, EachPair, Ended, EventId, Expired, Flight, Fresh, Granted, HasAccepted, Input, Insert, IsBoundary, IsGranted, IsJoin, IsJoiner, IsNode, J, Join, Joined, Joiner, JoinerKept, JoinerLive, JournalsAgree, M, Mem, Nack, NoQuery, Node, Note, OneChosen, Out, Output, Own, Packet, PairRec, Phase, Place, Prepare, Promise, Promised, Promising, Proposal, Registered, Replica, ReplicaKept, Reply, Sent, Server, ServerKept, ServerLive, Setting, ShardState, Start, Tick, Token, TooOld, U, Voted, Written, X, at, bound_of, dispatcher_at_rest, dispatcher_start, dispatcher_turn, dispatcher_unfinished, dispatcher_wants, end_from, first, first_joiner, has, holder, idle, insert_of, is_current, joiner_at_rest, joiner_start, joiner_turn, joiner_unfinished, land, land_dispatcher, land_joiner, land_replica, land_server, on_accepted, replica_start, replica_turn, server_at_rest, server_start, server_turn, server_unfinished, server_wants, set_at, shard, shards, waits, worked}
pub use Rattle.turn_defs.specs.Dispatcher.{advances, after_done, dispatcher_gets, dispatcher_joined, dispatcher_own, dispatcher_tick, done_end, ends, first_done, fresh_joins, has_room, join, join_if, mark, mark_one, parks, retries, some_waits, taken as taken_line, takes, trying_joins, with_room}
pub use Rattle.turn_defs.specs.Joiner.{answers, claim, in_flight, is_for, joiner_tick, landed, looks, next_token, replied, to_dispatcher, without_flight}
pub use Rattle.turn_defs.specs.Nodes.{IsTo, NumbersAreNodes, node_count, node_number, node_of}
pub use Rattle.turn_defs.specs.Packets.{IsPacket, packet}
pub use Rattle.turn_defs.specs.Replica.{cell_at, note_at, prepared, replica_gets, says, taken}
pub use Rattle.turn_defs.specs.Server.{accepted, again, all_again, claimed, empty_shard, first_shard, from_replica, gets_accepted, gets_nack, gets_promise, goes_on, is_below_limit, is_free, is_next, is_own_joiner, learns, may_propose, nacked, of_phase, owns, promised, queued, replies, reply, server_gets, server_own, server_tick, shard_unfinished, to_from, to_replicas, unanswered, with_shard}
pub use Rattle.turn_defs.specs.Setting.{site_of_joiner}
pub use Rattle.turn_defs.specs.Spellings.{IsPair}
pub use Rattle.turn_defs.specs.Turns.{Park, Settle, is_empty}
pub use Rattle.turn_defs.specs.declared.node.To.{To}
pub use Rattle.turn_defs.specs.declared.node.To.TheVariants.{AnyJoiner, Only}
pub use Rattle.turn_defs.specs.declared.packet.Outcome.{Outcome}
pub use Rattle.turn_defs.specs.declared.packet.Outcome.TheVariants.{TooOld as Late}
pub use Rattle.turn_defs.specs.declared.packet.Packet.TheVariants.{Accepted, Insert as Claim}
pub use Rattle.registry_state.proofs.LookingBack.{Replays, bound_stays, get_front, granted_means, granted_settles, granted_stays, holder_first, holder_granted, one_granted, replay_means, settled_stays}
pub use Rattle.registry_state.proofs.Tests.{same_batch-refl, same_batch-true, same_id-false, same_id-refl, same_id-true, same_token-refl, same_token-true}
pub use Rattle.registry_state.specs.LookBack.{bound_at, first_insert, replay}
pub use Rattle.registry_state.specs.Same.{same_batch, same_token}
pub use Rattle.registry_state.specs.declared.TheConstants.{MOST_WAITING}
pub use Rattle.registry_state.specs.declared.Answer.{Answer}
pub use Rattle.paxos_defs.proofs.Agreement.{agreed_one}
pub use Rattle.paxos_defs.proofs.Facts.{Suits, accepted as accepted_chosen, answer_written, asked, asking_sent, asking_written, asks, asks_on, decided_grows, first_offer, grant_written, learns_next, note_agrees, note_writes, offer_sent, offer_written, offering_sent, offering_written, offers, offers_on, refusal_written, vote_suits}
pub use Rattle.paxos_defs.proofs.Places.{cell_noted, has_split, noted, place_true, vote_here, votes_noted, votes_others}
pub use Rattle.paxos_defs.proofs.Votes.{has_last}
pub use Rattle.paxos_defs.specs.Agreement.{IsChosen, IsSafe}
pub use Rattle.paxos_defs.specs.Attempts.{is_most, is_new, nobody, on_promise, with_acceptance, with_promise}
pub use Rattle.paxos_defs.specs.Decided.{IsExact, decided}
pub use Rattle.paxos_defs.specs.Facts.{IsAnswered, IsAsking, IsGrant, IsOffer, IsOffering, IsUnheard, Writes}
pub use Rattle.paxos_defs.specs.Notes.{Cell as VotesCell, Has, Vote, acceptance, blank, cell_after, cell_from, cell_of, is_place, note_of, promise, vote_at, votes as votes_in, votes_at}
pub use Rattle.paxos_defs.specs.Notes.Note.{Accepted as Took}
pub use Rattle.paxos_defs.specs.Turns.{Prepared, Taken, accept_under, higher, is_accepted, on_accept, on_prepare, prepare_under, value_for, vote_anew}
pub use Rattle.paxos_defs.specs.Turns.Prepared.{Grant, Refuse}
pub use Rattle.paxos_defs.specs.Turns.Taken.{Decline, Take}
pub use Rattle.log_records.proofs.LineOrder.{at_mem, at_own, before_end, within_end}
pub use Rattle.log_records.specs.Lines.{Follow, NoConflict, first_click}
pub use Rattle.log_records.specs.declared.records.ClickRec.{ClickRec as Click}
pub use Rattle.log_records.specs.declared.records.QueryRec.{QueryRec as Query}
pub use Rattle.ballot_core.proofs.Order.{below_false, below_true, compared, not_above, same_false, same_true, upto_trans}
pub use Rattle.ballot_core.specs.Ballots.{IsBelow, IsUpTo, is_below, is_same}
pub use Rattle.ballot_core.specs.Majority.{Majority, marked}
pub use Rattle.event_id.specs.EventId.{id_cmp, is_same as same_id}
pub use Rattle.list_words.proofs.Lists.{at_set, at_set_if, clash, distinct_push, distinct_without, each_append, each_at, each_from, each_more, has_push-false, has_push-left, has_push-or, has_push-right, has_without, has_without-false, has_without-self, has_without-true, mem_left, mem_right, mem_split, none_some, option_both, pairs_push, some_same}
pub use Rattle.list_words.specs.Lists.{without}
