-- The words of this crate's proofs: what they take from its definitions and from the crates below, under one name each.
pub use Rattle.ballot_core.proofs.Order.{same_false, same_true}
pub use Rattle.paxos_world.specs.Terms.{Begins, IsExact, Accepting, Attempt, Ballot, Each, Ended, IsChosen, IsOnly, IsSafe, JournalsAgree, Mem, Note, Phase, Place, Prepared, Promising, Rises, Taken, Vote, acceptance, cell_after, cell_of, decided, is_most, is_new, is_place, is_same, nobody, note_of, on_accept, on_accepted, on_prepare, on_promise, set_at, votes}
pub use Rattle.list_words.proofs.Lists.{at_set, at_set_if, each_more, none_some, some_same}
pub use Rattle.paxos_defs.proofs.Agreement.{agreed_one}
pub use Rattle.paxos_defs.proofs.Cells.{Knows, cell_knows, cell_push}
pub use Rattle.paxos_defs.proofs.Decided.{at_push, chosen_begin, decided_begin, decided_is}
pub use Rattle.paxos_defs.proofs.Facts.{accepted, answer_written, asked, asking_written, asks, asks_on, chosen_written, first_offer, grant_written, note_agrees, note_writes, offer_written, offering_written, offers, offers_on, refusal_written, unheard_sent, unheard_written, vote_suits}
pub use Rattle.paxos_defs.proofs.Places.{not_noted, note_casts, note_elsewhere, noted, place_true}
pub use Rattle.paxos_defs.proofs.Turns.{IsAcceptanceVote, IsPromiseVote, PreparedHolds, TakenHolds, accept_holds, after, prepare_holds}
pub use Rattle.paxos_defs.specs.Facts.{IsAnswered, IsAsking, IsGrant, IsOffer, IsOffering, IsRefusal, IsUnheard, Writes}
pub use Rattle.paxos_world.specs.Replicas.{Packet, Replicas, arrives, casts, comes, prepared, restarts, restored, sent, taken}
pub use Rattle.paxos_world.specs.Replicas.Packet.{Accept, Accepted, Chosen, Nack, Prepare, Promise}
pub use Rattle.paxos_world.specs.ServersWorld.{EpochsKept, Live, Proposal, Server, Shard, begins, if_up, learned_of, learns, next_place, packet_returns, phase_after, starts, with_server}
pub use Rattle.paxos_world.specs.ServersWorld.Event.{Starts, Stops}
pub use Rattle.paxos_world.specs.World.{draws, proposes}
pub use Rattle.paxos_world.specs.World.Event.{ProposerRestarts}
pub use Rattle.std.proofs.lemmas.Bool.{and_parts, cond_both, eqb-true, ltb-true}
pub use Rattle.std.proofs.lemmas.Bool.Decides.{nat_tests}
