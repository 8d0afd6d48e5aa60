-- The words of this crate's proofs: what they take from its definitions and from the crates below, under one name each.
pub use Rattle.joiner_core.specs.Flying.{claim_to, flight_of, flights}
pub use Rattle.joiner_core.specs.Held.{IsHeld}
pub use Rattle.joiner_core.specs.Spelled.{ArePackets}
pub use Rattle.joiner_core.specs.Standing.{Answers, Carries, Does, IsReady, Stands, Turn, changed, epoch_after, known, note_of, row}
pub use Rattle.joiner_core.specs.Terms.{AllByRecursion, EventId, Flight, JoinerKept, JoinerLive, Node, Packet, claim, find, get, in_flight, insert_of, is_for, joiner_tick, landed, same_id, shift_remove_entry}
pub use Rattle.joiner_core.specs.declared.flights.Waiting.{Waiting}
pub use Rattle.registry_state.proofs.Learning.{nobody, succeeded}
pub use Rattle.registry_state.specs.Same.{same_token}
