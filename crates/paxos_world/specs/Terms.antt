-- Terms of other crates, for the definitions and contracts of this one.
pub use Rattle.ballot_core.specs.Ballots.{is_same}
pub use Rattle.ballot_core.specs.declared.Ballot.{Ballot}
pub use Rattle.list_words.specs.Lists.{Begins, Each, Mem, set_at}
pub use Rattle.paxos_defs.specs.Agreement.{IsChosen, IsOnly, IsSafe, JournalsAgree, OneChosen, Rises}
pub use Rattle.paxos_defs.specs.Attempts.{Attempt, Phase, is_most, is_new, nobody, on_accepted, on_promise}
pub use Rattle.paxos_defs.specs.Attempts.Phase.{Accepting, Ended, Promising}
pub use Rattle.paxos_defs.specs.Decided.{IsExact, decided}
pub use Rattle.paxos_defs.specs.Notes.{Cell, Has, Note, Vote, acceptance, cell_after, cell_of, is_noted, is_place, note_of, votes}
pub use Rattle.paxos_defs.specs.Turns.{Prepared, Taken, on_accept, on_prepare}
pub use Rattle.paxos_defs.specs.declared.Place.{Place}
