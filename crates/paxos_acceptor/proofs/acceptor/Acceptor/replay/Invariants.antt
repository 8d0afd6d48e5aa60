use Rattle.std.proofs.Common.{◌≡◌, map}
use Rattle.paxos_defs.specs.declared.Place.{Place}
use Rattle.paxos_defs.specs.Notes.{cell_of, votes_at}
use Rattle.paxos_acceptor.specs.Cells.{cell_at, note_view}
use Rattle.paxos_acceptor.proofs.acceptor.Acceptor.replay.Given as goal

abbrev pub invariant-loop-note : goal.invariant-loop-note
invariant-loop-note l = (p : Place) → cell_at l.acceptor p ≡ cell_of (votes_at p (map note_view l.yielded))
