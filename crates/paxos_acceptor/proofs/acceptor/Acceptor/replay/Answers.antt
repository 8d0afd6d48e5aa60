use Rattle.std.proofs.Common.{◌∙◌}
use Rattle.paxos_acceptor.specs.Cells.{cell_at}
use Rattle.paxos_acceptor.proofs.Replayed.{replayed}
use Rattle.paxos_acceptor.proofs.acceptor.Acceptor.replay.Goals as goal

pub loop-note-preserved : goal.loop-note-preserved
loop-note-preserved c p = replayed c.loop-note.yielded c.in-Some.note p (cell_at c.make_room.new.self p) (cell_at c.keep.new.self p) (c.make_room.ensures.same p ∙ c.loop-note.invariant p) (c.keep.ensures p)
