use Rattle.std.proofs.Common.{take}
use Rattle.replica_node.proofs.Words.{Knows, kept_of}
use Rattle.replica_node.proofs.replay.replay.Given as goal

-- it knows what the notes so far say
abbrev pub invariant-loop-note : goal.invariant-loop-note
invariant-loop-note l = Knows l.acceptor (kept_of (take l.note-index l.notes))
