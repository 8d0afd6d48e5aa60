use Rattle.std.proofs.Common.{Option, sym, subst}
use Rattle.replica_node.proofs.Words.{ReplicaNote, land, land_replica, Knows, noted}
use Rattle.replica_node.proofs.Noting.{knows_note}
use Rattle.replica_node.proofs.replica_core.ReplicaCore.keep.Goals as goal

pub returns-in-Some : goal.returns-in-Some
returns-in-Some c k going =
    subst (λ (note : Option ReplicaNote). Knows c.keep.new.self (land land_replica (noted note) k)) (sym c.in-Some.is)
    (knows_note c.go_on.new.self.acceptor c.keep.new.self k c.in-Some.note (c.go_on.ensures.next k going) c.keep.ensures)
