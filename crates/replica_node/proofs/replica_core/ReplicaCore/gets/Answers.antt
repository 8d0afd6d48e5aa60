use Rattle.std.proofs.Common.{IfOk, sym, subst}
use Rattle.replica_node.proofs.Words.{Packet, Setting, ReplicaKept, replica_gets, IsRow, Stands}
use Rattle.replica_node.proofs.replica_core.ReplicaCore.gets.Goals as goal

pub returns-in-Prepare-clause-turn : goal.returns-in-Prepare-clause-turn
returns-in-Prepare-clause-turn c =
    subst (λ (p : Packet). IfOk c.prepare.result (λ turn. (g : Setting) (k : ReplicaKept) → Stands c.args.self.now k → IsRow g (replica_gets k c.args.from p) turn)) (sym c.in-Prepare.is) c.prepare.ensures.turn

pub returns-in-Accept-clause-turn : goal.returns-in-Accept-clause-turn
returns-in-Accept-clause-turn c =
    subst (λ (p : Packet). IfOk c.accept.result (λ turn. (g : Setting) (k : ReplicaKept) → Stands c.args.self.now k → IsRow g (replica_gets k c.args.from p) turn)) (sym c.in-Accept.is) c.accept.ensures.turn
