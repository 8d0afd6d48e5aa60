use Rattle.std.proofs.Common.{Option, ap, ◌∙◌, subst}
use Rattle.replica_node.proofs.Words.{Cell, on_prepare, ReplicaNote, cell_in, Batch, prepared, prepares, IsRow}
use Rattle.paxos_acceptor.specs.declared.notes.Prepared as code
use Rattle.replica_node.proofs.Noting.{says_row}
use Rattle.replica_node.proofs.replica_core.ReplicaCore.prepare.Goals as goal

pub returns-clause-turn : goal.returns-clause-turn
returns-clause-turn c = λ g k stands.
    let at = c.args.place in
    let b = c.args.ballot in
    let now = on_prepare (cell_in c.args.self.now.acceptor at.shard at.slot) b in
    subst (λ (cell : Cell Batch). IsRow g (prepares c.args.from at b (on_prepare cell b)) c.in_ok-turn.turn) (stands at)
    (says_row g c.args.from at now.0 (prepared at b now.1) c.prepared.result c.in_ok-turn.turn (c.in_ok-turn.ensures.note ∙ ap (λ (t : Option ReplicaNote × code.Prepared). t.0) c.in_ok-note.ensures.turn) c.in_ok-turn.ensures.packets
    (c.prepared.ensures now.1 (ap (λ (t : Option ReplicaNote × code.Prepared). t.1) c.in_ok-note.ensures.turn)))
