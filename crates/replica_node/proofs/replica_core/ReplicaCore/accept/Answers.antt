use Rattle.std.proofs.Common.{Option, ap, ◌∙◌, subst}
use Rattle.replica_node.proofs.Words.{Cell, on_accept, ReplicaNote, cell_in, Batch, same_batch, taken, accepts, IsRow}
use Rattle.paxos_acceptor.specs.declared.notes.Taken as code
use Rattle.replica_node.proofs.Noting.{says_row}
use Rattle.replica_node.proofs.replica_core.ReplicaCore.accept.Goals as goal

pub returns-clause-turn : goal.returns-clause-turn
returns-clause-turn c = λ g k stands.
    let at = c.args.place in
    let b = c.args.ballot in
    let now = on_accept same_batch (cell_in c.args.self.now.acceptor at.shard at.slot) b c.args.batch.now in
    subst (λ (cell : Cell Batch). IsRow g (accepts c.args.from at b (on_accept same_batch cell b c.args.batch.now)) c.in_ok-turn.turn) (stands at)
    (says_row g c.args.from at now.0 (taken at b now.1) c.taken.result c.in_ok-turn.turn (c.in_ok-turn.ensures.note ∙ ap (λ (t : Option ReplicaNote × code.Taken). t.0) c.in_ok-note.ensures.turn) c.in_ok-turn.ensures.packets
    (c.taken.ensures now.1 (ap (λ (t : Option ReplicaNote × code.Taken). t.1) c.in_ok-note.ensures.turn)))
