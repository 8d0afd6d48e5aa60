use Rattle.std.proofs.Common.{◌≡◌, length, refl, ◌∙◌, ap, arith}
use Rattle.replica_node.proofs.Words.{kept_of}
use Rattle.replica_node.proofs.Voters.{knows_down}
use Rattle.replica_node.proofs.node.replica_node.Goals as goal

pub returns-clause-stands : goal.returns-clause-stands
returns-clause-stands g c = λ tells g' of_g.
    let was = c.args.votes in
    let notes = was.value.notes in
    let parts = c.into_parts-journal.ensures in
    let held : c.notes.result.now ≡ notes.items = c.notes.ensures ∙ ap (λ v. v.notes.items) parts.value in
    let knows = knows_down c.new.result (kept_of notes.items) c.new.ensures.down (ap kept_of (c.new.ensures.notes ∙ ap (λ v. v.notes.items) parts.value)) in
    c.new-2.ensures.stands g' (kept_of notes.items) of_g knows
    (rw parts.journal (record { ready = c.requires; notes = notes.items; is = refl; keeps = was.kept tells c.requires; count = omega (arith, ap length held, notes.ok) }))
