use Rattle.std.proofs.Common.{ℕ, None, refl, ap, ◌∙◌, subst}
use Rattle.registry_server.proofs.Words.{Epochs, Knows, Numbered, ServerKept}
use Rattle.registry_server.proofs.node.server_node.Goals as goal

pub returns-clause-stands : goal.returns-clause-stands
returns-clause-stands g c = λ tells g' of_g.
    let kept : Numbered ServerKept = record { number = c.args.site; disk = record { epoch = c.args.journal.value.epoch } } in
    let told = c.epoch.ensures ∙ ap (λ (x : Epochs). x.epoch) c.value.ensures in
    let knows = subst (λ (e : ℕ). Knows c.in-Ok.registrar g' (record { number = c.args.site; disk = record { epoch = e } }) None) told (c.in-Ok.ensures g' of_g) in
    c.new-2.ensures.stands g' kept of_g knows (record { ready = c.requires.ready; epoch = refl })
