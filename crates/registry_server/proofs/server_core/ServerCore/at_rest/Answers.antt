use Rattle.std.proofs.Common.{◌≡◌, is_none, ap, ◌∙◌, rules}
use Rattle.registry_server.proofs.server_core.ServerCore.at_rest.Goals as goal

pub returns : goal.returns
returns c = λ g k l h.
    let e : c.is_none.result ≡ is_none c.first.result = search rules in
    e ∙ ap is_none (c.first.ensures.first g k l h)
