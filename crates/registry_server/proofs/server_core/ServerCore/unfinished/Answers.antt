use Rattle.std.proofs.Common.{is_some, ap, ◌∙◌}
use Rattle.registry_server.proofs.server_core.ServerCore.unfinished.Goals as goal

pub returns : goal.returns
returns c = λ g k l h. c.is_some.ensures ∙ ap is_some (c.first.ensures.first g k l h)
