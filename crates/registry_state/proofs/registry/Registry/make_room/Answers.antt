use Rattle.std.proofs.Common.{◌∙◌}
use Rattle.registry_state.proofs.registry.Registry.make_room.Goals as goal

pub returns-clause-known : goal.returns-clause-known
returns-clause-known c = λ applied k. record { bound_is = k.bound_is; tokens = λ i. c.reserve.ensures.entries.2 i ∙ k.tokens i }
