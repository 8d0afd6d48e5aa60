use Rattle.std.proofs.Common.{ap, sym, ◌∙◌}
use Rattle.air_bus.proofs.Words.{list_any, is_stop_from, reaches}
use Rattle.air_bus.proofs.history.History.has_stop_from.Goals as goal

pub returns-in-Some : goal.returns-in-Some
returns-in-Some c = ap (reaches c.args.first) (sym c.in-Some.is) ∙ sym (c.self.invariant.stops c.args.first) ∙ ap (list_any (is_stop_from c.args.first)) c.self.view_is

pub returns-in-None : goal.returns-in-None
returns-in-None c = ap (reaches c.args.first) (sym c.in-None.is) ∙ sym (c.self.invariant.stops c.args.first) ∙ ap (list_any (is_stop_from c.args.first)) c.self.view_is
