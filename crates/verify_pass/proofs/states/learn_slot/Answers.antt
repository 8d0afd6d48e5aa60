use Rattle.std.proofs.Common.{ap, sym, ◌∙◌, option_map}
use Rattle.verify_pass.proofs.Words.{Bor, Batch, slots}
use Rattle.verify_pass.proofs.Fronts.{at_next, whole}
use Rattle.verify_pass.proofs.states.learn_slot.Goals as goal

pub returns-in_default-clause-whole : goal.returns-in_default-clause-whole
returns-in_default-clause-whole c = λ h. whole (slots c.args.chosen.now c.args.shard) c.args.slot c.args.registry.now (sym c.get.ensures ∙ ap (option_map (λ (b : Bor Batch). b.now)) c.in_default.is) h

pub returns-clause-next : goal.returns-clause-next
returns-clause-next c = λ h. at_next (slots c.args.chosen.now c.args.shard) c.args.slot c.args.registry.now c.make_room.new.self c.learn.new.self c.in-Some.batch.now (sym c.get.ensures ∙ ap (option_map (λ (b : Bor Batch). b.now)) c.in-Some.is) c.make_room.ensures.known c.learn.ensures.known h
