use Rattle.std.proofs.Common.{List, ◌||◌, ap, sym, ◌∙◌, option_map, is_some}
use Rattle.verify_pass.proofs.Words.{contains, id_cmp, Insert, first_in, Bor, Batch, slots}
use Rattle.verify_pass.proofs.Fronts.{either_way, has_next, has_whole}
use Rattle.verify_pass.proofs.states.add_slot.Goals as goal

pub returns-in_default-clause-whole : goal.returns-in_default-clause-whole
returns-in_default-clause-whole c = λ first h. has_whole (slots c.args.chosen.now c.args.shard) c.args.slot first c.args.ids.now (sym c.get.ensures ∙ ap (option_map (λ (b : Bor Batch). b.now)) c.in_default.is) h

pub returns-clause-next : goal.returns-clause-next
returns-clause-next c = λ first h.
    has_next (slots c.args.chosen.now c.args.shard) c.args.slot first c.args.ids.now c.add_all.new.ids c.in-Some.batch.now (sym c.get.ensures ∙ ap (option_map (λ (b : Bor Batch). b.now)) c.in-Some.is)
    (λ i. c.in_ok-add_all.ensures.each i ∙ ap (λ (xs : List Insert). contains id_cmp c.args.ids.now i || is_some (first_in xs i)) c.as_slice.ensures) h

pub returns-clause-kept : goal.returns-clause-kept
returns-clause-kept c = λ i h. either_way (contains id_cmp c.add_all.new.ids i) (contains id_cmp c.args.ids.now i) (is_some (first_in c.as_slice.result.now i)) (c.in_ok-add_all.ensures.each i) h
