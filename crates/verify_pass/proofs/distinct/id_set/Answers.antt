use Rattle.std.proofs.Common.{◌-◌, List, length, get_or, ap, sym, ◌∙◌, arith}
use Rattle.verify_pass.proofs.Words.{insert_key, EventId, id_cmp, in_order}
use Rattle.verify_pass.proofs.Ids.{drop_next, drop_end}
use Rattle.verify_pass.proofs.distinct.id_set.Goals as goal

pub loop-taken-init : goal.loop-taken-init
loop-taken-init c = record { ids = c.new-found.ensures.empty ∙ ap in_order (sym (drop_end c.args.ids.now)); rising = c.new-found.ensures.ordered }

pub loop-taken-preserved : goal.loop-taken-preserved
loop-taken-preserved c =
    let ids = c.args.ids.now in
    let k = c.loop-taken.taken in
    let none : EventId = record { ip = 0; pid = 0; micros = 0 } in
    let at = length ids - 1 - k in
    let x : EventId = get_or ids at none in
    record {
      ids = c.in_ok-insert.ensures.keys ∙ ap (λ (l : List EventId). insert_key id_cmp l x) c.loop-taken.invariant.ids ∙ ap in_order (sym (drop_next ids k at none (omega arith)));
      rising = c.in_ok-insert.ensures.ordered;
    }
