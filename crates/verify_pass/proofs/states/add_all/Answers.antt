use Rattle.std.proofs.Common.{◌||◌, List, take, get_or, ap, sym, ◌∙◌, arith, is_some}
use Rattle.verify_pass.proofs.Words.{contains, take_more, id_cmp, Insert, first_in}
use Rattle.verify_pass.proofs.Ids.{add_push}
use Rattle.verify_pass.proofs.states.add_all.Goals as goal

pub loop-insert-preserved : goal.loop-insert-preserved
loop-insert-preserved c =
    let items = c.args.inserts.now in
    let k = c.loop-insert.insert-index in
    let none : Insert = record { id = record { ip = 0; pid = 0; micros = 0 }; token = record { joiner = 0; epoch = 0; number = 0 } } in
    let x = get_or items k none in
    record {
      rising = λ h. c.in_ok-insert.ensures.ordered;
      each = λ i.
          add_push (contains id_cmp c.args.ids.now i) (contains id_cmp c.loop-insert.ids i) (contains id_cmp c.insert.new.self i) (take k items) x i (c.loop-insert.invariant.each i) (c.in_ok-insert.ensures.updates.0 i)
          ∙ ap (λ (xs : List Insert). contains id_cmp c.args.ids.now i || is_some (first_in xs i)) (sym (take_more items k none (omega arith)));
    }
