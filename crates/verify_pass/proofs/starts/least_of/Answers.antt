use Rattle.std.proofs.Common.{[], ◌∷◌, take, get_or, ap, sym, ◌∙◌, arith, Option}
use Rattle.verify_pass.proofs.Words.{take_more, fold-append, EventId, Insert, least_from, least_with}
use Rattle.verify_pass.proofs.starts.least_of.Goals as goal

pub loop-insert-preserved : goal.loop-insert-preserved
loop-insert-preserved c =
    let xs = c.args.inserts.now in
    let k = c.loop-insert.insert-index in
    let none : Insert = record { id = record { ip = 0; pid = 0; micros = 0 }; token = record { joiner = 0; epoch = 0; number = 0 } } in
    let start = c.args.start in
    c.least_with-least.ensures
    ∙ ap (λ (o : Option EventId). least_with start o (get_or xs k none)) c.loop-insert.invariant
    ∙ sym (fold-append (least_with start) c.args.first (take k xs) (get_or xs k none ∷ []))
    ∙ ap (least_from start c.args.first) (sym (take_more xs k none (omega arith)))
