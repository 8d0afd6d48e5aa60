use Rattle.std.proofs.Common.{◌∙◌, List, ℕ, ap, sym, take, nat_eq, get_or, arith}
use Rattle.dispatch_core.proofs.Words.{take_more, contains, has}
use Rattle.dispatch_core.proofs.Sets.{one_more}
use Rattle.dispatch_core.proofs.dispatch.DispatchCore.start.Goals as goal

pub loop-position-preserved : goal.loop-position-preserved
loop-position-preserved c = λ q.
    let xs = c.deref-position-items.result.now in
    let i = c.loop-position.position-index in
    let p = get_or xs i 0 in
    c.in_ok-insert.ensures.updates.0 q ∙ one_more (contains nat_eq c.loop-position.kept q) (take i xs) p q (c.loop-position.invariant q) ∙ ap (λ (ys : List ℕ). has ys q) (sym (take_more xs i 0 (omega arith)))
