use Rattle.std.proofs.Common.{List, subst, sym, ap, ◌∙◌, ◌∷◌, [], ℕ}
use Rattle.dispatch_core.proofs.Words.{nil_from_length, deque_iter_rest, Click, FreshLine, Puts, waiting_joins}
use Rattle.dispatch_core.proofs.Joins.{puts_none, puts_more, waiting_more}
use Rattle.dispatch_core.proofs.outbox.Outbox.put_waiting.Goals as goal

pub loop-line-preserved : goal.loop-line-preserved
loop-line-preserved c = λ last rest.
    let line = c.in-Some.line.now in
    let left = deque_iter_rest c.next.new.self in
    let more = puts_more c.loop-line.self c.put_line.new.self last (waiting_joins (line ∷ [])) (waiting_joins left) c.in_ok-put_line.ensures rest in
    c.loop-line.invariant last (subst (λ (js : List (ℕ × Click)). Puts c.loop-line.self last js) (waiting_more line left ∙ ap waiting_joins (sym c.in-Some.ensures.steps)) more)

pub returns : goal.returns
returns c = c.loop-line.invariant c.loop-line.self (subst (λ (xs : List FreshLine). Puts c.loop-line.self c.loop-line.self (waiting_joins xs)) (sym (nil_from_length (deque_iter_rest c.loop-line.line-iterator) c.in-None.ensures.steps.0)) (puts_none c.loop-line.self))
