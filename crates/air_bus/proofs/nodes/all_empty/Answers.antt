use Rattle.std.proofs.Common.{◌≡◌, [], refl, sym, ◌∙◌, subst, arith, below_more}
use Rattle.air_bus.proofs.Words.{true≢false, Keeps}
use Rattle.air_bus.proofs.nodes.all_empty.Goals as goal

pub returns-then-not-is_empty : goal.returns-then-not-is_empty
returns-then-not-is_empty c = λ nodes copies keeps.
    let at = c.loop-inbox.inbox-index in
    let x = c.inbox-item.result in
    let here : Keeps nodes x (copies at) = subst (λ i. Keeps nodes i (copies at)) (sym c.inbox-item.is) (keeps at x c.loop-inbox-test.true) in (
      λ f. absurd (true≢false (sym f)),
      λ none. absurd (true≢false (sym ((c.is_empty.ensures nodes (copies at) here).1 (none at c.loop-inbox-test.true)) ∙ c.if-not-is_empty.true)),
    )

pub loop-inbox-preserved : goal.loop-inbox-preserved
loop-inbox-preserved c = λ nodes copies keeps.
    let at = c.loop-inbox.inbox-index in
    let x = c.inbox-item.result in
    let here : Keeps nodes x (copies at) = subst (λ i. Keeps nodes i (copies at)) (sym c.inbox-item.is) (keeps at x c.loop-inbox-test.true) in
    below_more (λ n. (copies n).copies ≡ []) at (c.loop-inbox.invariant nodes copies keeps) ((c.is_empty.ensures nodes (copies at) here).0 c.if-not-is_empty.false)

pub returns : goal.returns
returns c = λ nodes copies keeps. (λ t n inside. c.loop-inbox.invariant nodes copies keeps n (omega (arith, inside)), λ none. refl)
