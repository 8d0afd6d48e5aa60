use Rattle.std.proofs.Common.{List, subst, sym, ◌∷◌, [], ℕ, refl, ◌≡◌, ◌⊎◌, ⊎_elim, inl, inr}
use Rattle.dispatch_core.proofs.Words.{zip, iter_rest, nil_from_length, Click, Puts}
use Rattle.dispatch_core.proofs.Joins.{puts_none, puts_more}
use Rattle.dispatch_core.proofs.outbox.Outbox.put_trying.Goals as goal

zip_empty : (ps : List ℕ) (cs : List Click) → (ps ≡ []) ⊎ (cs ≡ []) → [] ≡ zip ps cs
zip_empty [] cs h = refl
zip_empty (p ∷ ps) [] h = refl
zip_empty (p ∷ ps) (c ∷ cs) h = ⊎_elim (λ e. cc) (λ e. cc) h

pub loop-position-preserved : goal.loop-position-preserved
loop-position-preserved c = λ last rest.
    let after = c.next.new.self in
    let step = c.in-Some.ensures.steps in
    let p = c.in-Some.position.now in
    let click = c.in-Some.click.now in
    let put = subst (λ (x : Click). Puts c.loop-position.self c.put.new.self ((p, x) ∷ [])) c.in_ok-share.ensures c.in_ok-put.ensures in
    let more = puts_more c.loop-position.self c.put.new.self last ((p, click) ∷ []) (zip (iter_rest after.a) (iter_rest after.b)) put rest in
    c.loop-position.invariant last (subst (λ (js : List (ℕ × Click)). Puts c.loop-position.self last js) (λ i. zip (sym step.0 i) (sym step.1 i)) more)

pub returns-clause-puts : goal.returns-clause-puts
returns-clause-puts c =
    let here = c.loop-position.position-iterator in
    let none = zip_empty (iter_rest here.a) (iter_rest here.b) (⊎_elim (λ h. inl (nil_from_length (iter_rest here.a) h.1.0)) (λ h. inr (nil_from_length (iter_rest here.b) h.1.0)) c.in-None.ensures.steps) in
    c.loop-position.invariant c.loop-position.self (subst (λ (js : List (ℕ × Click)). Puts c.loop-position.self c.loop-position.self js) none (puts_none c.loop-position.self))
