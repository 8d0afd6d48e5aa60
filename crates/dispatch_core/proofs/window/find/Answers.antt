use Rattle.std.proofs.Common.{◌≡◌, ◌<◌, ℕ, Ok, length, rules, arith, subst, Result}
use Rattle.dispatch_core.proofs.Words.{IsSearchInRange, answers_always, FreshLine}
use Rattle.dispatch_core.proofs.Found.{found}
use Rattle.dispatch_core.proofs.window.find.Goals as goal

pub returns : goal.returns
returns c =
    let xs = c.args.fresh.now.items in
    let r = c.binary_search_by_key.result in
    let range : (i : ℕ) → r ≡ Ok i → i < length xs = λ i e. let h : IsSearchInRange (Ok i) c.args.fresh.now.len = subst (λ (s : Result ℕ ℕ). IsSearchInRange s c.args.fresh.now.len) e c.binary_search_by_key.ensures.bound in omega (arith, h, c.args.fresh.now.ok) in
    found xs c.args.position r range (c.binary_search_by_key.ensures.position (λ (y : FreshLine). y.position) (answers_always _ _ _ (λ f a r g called. search rules)))
