-- The token of each id, in the order by time or among the newest.
use Rattle.std.proofs.Common.{◌≡◌, ℕ, ◌≤◌, ◌<◌, false, not, cond, nat_lt, List, [], ◌∷◌, ◌++◌, take, drop, ◌+◌, filter, Option, None, Some, IsSome, is_some, is_eq, is_gt, refl, sym, ap, ◌∙◌, arith}
use Rattle.std.proofs.lemmas.Bool.Decides.{nat_tests}
use Rattle.std.proofs.lemmas.List.{take-append-drop}
use Rattle.event_id.specs.declared.id.EventId.{EventId}
use Rattle.event_id.specs.EventId.{is_same as same_id}
use Rattle.registry_state.specs.declared.Token.{Token}
use Rattle.registry_state.specs.declared.Insert.{Insert}
use Rattle.registry_state.specs.LookBack.{first_in, or_else}
use Rattle.registry_state.specs.Recalls.{above}
use Rattle.registry_state.proofs.Learning.{own}
use Rattle.registry_state.proofs.Tests.{same_id-true}
use Rattle.id_expiry.specs.declared.by_time.ByTime.{ByTime}
use Rattle.id_expiry.specs.Times.{of_id, by_time}

abbrev Held : Type 0
Held = EventId → Option Token

-- ids that compare as equal are one
pub tie : (a b : EventId) → is_eq (by_time (of_id a) (of_id b)) ≡ same_id a b
tie a b = grind (arith, nat_tests)

-- ids of two times aren't
pub apart : (t : ByTime) (i : EventId) → t.micros < i.micros → is_eq (by_time t (of_id i)) ≡ false
apart t i lt = grind (arith, nat_tests)

-- the first is no later than the others
pub no_later : (t : ByTime) (i : EventId) → is_gt (by_time t (of_id i)) ≡ false → t.micros ≤ i.micros
no_later t i e = grind (arith, nat_tests)

pub or_none : (o : Option Token) → or_else o None ≡ o
or_none h = grind arith

-- behind what holds some of them, all of them add the others
pub or_again : (a b c : Option Token) → or_else (or_else a b) (or_else b c) ≡ or_else a (or_else b c)
or_again h k c = grind arith

pub first_in-append : (xs ys : List Insert) (i : EventId) → first_in (xs ++ ys) i ≡ or_else (first_in xs i) (first_in ys i)
first_in-append [] ys i = refl
first_in-append (x ∷ xs) ys i = grind (arith, first_in-append xs ys i)

-- one more, behind the others
pub one_more : (a : Option Token) (xs : List Insert) (x : Insert) (i : EventId) → or_else (or_else a (first_in xs i)) (own x i) ≡ or_else a (first_in (xs ++ x ∷ []) i)
one_more a xs x i = grind (arith, own, first_in-append)

pub put_more : (was held now : Held) (items : List Insert) (k : ℕ) (x : Insert) → take (k + 1) items ≡ take k items ++ x ∷ [] → ((i : EventId) → now i ≡ or_else (held i) (own x i)) → ((i : EventId) → held i ≡ or_else (was i) (first_in (take k items) i))
    → (i : EventId) → now i ≡ or_else (was i) (first_in (take (k + 1) items) i)
put_more was held now items k x more put so_far i = put i ∙ ap (λ o. or_else o (own x i)) (so_far i) ∙ one_more (was i) (take k items) x i ∙ ap (λ (xs : List Insert). or_else (was i) (first_in xs i)) (sym more)

-- some of them are in, and all of them stand behind these
pub put_some : (was held : Held) (items : List Insert) (k : ℕ) → ((i : EventId) → held i ≡ or_else (was i) (first_in (take k items) i)) → (i : EventId) → or_else (held i) (first_in items i) ≡ or_else (was i) (first_in items i)
put_some was held items k so_far i =
    let parts : first_in items i ≡ or_else (first_in (take k items) i) (first_in (drop k items) i) = ap (λ (xs : List Insert). first_in xs i) (sym (take-append-drop k items)) ∙ first_in-append (take k items) (drop k items) i in
    (λ j. or_else (so_far i j) (parts j)) ∙ or_again (was i) (first_in (take k items) i) (first_in (drop k items) i) ∙ ap (or_else (was i)) (sym parts)

-- an id that nobody has goes to the token
pub given : (was : Held) (id : EventId) (t : Token) → is_some (was id) ≡ false → (i : EventId) → cond (same_id id i) (Some t) (was i) ≡ or_else (was i) (cond (same_id id i) (Some t) None)
given was id t none i = grind (arith, same_id-true)

-- where no id below the bound has a token, and the others have theirs
pub dropped : (was held : Held) (bound : ℕ) → ((i : EventId) → IsSome (held i) → bound ≤ i.micros) → ((i : EventId) → bound ≤ i.micros → held i ≡ was i) → (i : EventId) → held i ≡ above bound i (was i)
dropped was held bound late young i = grind arith

first_above : (bound : ℕ) (xs : List Insert) (i : EventId) → first_in (filter (λ x. not (nat_lt x.id.micros bound)) xs) i ≡ above bound i (first_in xs i)
first_above bound [] i = grind arith
first_above bound (x ∷ xs) i = grind (arith, first_above bound xs i)

-- in both places the ids below the bound are dropped
pub both_above : (was held : Held) (newest now : List Insert) (bound : ℕ) → ((i : EventId) → held i ≡ above bound i (was i)) → now ≡ filter (λ x. not (nat_lt x.id.micros bound)) newest
    → (i : EventId) → or_else (held i) (first_in now i) ≡ above bound i (or_else (was i) (first_in newest i))
both_above was held newest now bound f e i = grind (arith, first_above)
