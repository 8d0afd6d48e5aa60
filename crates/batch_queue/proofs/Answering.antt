-- What is answered, among all that wait or among a part, and what is left.
use Rattle.std.proofs.Common.{◌≡◌, ◌≤◌, ◌&&◌, Bool, true, false, not, filter, List, [], ◌∷◌, ◌++◌, Some, None, refl, sym, ap, ◌∙◌, arith}
use Rattle.std.specs.Prelude.{Option, is_some, option_to_list}
use Rattle.batch_queue.proofs.Words.{option_map, AllByRecursion, list_any, true≢false, EventId, same_id, Insert, Batch, Answer, bound_of, first_in, answered, unanswered, replays, IsUnanswered}
use Rattle.batch_queue.proofs.Claims.{none_ahead}

-- the insert with its answer, where it has one
abbrev pub paired : (Insert → Option Answer) → Insert → Option (Insert × Answer)
paired f x = option_map (λ a. (x, a)) (f x)

pub answered-append : (f : Insert → Option Answer) (xs ys : List Insert) → answered f (xs ++ ys) ≡ answered f xs ++ answered f ys
answered-append f [] ys = refl
answered-append f (x ∷ xs) ys = grind (arith, answered-append f xs ys)

-- the newest behind the others
pub and_newest : (f : Insert → Option Answer) (xs : List Insert) (x : Insert) (newest : Option Insert) (before all : List (Insert × Answer)) → newest ≡ Some x → before ≡ answered f xs → all ≡ before ++ answered f (x ∷ [])
    → all ≡ answered f (xs ++ option_to_list newest)
and_newest f xs x newest before all is e h = grind (arith, answered-append)

-- ---- among a part

-- those that don't pass the test have no answer
pub among_part : (f g : Insert → Option Answer) (p : Insert → Bool) (xs : List Insert) → answered g xs ≡ [] → ((x : Insert) → g x ≡ None → p x ≡ false → f x ≡ None) → answered f (filter p xs) ≡ answered f xs
among_part f g p [] h none = refl
among_part f g p (x ∷ xs) h none = grind (arith, among_part f g p xs)

first_none : (g : Insert → Option Answer) (xs ys : List Insert) → answered g (xs ++ ys) ≡ [] → answered g xs ≡ []
first_none g [] ys h = refl
first_none g (x ∷ xs) ys h = grind (arith, first_none g xs ys)

-- where the bound stays, only inserts of the batch's ids are answered
pub among_ids : (vs : List Batch) (v : Batch) (p : EventId → Bool) (settled newest : List Insert) → v.bound ≤ bound_of vs → ((i : EventId) → p i ≡ is_some (first_in v.inserts i)) → IsUnanswered vs (settled ++ newest)
    → answered (replays (vs ++ v ∷ [])) (filter (λ x. p x.id) settled ++ newest) ≡ answered (replays (vs ++ v ∷ [])) (settled ++ newest)
among_ids vs v p settled newest le has none = grind (arith, none_ahead, answered-append, among_part, first_none)

-- ---- what is left

-- those without the ids of these
abbrev pub dropped : List (Insert × Answer) → List Insert → List Insert
dropped [] xs = xs
dropped (a ∷ all) xs = dropped all (filter (λ x. not (same_id a.0.id x.id)) xs)

abbrev pub is_told : List (Insert × Answer) → Insert → Bool
is_told all x = list_any (λ a. same_id a.0.id x.id) all

filter_all : (xs : List Insert) → xs ≡ filter (λ x. true) xs
filter_all [] = refl
filter_all (x ∷ xs) = ap (λ (ys : List Insert). x ∷ ys) (filter_all xs)

filter_filter : (p q : Insert → Bool) (xs : List Insert) → filter p (filter q xs) ≡ filter (λ x. q x && p x) xs
filter_filter p q [] = refl
filter_filter p q (x ∷ xs) = grind (arith, filter_filter p q xs)

dropped_is : (all : List (Insert × Answer)) (xs : List Insert) → dropped all xs ≡ filter (λ x. not (is_told all x)) xs
dropped_is [] xs = filter_all xs
dropped_is (a ∷ all) xs = grind (arith, filter_filter, dropped_is all)

-- each that has an answer is told
told_all : (f : Insert → Option Answer) (all xs : List Insert) → ((x : Insert) → is_told (answered f xs) x ≡ true → is_told (answered f all) x ≡ true) → AllByRecursion (λ x. is_some (f x) ≡ true → is_told (answered f all) x ≡ true) xs
told_all f all [] h = tt
told_all f all (x ∷ xs) h = grind (arith, told_all f all xs)

-- one whose id is told has an answer, where the id alone says whether there is one
told_only : (f : Insert → Option Answer) → ((x y : Insert) → same_id x.id y.id ≡ true → is_some (f x) ≡ true → is_some (f y) ≡ true) → (xs : List Insert) (y : Insert) → is_told (answered f xs) y ≡ true → is_some (f y) ≡ true
told_only f whole [] y h = absurd (true≢false (sym h))
told_only f whole (x ∷ xs) y h = grind (arith, told_only f whole xs y)

-- whether there is an answer doesn't hang on the token
whole_ids : (vs : List Batch) (x y : Insert) → same_id x.id y.id ≡ true → is_some (replays vs x) ≡ true → is_some (replays vs y) ≡ true
whole_ids vs x y e h = grind arith

same_left : (f : Insert → Option Answer) (told : Insert → Bool) (xs : List Insert) → AllByRecursion (λ x. is_some (f x) ≡ true → told x ≡ true) xs → ((x : Insert) → told x ≡ true → is_some (f x) ≡ true) → filter (λ x. not (told x)) xs ≡ unanswered f xs
same_left f told [] all only = refl
same_left f told (x ∷ xs) all only = grind (arith, same_left f told xs all.1 only)

-- without those that these batches answer
pub dropped_answered : (vs : List Batch) (all : List (Insert × Answer)) (xs : List Insert) → all ≡ answered (replays vs) xs → dropped all xs ≡ unanswered (replays vs) xs
dropped_answered vs all xs e =
    let f = replays vs in
    ap (λ (a : List (Insert × Answer)). dropped a xs) e ∙ dropped_is (answered f xs) xs
    ∙ same_left f (is_told (answered f xs)) xs (told_all f xs xs (λ x k. k)) (told_only f (whole_ids vs) xs)

-- ---- two parts

pub left-append : (p : Insert → Bool) (xs ys : List Insert) → filter p xs ++ filter p ys ≡ filter p (xs ++ ys)
left-append p [] ys = refl
left-append p (x ∷ xs) ys = grind (arith, left-append p xs ys)
