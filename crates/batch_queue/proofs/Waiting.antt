-- Lists of waiting inserts: tokens, one more, fewer.
use Rattle.std.proofs.Common.{◌≡◌, Bool, true, false, not, cond, filter, List, [], ◌∷◌, ◌++◌, ◌||◌, ◌&&◌, map, arith, refl, sym, ◌∙◌, subst}
use Rattle.batch_queue.proofs.Words.{AllByRecursion, IsDistinct-head, IsDistinct-tail, IsDistinct-cons, Token, Insert, same_token, same_token-true, has_token, IsOnce}

-- ---- tokens

pub same_token-flip : (a b : Token) → same_token a b ≡ same_token b a
same_token-flip a b = grind arith

pub tokens_push : (xs : List Insert) (x : Insert) (t : Token) → has_token (xs ++ x ∷ []) t ≡ cond (same_token x.token t) true (has_token xs t)
tokens_push [] x t = grind arith
tokens_push (y ∷ xs) x t = grind (arith, tokens_push xs x t)

-- without a token in all there is none in a part
part_none : (p : Insert → Bool) (xs : List Insert) (t : Token) → has_token xs t ≡ false → has_token (filter p xs) t ≡ false
part_none p [] t h = refl
part_none p (x ∷ xs) t h = grind (arith, part_none p xs t)

none_from_apart : (xs : List Insert) (t : Token) → AllByRecursion (λ u. same_token t u ≡ false) (map (λ (x : Insert). x.token) xs) → has_token xs t ≡ false
none_from_apart [] t h = refl
none_from_apart (x ∷ xs) t h = λ i. h.0 i || none_from_apart xs t h.1 i

-- no other has the token of the first
rest_none : (x : Insert) (xs : List Insert) (t : Token) → IsOnce (x ∷ xs) → same_token t x.token ≡ true → has_token xs t ≡ false
rest_none x xs t once e =
    subst (λ (u : Token). has_token xs u ≡ false) (sym (same_token-true t x.token e)) (none_from_apart xs x.token (IsDistinct-head same_token x.token (map (λ (y : Insert). y.token) xs) once))

-- the tokens of those left are those that are in none of those gone
pub tokens_left : (p : Insert → Bool) (xs : List Insert) (t : Token) → IsOnce xs → (has_token xs t && not (has_token (filter p xs) t)) ≡ has_token (filter (λ x. not (p x)) xs) t
tokens_left p [] t once = refl
tokens_left p (x ∷ xs) t once = go (p x) (same_token t x.token) refl (tokens_left p xs t (IsDistinct-tail same_token x.token (map (λ (y : Insert). y.token) xs) once))
  where
    all : Bool
    all = has_token xs t

    gone : Bool
    gone = has_token (filter p xs) t

    left : Bool
    left = has_token (filter (λ x. not (p x)) xs) t

    go : (b s : Bool) → same_token t x.token ≡ s → (all && not gone) ≡ left
        → ((same_token t x.token || all) && not (has_token (cond b (x ∷ filter p xs) (filter p xs)) t)) ≡ has_token (cond (not b) (x ∷ filter (λ x. not (p x)) xs) (filter (λ x. not (p x)) xs)) t
    go b s e r = grind (arith, part_none, rest_none)

-- ---- no token twice

part_apart : (p : Insert → Bool) (xs : List Insert) (t : Token) → AllByRecursion (λ u. same_token t u ≡ false) (map (λ (x : Insert). x.token) xs) → AllByRecursion (λ u. same_token t u ≡ false) (map (λ (x : Insert). x.token) (filter p xs))
part_apart p [] t h = h
part_apart p (x ∷ xs) t h = grind (arith, part_apart p xs t h.1)

pub once_part : (p : Insert → Bool) (xs : List Insert) → IsOnce xs → IsOnce (filter p xs)
once_part p [] once = once
once_part p (x ∷ xs) once = go (p x) (once_part p xs (IsDistinct-tail same_token x.token (map (λ (y : Insert). y.token) xs) once))
  where
    go : (b : Bool) → IsOnce (filter p xs) → IsOnce (cond b (x ∷ filter p xs) (filter p xs))
    go true r = IsDistinct-cons same_token x.token (map (λ (y : Insert). y.token) (filter p xs)) (part_apart p xs x.token (IsDistinct-head same_token x.token (map (λ (y : Insert). y.token) xs) once)) r
    go false r = r

-- the parts of a test
neither : (a b : Bool) → (a || b) ≡ false → (a ≡ false) × (b ≡ false)
neither a b h = grind arith

apart_push : (xs : List Insert) (x : Insert) (t : Token) → AllByRecursion (λ u. same_token t u ≡ false) (map (λ (y : Insert). y.token) xs) → same_token t x.token ≡ false
    → AllByRecursion (λ u. same_token t u ≡ false) (map (λ (y : Insert). y.token) (xs ++ x ∷ []))
apart_push [] x t h e = (e, tt)
apart_push (y ∷ xs) x t h e = (h.0, apart_push xs x t h.1 e)

pub once_push : (xs : List Insert) (x : Insert) → IsOnce xs → has_token xs x.token ≡ false → IsOnce (xs ++ x ∷ [])
once_push [] x once new = IsDistinct-cons same_token x.token [] tt once
once_push (y ∷ xs) x once new =
    let parts = neither (same_token x.token y.token) (has_token xs x.token) new in
    let ys = map (λ (y : Insert). y.token) xs in
    IsDistinct-cons same_token y.token (map (λ (y : Insert). y.token) (xs ++ x ∷ [])) (apart_push xs x y.token (IsDistinct-head same_token y.token ys once) (same_token-flip y.token x.token ∙ parts.0))
    (once_push xs x (IsDistinct-tail same_token y.token ys once) parts.1)

last_apart : (xs : List Insert) (x : Insert) (t : Token) → AllByRecursion (λ u. same_token t u ≡ false) (map (λ (y : Insert). y.token) (xs ++ x ∷ [])) → same_token t x.token ≡ false
last_apart [] x t h = h.0
last_apart (y ∷ xs) x t h = last_apart xs x t h.1

-- the last one's token is none of the others'
pub once_last : (xs : List Insert) (x : Insert) → IsOnce (xs ++ x ∷ []) → has_token xs x.token ≡ false
once_last [] x once = refl
once_last (y ∷ xs) x once =
    let ys = map (λ (y : Insert). y.token) (xs ++ x ∷ []) in
    let first : same_token x.token y.token ≡ false = same_token-flip x.token y.token ∙ last_apart xs x y.token (IsDistinct-head same_token y.token ys once) in
    λ i. first i || once_last xs x (IsDistinct-tail same_token y.token ys once) i
