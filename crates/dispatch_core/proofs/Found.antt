-- What a search in the window finds, and what the leading done lines are.
use Rattle.std.proofs.Common.{◌≡◌, ◌≢◌, ℕ, suc, zero, ◌+◌, ◌<◌, ◌≤◌, Bool, true, false, not, ◌&&◌, ◌||◌, List, [], ◌∷◌, map, length, get_or, set, drop, Result, Ok, Err, refl, sym, ap, ◌∙◌, arith}
use Rattle.dispatch_core.proofs.Words.{IsPartitionPoint, IsBinarySearchResult, nat_cmp, ordering_index, Ordering, Less, Equal, Greater, ranked, ne_eqb, cond-true, FreshLine, first_done, after_done, waits, mark, fresh_of, IsRisingFrom, Lacks, IsFound}

-- ---- order

least : (a : ℕ) (xs : List FreshLine) (j : ℕ) (d : FreshLine) → IsRisingFrom a (map fresh_of xs) → j < length xs → a ≤ (get_or xs j d).position
least a [] j d h lt = absurd (omega (arith, lt))
least a (x ∷ xs) zero d h lt = h.0
least a (x ∷ xs) (suc j) d h lt = omega (arith, h.0, least (x.position + 1) xs j d h.1 (omega (arith, lt)))

rises : (a : ℕ) (xs : List FreshLine) (i j : ℕ) (d : FreshLine) → IsRisingFrom a (map fresh_of xs) → i ≤ j → j < length xs → (get_or xs i d).position ≤ (get_or xs j d).position
rises a [] i j d h le lt = absurd (omega (arith, lt))
rises a (x ∷ xs) zero zero d h le lt = omega arith
rises a (x ∷ xs) zero (suc j) d h le lt = omega (arith, least (x.position + 1) xs j d h.1 (omega (arith, lt)))
rises a (x ∷ xs) (suc i) zero d h le lt = absurd (omega (arith, le))
rises a (x ∷ xs) (suc i) (suc j) d h le lt = rises (x.position + 1) xs i j d h.1 (omega (arith, le)) (omega (arith, lt))

index_rises : (a b p : ℕ) → a ≤ b → (r s : Ordering) → r ≡ nat_cmp a p → s ≡ nat_cmp b p → ordering_index r ≤ ordering_index s
index_rises a b p le h s e f = grind arith

-- ---- a search

lacks_all : (xs : List FreshLine) (p : ℕ) → ((k : ℕ) (d : FreshLine) → k < length xs → (get_or xs k d).position ≢ p) → Lacks xs p
lacks_all [] p h = tt
lacks_all (x ∷ xs) p h = (ne_eqb x.position p (h zero x (omega arith)), lacks_all xs p (λ k d lt. h (suc k) d (omega (arith, lt))))

apart_from : (xs : List FreshLine) (p i : ℕ) → IsPartitionPoint (λ (y : FreshLine). nat_cmp y.position p ≡ Less) (λ (y : FreshLine). nat_cmp y.position p ≡ Greater) xs i
    → (k : ℕ) (d : FreshLine) → k < length xs → (get_or xs k d).position ≢ p
apart_from xs p i parts k d lt e = grind arith

pub found : (xs : List FreshLine) (p : ℕ) (r : Result ℕ ℕ) → ((i : ℕ) → r ≡ Ok i → i < length xs) → IsBinarySearchResult (λ (y : FreshLine). nat_cmp y.position p) xs r → IsFound xs p r
found xs p (Ok i) range h = (range i refl, λ d. ranked (get_or xs i d).position p Equal (sym (h d)))
found xs p (Err i) range h = λ rising.
    lacks_all xs p (apart_from xs p i (h (λ m n d le lt. index_rises (get_or xs m d).position (get_or xs n d).position p (rises 0 xs m n d rising le lt) (nat_cmp (get_or xs m d).position p) (nat_cmp (get_or xs n d).position p) refl refl)))

-- ---- what is found

pub lacks_waits : (xs : List FreshLine) (p : ℕ) → Lacks xs p → waits (map fresh_of xs) p ≡ false
lacks_waits [] p h = refl
lacks_waits (x ∷ xs) p h = ap (λ (b : Bool). (b && not x.done) || waits (map fresh_of xs) p) h.0 ∙ lacks_waits xs p h.1

pub lacks_mark : (xs : List FreshLine) (p : ℕ) → Lacks xs p → mark (map fresh_of xs) p ≡ map fresh_of xs
lacks_mark [] p h = refl
lacks_mark (x ∷ xs) p h = grind (arith, lacks_mark xs p h.1)

lacks_above : (a p : ℕ) (xs : List FreshLine) → p < a → IsRisingFrom a (map fresh_of xs) → Lacks xs p
lacks_above a p [] lt h = tt
lacks_above a p (x ∷ xs) lt h = (ne_eqb x.position p (λ e. absurd (omega (arith, e, h.0))), lacks_above (x.position + 1) p xs (omega (arith, h.0)) h.1)

or_false : (b : Bool) → (b || false) ≡ b
or_false h = grind arith

pub waits_at : (a p : ℕ) (xs : List FreshLine) (i : ℕ) (d : FreshLine) → IsRisingFrom a (map fresh_of xs) → i < length xs → (get_or xs i d).position ≡ p → waits (map fresh_of xs) p ≡ not (get_or xs i d).done
waits_at a p [] i d h lt e = absurd (omega (arith, lt))
waits_at a p (x ∷ xs) zero d h lt e = grind (arith, lacks_waits, lacks_above)
waits_at a p (x ∷ xs) (suc i) d h lt e = grind (arith, least, waits_at (x.position + 1) p xs i d h.1 (omega (arith, lt)) e)

pub mark_at : (a p : ℕ) (xs : List FreshLine) (i : ℕ) (d y : FreshLine) → IsRisingFrom a (map fresh_of xs) → i < length xs → (get_or xs i d).position ≡ p → fresh_of y ≡ record (fresh_of (get_or xs i d)) { done = true }
    → map fresh_of (set xs i y) ≡ mark (map fresh_of xs) p
mark_at a p [] i d y h lt e f = absurd (omega (arith, lt))
mark_at a p (x ∷ xs) zero d y h lt e f = grind (arith, lacks_mark, lacks_above)
mark_at a p (x ∷ xs) (suc i) d y h lt e f = grind (arith, least, mark_at (x.position + 1) p xs i d y h.1 (omega (arith, lt)) e f)

-- ---- the leading done lines

pub passes : (xs : List FreshLine) → first_done (map fresh_of xs) ≡ true → after_done (map fresh_of (drop 1 xs)) ≡ after_done (map fresh_of xs)
passes [] h = refl
passes (x ∷ xs) h = sym (cond-true x.done (after_done (map fresh_of xs)) (fresh_of x ∷ map fresh_of xs) h)
