-- How many entries one line more makes.
use Rattle.std.proofs.Common.{◌≡◌, ℕ, ◌+◌, ◌/◌, ◌%◌, Bool, true, false, ◌==◌, cond, List, [], ◌∷◌, length, sum_by, count_by, refl, sym, ap, ◌∙◌, arith}
use Rattle.event_store.proofs.Words.{list_any, both_ways, sum_by-cons, EventId, is_same, Process, same_process, is_in_order, in_order, strays, run_length, distinct, entries_among, same_key, key_of, progress, begins}
use Rattle.event_store.proofs.Orders.{keys_one, key_itself}
use Rattle.event_store.proofs.Changes.{key_flips}

-- a sum over processes, where what one of them counts rises by d
one_raised : (f g : EventId → ℕ) (id : EventId) (d : ℕ) → ((a : EventId) → same_process id a ≡ true → g a ≡ f a + d) → ((a : EventId) → same_process id a ≡ false → g a ≡ f a) → (ids : List EventId) → sum_by g (distinct same_process ids) ≡ sum_by f (distinct same_process ids) + cond (list_any (same_process id) ids) d 0
one_raised f g id d up stay [] = refl
one_raised f g id d up stay (x ∷ ids) = grind (arith, sum_by-cons, one_raised f g id d up stay ids)

-- an id that isn't in order has one of its process before it
has_one : (ids : List EventId) (id : EventId) → is_in_order ids id ≡ false → list_any (same_process id) ids ≡ true
has_one [] id e = absurd (both_ways true e refl)
has_one (x ∷ ids) id e = grind (arith, has_one ids id)

-- a process with no id has no in-order line
none_in_order : (ids : List EventId) (id : EventId) → list_any (same_process id) ids ≡ false → run_length ids id ≡ 0
none_in_order [] id e = refl
none_in_order (x ∷ ids) id e = grind (arith, none_in_order ids id)

-- how far a process has come is the number of its in-order lines
pub lines_are : (ids : List EventId) (id : EventId) → (progress ids (key_of id)).lines ≡ run_length ids id
lines_are [] id = refl
lines_are (x ∷ ids) id = here (lines_are ids id) (is_in_order ids x) (same_process id x) refl refl
  where
    here : (progress ids (key_of id)).lines ≡ run_length ids id → (t s : Bool) → is_in_order ids x ≡ t → same_process id x ≡ s → (progress (x ∷ ids) (key_of id)).lines ≡ run_length (x ∷ ids) id
    here on true true t s = rw (t, s) (let z : cond {A = ℕ} (same_process id x) 1 0 ≡ 1 = rw s in omega (arith, sum_by-cons (λ (y : EventId). cond (same_process id y) 1 0) x (in_order ids), z, on))
    here on true false t s = rw (t, s) (let z : cond {A = ℕ} (same_process id x) 1 0 ≡ 0 = rw s in omega (arith, sum_by-cons (λ (y : EventId). cond (same_process id y) 1 0) x (in_order ids), z, on))
    here on false true t s = rw (t, s) on
    here on false false t s = rw (t, s) on

-- a stray line makes an entry where none with its id stands before it
pub stray_more : (ids : List EventId) (id : EventId) → is_in_order ids id ≡ false → entries_among (id ∷ ids) ≡ entries_among ids + cond (list_any (is_same id) (strays ids)) 0 1
stray_more ids id order = grind (arith, has_one)

rise : (n : ℕ) → (n + 1 + 15) / 16 ≡ (n + 15) / 16 + cond (n % 16 == 0) 1 0
rise n = grind arith

-- an in-order line makes one where it is the first of sixteen of its process
pub ordered_more : (ids : List EventId) (id : EventId) → is_in_order ids id ≡ true → entries_among (id ∷ ids) ≡ entries_among ids + cond (begins ids id) 1 0
ordered_more ids id order = rw (order, lines_are ids id) (here (list_any (same_process id) ids) refl)
  where
    up : (a : EventId) → same_process id a ≡ true → (count_by (same_process a) (id ∷ in_order ids) + 15) / 16 ≡ (run_length ids a + 15) / 16 + cond (run_length ids id % 16 == 0) 1 0
    up a s =
        let one : count_by (same_process a) (id ∷ in_order ids) ≡ cond (same_process a id) 1 0 + run_length ids a = sum_by-cons (λ (y : EventId). cond (same_process a y) 1 0) id (in_order ids) in
        let flipped : same_process a id ≡ true = key_flips (key_of a) (key_of id) ∙ s in
        let both : run_length ids id ≡ run_length ids a = ap (λ (p : Process). count_by (λ (y : EventId). same_key p (key_of y)) (in_order ids)) (keys_one (key_of id) (key_of a) s) in
        let m : count_by (same_process a) (id ∷ in_order ids) ≡ run_length ids a + 1 = omega (arith, one, ap {B = ℕ} (λ (b : Bool). cond b 1 0) flipped) in
        ap (λ (k : ℕ). (k + 15) / 16) m ∙ rise (run_length ids a) ∙ ap (λ (k : ℕ). (run_length ids a + 15) / 16 + cond (k % 16 == 0) 1 0) (sym both)

    stay : (a : EventId) → same_process id a ≡ false → (count_by (same_process a) (id ∷ in_order ids) + 15) / 16 ≡ (run_length ids a + 15) / 16
    stay a s = grind arith

    sums : sum_by (λ (a : EventId). (count_by (same_process a) (id ∷ in_order ids) + 15) / 16) (distinct same_process ids) ≡ sum_by (λ (a : EventId). (run_length ids a + 15) / 16) (distinct same_process ids) + cond (list_any (same_process id) ids) (cond (run_length ids id % 16 == 0) 1 0) 0
    sums = one_raised (λ (a : EventId). (run_length ids a + 15) / 16) (λ (a : EventId). (count_by (same_process a) (id ∷ in_order ids) + 15) / 16) id (cond (run_length ids id % 16 == 0) 1 0) up stay ids

    new : list_any (same_process id) ids ≡ false → (count_by (same_process id) (id ∷ in_order ids) + 15) / 16 ≡ 1
    new t =
        let one : count_by (same_process id) (id ∷ in_order ids) ≡ cond (same_process id id) 1 0 + run_length ids id = sum_by-cons (λ (y : EventId). cond (same_process id y) 1 0) id (in_order ids) in
        let n : count_by (same_process id) (id ∷ in_order ids) ≡ 1 = omega (arith, one, ap {B = ℕ} (λ (b : Bool). cond b 1 0) (key_itself (key_of id)), none_in_order ids id t) in
        ap (λ (k : ℕ). (k + 15) / 16) n

    here : (t : Bool) → list_any (same_process id) ids ≡ t → sum_by (λ (a : EventId). (count_by (same_process a) (id ∷ in_order ids) + 15) / 16) (distinct same_process (id ∷ ids)) + length (distinct is_same (strays ids)) ≡ entries_among ids + cond (run_length ids id % 16 == 0) 1 0
    here true t = rw t (let e = sums ∙ ap (λ (b : Bool). sum_by (λ (a : EventId). (run_length ids a + 15) / 16) (distinct same_process ids) + cond b (cond (run_length ids id % 16 == 0) 1 0) 0) t in omega (arith, e))
    here false t = rw t (let e = sums ∙ ap (λ (b : Bool). sum_by (λ (a : EventId). (run_length ids a + 15) / 16) (distinct same_process ids) + cond b (cond (run_length ids id % 16 == 0) 1 0) 0) t in let z : cond {A = ℕ} (run_length ids id % 16 == 0) 1 0 ≡ 1 = ap {B = ℕ} (λ (n : ℕ). cond (n % 16 == 0) 1 0) (none_in_order ids id t) in omega (arith, e, z, new t, sum_by-cons (λ (a : EventId). (count_by (same_process a) (id ∷ in_order ids) + 15) / 16) id (distinct same_process ids)))
