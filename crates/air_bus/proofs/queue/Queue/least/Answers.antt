use Rattle.std.proofs.Common.{◌≡◌, ⊎_elim, ℕ, ◌<◌, List, length, sym, refl, arith}
use Rattle.std.specs.Prelude.{Option, IfSome}
use Rattle.air_bus.proofs.Words.{Bor, true≢false, cases_lt, heap_items, heap_len, IsHeap, IsUpperBound, Parcel}
use Rattle.air_bus.proofs.Parcels.{by_due, next_stands, ready_least, first_among, first_each, late_next}
use Rattle.air_bus.proofs.queue.Queue.least.Goals as goal

none_of : (n m : ℕ) → n ≡ m → (0 < n → ⊥) → m ≡ 0
none_of n m is h = ⊎_elim (λ l. absurd (h l)) (λ l. omega (arith, is, l)) (cases_lt 0 n)

bound_of : (o : Option (Bor Parcel)) (xs : List Parcel) → IsHeap by_due xs → IfSome o (λ x. IsHeap by_due xs → IsUpperBound by_due x.now xs) → IfSome o (λ x. IsUpperBound by_due x.now xs)
bound_of h xs heap bound = grind arith

pub returns-in-Some : goal.returns-in-Some
returns-in-Some c = λ copies h.
    let q = c.args.self.now in
    let x = c.in-Some.parcel.now in
    let inside : 0 < length (heap_items q.ready) = omega (arith, c.in-Some.ensures.variant.0 refl, q.ready.data.ok.0) in
    let due : x.due ≡ 0 = first_each (λ (p : Parcel). p.due ≡ 0) (heap_items q.ready) x c.in-Some.ensures.lookup inside q.ready_due in
    sym (next_stands q.taken q.next (heap_items q.ready) (heap_items q.late) copies x
    (ready_least q.taken (heap_items q.ready) (heap_items q.late) x q.ready_due c.requires due (c.in-Some.ensures.greatest q.ready_ordered) (first_among (heap_items q.ready) x c.in-Some.ensures.lookup inside)) h)

pub returns-in-None : goal.returns-in-None
returns-in-None c = λ copies h.
    let q = c.args.self.now in
    let none : length (heap_items q.ready) ≡ 0 = none_of (heap_len q.ready) (length (heap_items q.ready)) (omega (arith, q.ready.data.ok.0)) (λ l. true≢false (sym (c.in-None.ensures.variant.1 l))) in
    let some = c.peek-in-None.ensures.variant in
    late_next q.taken q.next (heap_items q.ready) (heap_items q.late) copies c.peek-in-None.result none c.requires
    (λ s. omega (arith, some.0 s, q.late.data.ok.0), λ l. some.1 (omega (arith, l, q.late.data.ok.0))) c.peek-in-None.ensures.lookup (bound_of c.peek-in-None.result (heap_items q.late) q.late_ordered c.peek-in-None.ensures.greatest) h
