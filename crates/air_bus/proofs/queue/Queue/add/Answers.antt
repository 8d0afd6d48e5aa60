use Rattle.std.proofs.Common.{◌≡◌, ◌+◌, ◌-◌, [], ◌∷◌, ◌++◌, refl, subst, arith}
use Rattle.air_bus.proofs.Words.{heap_items, All-cons, All-permutation, sum_by_pushed, Parcel, copy, Stands}
use Rattle.air_bus.proofs.Parcels.{put_stands}
use Rattle.air_bus.proofs.queue.Queue.add.Goals as goal

pub invariant_of-self : goal.invariant_of-self
invariant_of-self c = record {
  ready_ordered = c.put.ensures.order c.args.self.now.ready_ordered;
  late_ordered = c.args.self.now.late_ordered;
  ready_due = All-permutation (λ (p : Parcel). p.due ≡ 0) _ _ c.put.ensures.items (All-cons (λ (p : Parcel). p.due ≡ 0) _ _ refl c.args.self.now.ready_due);
  room = omega (arith, c.put.ensures.len, c.put.ensures.capacity, c.requires.ready);
  counted = omega (arith, c.put.ensures.len, c.args.self.now.counted);
}

pub returns-then-delay-eq0-clause-holds : goal.returns-then-delay-eq0-clause-holds
returns-then-delay-eq0-clause-holds c = λ copies h.
    let q = c.args.self.now in
    let p : Parcel = record { due = 0; place = q.next; from = c.args.from; bytes = c.args.bytes } in
    let none : 0 - q.taken ≡ c.args.delay = omega (arith, c.if-delay-eq0.true) in
    subst (λ d. Stands q.taken (q.next + 1) (heap_items c.put.new.heap) (heap_items q.late) (copies ++ copy d c.args.from c.args.bytes ∷ [])) none
    (put_stands q.taken q.next (heap_items q.ready) (heap_items q.late) (heap_items c.put.new.heap) (heap_items q.late) p copies refl
    (λ f. omega (arith, sum_by_pushed f p (heap_items q.ready) (heap_items c.put.new.heap) c.put.ensures.items)) h)

pub returns-else-delay-eq0-clause-holds : goal.returns-else-delay-eq0-clause-holds
returns-else-delay-eq0-clause-holds c = λ copies h.
    let q = c.args.self.now in
    let due = q.taken + c.from.result in
    let p : Parcel = record { due = due; place = q.next; from = c.args.from; bytes = c.args.bytes } in
    let after : due - q.taken ≡ c.args.delay = omega (arith, c.from.ensures) in
    subst (λ d. Stands q.taken (q.next + 1) (heap_items q.ready) (heap_items c.put-else-delay-eq0.new.heap) (copies ++ copy d c.args.from c.args.bytes ∷ [])) after
    (put_stands q.taken q.next (heap_items q.ready) (heap_items q.late) (heap_items q.ready) (heap_items c.put-else-delay-eq0.new.heap) p copies refl
    (λ f. omega (arith, sum_by_pushed f p (heap_items q.late) (heap_items c.put-else-delay-eq0.new.heap) c.put-else-delay-eq0.ensures.items)) h)
