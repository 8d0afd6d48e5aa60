use Rattle.std.proofs.Common.{◌≡◌, arith}
use Rattle.air_bus.proofs.Words.{heap_items, All-head, All-tail, All-permutation, sum_by_popped, Parcel}
use Rattle.air_bus.proofs.Parcels.{taken_stands, ready_least}
use Rattle.air_bus.proofs.queue.Queue.take_least.Goals as goal

pub invariant_of-self : goal.invariant_of-self
invariant_of-self c = record {
  ready_ordered = (c.in-Some.ensures.heap_order c.args.self.now.ready_ordered).0;
  late_ordered = c.args.self.now.late_ordered;
  ready_due = All-tail (λ (p : Parcel). p.due ≡ 0) _ _ (All-permutation (λ (p : Parcel). p.due ≡ 0) _ _ c.in-Some.ensures.permutation c.args.self.now.ready_due);
  room = omega (arith, c.in-Some.ensures.len, c.pop.ensures.capacity, c.args.self.now.room);
  counted = omega (arith, c.in-Some.ensures.len, c.args.self.now.counted);
}

pub returns-in-Some : goal.returns-in-Some
returns-in-Some c = λ copies h.
    let q = c.args.self.now in
    let x : Parcel = c.in-Some._parcel in
    let due : x.due ≡ 0 = All-head (λ (p : Parcel). p.due ≡ 0) x (heap_items c.pop.new.self) (All-permutation (λ (p : Parcel). p.due ≡ 0) _ _ c.in-Some.ensures.permutation q.ready_due) in
    taken_stands q.taken q.next (heap_items q.ready) (heap_items q.late) (heap_items c.pop.new.self) (heap_items q.late) copies x
    (ready_least q.taken (heap_items q.ready) (heap_items q.late) x q.ready_due c.requires due (c.in-Some.ensures.heap_order q.ready_ordered).1
    (λ f. omega (arith, sum_by_popped f x (heap_items q.ready) (heap_items c.pop.new.self) c.in-Some.ensures.permutation)))
    (λ f. omega (arith, sum_by_popped f x (heap_items q.ready) (heap_items c.pop.new.self) c.in-Some.ensures.permutation)) h
