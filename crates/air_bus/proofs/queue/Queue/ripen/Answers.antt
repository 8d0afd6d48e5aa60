use Rattle.std.proofs.Common.{◌≡◌, ◌≤◌, refl, sym, subst, arith}
use Rattle.air_bus.proofs.Words.{heap_items, All-cons, All-permutation, sum_by_pushed, sum_by_popped, Parcel}
use Rattle.air_bus.proofs.Parcels.{ripe_stands, ripe_copy}
use Rattle.air_bus.proofs.queue.Queue.ripen.Goals as goal

pub invariant_of-self-2 : goal.invariant_of-self-2
invariant_of-self-2 c = record {
  ready_ordered = c.put.ensures.order c.args.self.now.ready_ordered;
  late_ordered = (c.in-Some.ensures.heap_order c.args.self.now.late_ordered).0;
  ready_due = All-permutation (λ (p : Parcel). p.due ≡ 0) _ _ c.put.ensures.items (All-cons (λ (p : Parcel). p.due ≡ 0) _ _ refl c.args.self.now.ready_due);
  room = omega (arith, c.put.ensures.len, c.put.ensures.capacity, c.in-Some.ensures.len, c.args.self.now.room);
  counted = omega (arith, c.put.ensures.len, c.in-Some.ensures.len, c.args.self.now.counted);
}

pub returns-clause-same : goal.returns-clause-same
returns-clause-same c = λ copies h.
    let q = c.args.self.now in
    let x : Parcel = c.in-Some.parcel in
    let y : Parcel = record x { due = 0 } in
    let due : x.due ≤ q.taken = subst (λ (p : Parcel). p.due ≤ q.taken) (sym c.in-Some.ensures.top) (c.has_due.ensures.due c.if-not-has_due.false x) in
    ripe_stands q.taken q.next (heap_items q.ready) (heap_items q.late) (heap_items c.put.new.heap) (heap_items c.pop.new.self) x y copies refl (ripe_copy q.taken x due)
    (λ f. omega (arith, sum_by_popped f x (heap_items q.late) (heap_items c.pop.new.self) c.in-Some.ensures.permutation))
    (λ f. sum_by_pushed f y (heap_items q.ready) (heap_items c.put.new.heap) c.put.ensures.items) h
