use Rattle.std.proofs.Common.{◌≡◌, ◌<◌, length, arith}
use Rattle.air_bus.proofs.Words.{heap_items, All-head, All-permutation, sum_by_popped, Parcel}
use Rattle.air_bus.proofs.Parcels.{taken_stands, late_least, none_taken}
use Rattle.air_bus.proofs.queue.Queue.take_late.Goals as goal

pub returns : goal.returns
returns c = λ copies h.
    let q = c.args.self.now in
    let x : Parcel = c.in-Some._parcel in
    let none : length (heap_items q.ready) ≡ 0 = omega (arith, c.requires.none, q.ready.data.ok.0) in
    let due : q.taken < x.due = All-head (λ (p : Parcel). q.taken < p.due) x (heap_items c.pop.new.self) (All-permutation (λ (p : Parcel). q.taken < p.due) _ _ c.in-Some.ensures.permutation c.requires.settled) in
    taken_stands q.taken q.next (heap_items q.ready) (heap_items q.late) (heap_items q.ready) (heap_items c.pop.new.self) copies x
    (late_least q.taken (heap_items q.ready) (heap_items q.late) x none c.requires.settled due (c.in-Some.ensures.heap_order q.late_ordered).1
    (λ f. omega (arith, sum_by_popped f x (heap_items q.late) (heap_items c.pop.new.self) c.in-Some.ensures.permutation)))
    (λ f. omega (arith, sum_by_popped f x (heap_items q.late) (heap_items c.pop.new.self) c.in-Some.ensures.permutation)) h

pub returns-in-None : goal.returns-in-None
returns-in-None c = grind (arith, none_taken, c.args.self.now.ready, c.requires.none, c.args.self.now.ready.data.ok.0, c.args.self.now.late, c.in-None.ensures.none, c.args.self.now.late.data.ok.0, c.args.self.now.taken, c.args.self.now.next)
