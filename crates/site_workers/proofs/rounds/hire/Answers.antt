use Rattle.std.proofs.Common.{◌≡◌, ℕ, ◌<◌, List, [], ◌∷◌, ◌++◌, length, map, get_or, Some, None, sym, ap, ◌∙◌, subst, arith, append_assoc, length-append}
use Rattle.site_workers.proofs.Words.{All, All-append, All-cons, All-nil, Sight, WorkerView, fresh, length-map, map-append}
use Rattle.site_workers.proofs.Going.{at_front}
use Rattle.site_workers.proofs.rounds.hire.Goals as goal

-- the seat that is taken is that of the next number
next_seat : {N : Type 0} (ws : List (WorkerView N)) (seat : Sight) (rest old all : List Sight) (n m : ℕ) → map (λ (w : WorkerView N). w.seat) ws ++ old ≡ all → old ≡ seat ∷ rest → n ≡ length ws → n < m
    → ((i : ℕ) (d : Sight) → i < m → (bus : _) × (get_or all i d ≡ fresh bus (Some i))) → (bus : _) × (seat ≡ fresh bus (Some n))
next_seat {N} ws seat rest old all n m is next at below of =
    let mapped = map (λ (w : WorkerView N). w.seat) ws in
    let there = at_front mapped seat rest all n seat (ap (λ l. mapped ++ l) (sym next) ∙ is) (at ∙ sym (length-map ws (λ (w : WorkerView N). w.seat))) in
    let whose = of n seat below in
    (whose.0, sym there ∙ whose.1)

pub new-requires-clause-whose : goal.new-requires-clause-whose
new-requires-clause-whose g c =
    let i = c.loop-node.invariant in
    let ws = c.loop-node.workers.items in
    let below : c.loop-node.number < length c.args.nodes.items =
    omega (arith, i.3, ap length i.0, length-map ws (λ (w : WorkerView g.row.N.Denot). w.node), ap length i.5, length-append c.loop-node.yielded c.loop-node.node-iterator.rest.items, ap length c.in-Some.ensures.steps.0)
    in
    let s = next_seat ws c.in-Some-next.seat c.next-in-loop-node.new.self.rest.items c.loop-node.seats.rest.items c.args.seats.items c.loop-node.number (length c.args.nodes.items) i.1 c.in-Some-next.ensures.items i.3 below c.requires.seats in
    ap (λ (x : Sight). x.number) s.1

pub new-requires-clause-fresh : goal.new-requires-clause-fresh
new-requires-clause-fresh g c =
    let i = c.loop-node.invariant in
    let ws = c.loop-node.workers.items in
    let below : c.loop-node.number < length c.args.nodes.items =
    omega (arith, i.3, ap length i.0, length-map ws (λ (w : WorkerView g.row.N.Denot). w.node), ap length i.5, length-append c.loop-node.yielded c.loop-node.node-iterator.rest.items, ap length c.in-Some.ensures.steps.0)
    in
    let s = next_seat ws c.in-Some-next.seat c.next-in-loop-node.new.self.rest.items c.loop-node.seats.rest.items c.args.seats.items c.loop-node.number (length c.args.nodes.items) i.1 c.in-Some-next.ensures.items i.3 below c.requires.seats in
    ap (λ (x : Sight). x.mine) s.1

pub loop-node-preserved : goal.loop-node-preserved
loop-node-preserved g c =
    let i = c.loop-node.invariant in
    let ws = c.loop-node.workers.items in
    let w = c.new.result in
    let pushed = c.push_reserved.ensures.items in
    let left = c.next-in-loop-node.new.self.rest.items in
    let rest = c.next.new.self.rest.items in
    let P = λ (x : WorkerView g.row.N.Denot). x.fault ≡ None in (
      ap (map (λ (x : WorkerView g.row.N.Denot). x.node)) pushed ∙ map-append (λ (x : WorkerView g.row.N.Denot). x.node) ws (w ∷ []) ∙ ap (λ l. l ++ w.node ∷ []) i.0 ∙ ap (λ k. c.loop-node.yielded ++ k ∷ []) c.new.ensures.node,
      ap (λ (l : List (WorkerView g.row.N.Denot)). map (λ (x : WorkerView g.row.N.Denot). x.seat) l ++ left) pushed
          ∙ ap (λ l. l ++ left) (map-append (λ (x : WorkerView g.row.N.Denot). x.seat) ws (w ∷ []))
          ∙ append_assoc (map (λ (x : WorkerView g.row.N.Denot). x.seat) ws) (w.seat ∷ []) left
          ∙ ap (λ k. map (λ (x : WorkerView g.row.N.Denot). x.seat) ws ++ k ∷ left) c.new.ensures.seat
          ∙ ap (λ l. map (λ (x : WorkerView g.row.N.Denot). x.seat) ws ++ l) (sym c.in-Some-next.ensures.items)
          ∙ i.1,
      subst (All P) (sym pushed) (All-append P ws (w ∷ []) i.2 (All-cons P w [] c.new.ensures.fault (All-nil P))),
      omega (arith, i.3, ap length pushed, length-append ws (w ∷ [])),
      omega (arith, i.4, ap length pushed, length-append ws (w ∷ []), ap length c.in-Some.ensures.steps.0, c.push_reserved.ensures.capacity),
      append_assoc c.loop-node.yielded (c.in-Some.node ∷ []) rest ∙ ap (λ l. c.loop-node.yielded ++ l) (sym c.in-Some.ensures.steps.0) ∙ i.5,
    )
