use Rattle.std.proofs.Common.{◌≡◌, List, [], ◌∷◌, ◌++◌, length, Option, sym, ap, ◌∙◌, subst, arith, append_assoc, length-append}
use Rattle.site_workers.proofs.Words.{All, All-push, HasMet, NodeFault, Sight, WorkerView, append-nil, map-append}
use Rattle.site_workers.proofs.rounds.dismiss.Goals as goal

pub loop-worker-preserved : goal.loop-worker-preserved
loop-worker-preserved g c =
    let i = c.loop-worker.invariant in
    let w = c.in-Some.worker in
    let before = c.loop-worker.yielded in
    let one = c.dismiss_one.ensures in
    let left = c.in-Some.ensures.steps.0 in (
      one.seats ∙ ap (λ (l : List Sight). l ++ w.seat ∷ []) i.0 ∙ sym (map-append (λ (x : WorkerView g.row.N.Denot). x.seat) before (w ∷ [])),
      one.nodes ∙ ap (λ (l : List (g.row.N.Denot × Option NodeFault)). l ++ (w.node, w.fault) ∷ []) i.1 ∙ sym (map-append (λ (x : WorkerView g.row.N.Denot). (x.node, x.fault)) before (w ∷ [])),
      omega (arith, i.2, one.lens.0, one.room.0, ap length left),
      omega (arith, i.3, one.lens.1, one.room.1, ap length left),
      omega (arith, i.4, one.lens.0, length-append before (w ∷ [])),
      append_assoc before (w ∷ []) c.next.new.self.rest.items ∙ ap (λ l. before ++ l) (sym left) ∙ i.5,
      one.caused i.6,
      All-push (λ (x : WorkerView g.row.N.Denot). HasMet g.N.SiteNode.faults g.N.SiteNode.waits x.node x.fault x.seat.mine) before w i.7 one.met,
    )

-- of all, once none is left
of_all : {X : Type 0} (P : X → Type 0) (done left all : List X) → done ++ left ≡ all → length left ≡ 0 → All P done → All P all
of_all P done [] all is none known = subst (All P) (sym (append-nil done) ∙ is) known
of_all P done (x ∷ xs) all is none known = absurd (omega (arith, none))

pub returns-clause-met : goal.returns-clause-met
returns-clause-met g c =
    let i = c.loop-worker.invariant in
    let left = c.loop-worker.worker-iterator.rest in
    of_all (λ (x : WorkerView g.row.N.Denot). HasMet g.N.SiteNode.faults g.N.SiteNode.waits x.node x.fault x.seat.mine) c.loop-worker.yielded left.items c.args.workers.items i.5 (omega (arith, c.in-None.ensures.steps.0, left.ok)) i.7
