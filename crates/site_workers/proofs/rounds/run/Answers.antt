use Rattle.std.proofs.Common.{◌≡◌, ℕ, ◌<◌, ◌++◌, ◌∷◌, [], List, length, map, take, drop, get_or, sym, ap, ◌∙◌, subst, arith}
use Rattle.site_workers.proofs.Words.{All, AllWentOn, AreSeatsOf, Flight, HasMet, IsAired, IsIn, Sight, WorkerView}
use Rattle.air_bus.specs.Waiting.{is_dead}
use Rattle.bus_seat.specs.Views.{count, flown}
use Rattle.site_workers.specs.Heard.{IsHeard}
use Rattle.site_workers.proofs.Going.{Ran, front_of, front_count, front_at, hired_buses, all_seats, all_taken, seats_numbered, ran}
use Rattle.site_workers.proofs.rounds.run.Given.{Over}
use Rattle.site_workers.proofs.rounds.run.Goals as goal
use Rattle.site_workers.proofs.rounds.run.Goals.{After-rounds-rest, After-push_reserved, After-close-air}

pub hire-workers-requires-clause-count : goal.hire-workers-requires-clause-count
hire-workers-requires-clause-count g c =
    let bus = c.in-Ok.made.0 in
    let front = front_of bus c.in-Ok.made.1.items c.pop.new.self.items c.in-Some.last c.in-Ok.ensures.seats c.in-Some.ensures.items in
    front_count bus c.pop.new.self.items front.0 ∙ ap count c.in-Ok.ensures.air ∙ sym c.requires.count

pub hire-workers-requires-clause-seats : goal.hire-workers-requires-clause-seats
hire-workers-requires-clause-seats g c i d l =
    let bus = c.in-Ok.made.0 in
    let front = front_of bus c.in-Ok.made.1.items c.pop.new.self.items c.in-Some.last c.in-Ok.ensures.seats c.in-Some.ensures.items in
    (bus, front_at bus c.pop.new.self.items i d front.0 (omega (arith, l, ap count c.in-Ok.ensures.air, c.requires.count)))

pub rounds-rest-requires-clause-buses : goal.rounds-rest-requires-clause-buses
rounds-rest-requires-clause-buses g c κs within =
    let bus = c.in-Ok.made.0 in
    let front = front_of bus c.in-Ok.made.1.items c.pop.new.self.items c.in-Some.last c.in-Ok.ensures.seats c.in-Some.ensures.items in
    subst (λ (ws : List (WorkerView g.row.N.Denot)). (i : ℕ) (d : WorkerView g.row.N.Denot) → i < length ws → (get_or ws i d).seat.bus ≡ bus) (sym c.as_mut_slice.ensures.value)
    (hired_buses g.N.SiteNode bus c.args.nodes.items c.pop.new.self.items c.hire-workers.result.items c.hire-workers.ensures.nodes c.hire-workers.ensures.seats front.0)

went : (g : Over) (c : After-rounds-rest g) → AllWentOn g.N.SiteNode c.hire-workers.result.items c.rounds-rest.new.workers
went g c = subst (λ (ws : List (WorkerView g.row.N.Denot)). AllWentOn g.N.SiteNode ws c.rounds-rest.new.workers) c.as_mut_slice.ensures.value c.rounds-rest.ensures.went

-- the workers' list holds just them again
whole : (g : Over) (c : After-rounds-rest g) → take c.hire-workers.result.len (c.rounds-rest.new.workers ++ drop (length c.rounds-rest.new.workers) c.hire-workers.result.items) ≡ c.rounds-rest.new.workers
whole g c = all_taken c.hire-workers.result.len c.rounds-rest.new.workers c.hire-workers.result.items (omega (arith, (went g c).count, c.hire-workers.result.ok.0))

seats_are : (g : Over) (c : After-push_reserved g) → c.push_reserved.new.self.items ≡ map (λ (w : WorkerView g.row.N.Denot). w.seat) c.rounds-rest.new.workers ++ c.rounds-rest.new.last ∷ []
seats_are g c =
    let is = whole g (goal.at.close-air-requires-clause-seats g c).After-rounds-rest in
    c.push_reserved.ensures.items ∙ ap (λ (l : List Sight). l ++ c.rounds-rest.new.last ∷ []) (c.dismiss.ensures.seats.0 ∙ ap (map (λ (w : WorkerView g.row.N.Denot). w.seat)) is)

seats_of : (g : Over) (c : After-push_reserved g) → AreSeatsOf c.in-Ok.made.0 c.push_reserved.new.self.items
seats_of g c =
    let bus = c.in-Ok.made.0 in
    let front = front_of bus c.in-Ok.made.1.items c.pop.new.self.items c.in-Some.last c.in-Ok.ensures.seats c.in-Some.ensures.items in
    let kept = c.rounds-rest.ensures.last in
    all_seats g.N.SiteNode bus c.args.nodes.items c.pop.new.self.items c.hire-workers.result.items c.hire-workers.ensures.nodes c.hire-workers.ensures.seats front.0 c.rounds-rest.new.workers
    (went g (goal.at.close-air-requires-clause-seats g c).After-rounds-rest) c.rounds-rest.new.last c.push_reserved.new.self.items (seats_are g c) (kept.0 ∙ ap (λ (s : Sight). s.bus) front.1) (kept.1 ∙ ap (λ (s : Sight). s.number) front.1)

pub close-air-requires-clause-seats : goal.close-air-requires-clause-seats
close-air-requires-clause-seats g c = seats_of g c

pub returns-clause-heard : goal.returns-clause-heard
returns-clause-heard g c =
    let bus = c.in-Ok.made.0 in
    let air : c.close-air.result.0 ≡ flown bus.base c.close-air.result.0.history = c.close-air.ensures.air in
    subst (λ (f : Flight). IsHeard f.plan f.kinds c.close-air.result.0 c.close-air.result.1.items) c.in-Ok.ensures.air
    (record {
      flight = air;
      aired = subst (λ (f : Flight). IsAired f.plan f.kinds c.close-air.result.0.history) air c.close-air.ensures.aired;
      others = c.close-air.ensures.others;
      seats = ap (map (λ (s : Sight). s.number)) c.close-air.ensures.lists ∙ seats_numbered bus c.push_reserved.new.self.items (seats_of g (goal.at.returns-clause-heard g c).After-push_reserved);
      lists = subst (All (IsIn c.close-air.result.0.history)) (sym c.close-air.ensures.lists) c.close-air.ensures.history;
    })

left : (g : Over) (c : After-close-air g) → Ran g.N.SiteNode c.in-Ok.made.0 c.args.nodes.items c.rounds-rest.new.workers c.dismiss.new.nodes.items c.close-air.result.0.history
left g c =
    let bus = c.in-Ok.made.0 in
    let front = front_of bus c.in-Ok.made.1.items c.pop.new.self.items c.in-Some.last c.in-Ok.ensures.seats c.in-Some.ensures.items in
    let after = (goal.at.returns-clause-heard g c).After-rounds-rest in
    ran g.N.SiteNode bus c.args.nodes.items c.pop.new.self.items c.hire-workers.result.items c.hire-workers.ensures.nodes c.hire-workers.ensures.seats front.0 c.rounds-rest.new.workers (went g after)
    c.rounds-rest.new.last c.push_reserved.new.self.items (seats_are g (goal.at.returns-clause-heard g c).After-push_reserved) c.close-air.result.0.history c.close-air.ensures.history c.hire-workers.ensures.faults
    c.dismiss.new.nodes.items (c.dismiss.ensures.nodes ∙ ap (map (λ (w : WorkerView g.row.N.Denot). (w.node, w.fault))) (whole g after))

pub returns-clause-walked : goal.returns-clause-walked
returns-clause-walked g c tells i a b l = ((left g c).each i a b l).walked tells

pub returns-clause-grown : goal.returns-clause-grown
returns-clause-grown g c tells i a b l = ((left g c).each i a b l).grown tells

pub returns-clause-disks : goal.returns-clause-disks
returns-clause-disks g c i a b l = ((left g c).each i a b l).disks

pub returns-clause-plan : goal.returns-clause-plan
returns-clause-plan g c planned i a b l = ((left g c).each i a b l).plan planned

pub returns-clause-fault : goal.returns-clause-fault
returns-clause-fault g c down = (left g c).fault (c.rounds-rest.ensures.fault down)

pub returns-clause-met : goal.returns-clause-met
returns-clause-met g c =
    (left g c).met (subst (All (λ (w : WorkerView g.row.N.Denot). HasMet g.N.SiteNode.faults g.N.SiteNode.waits w.node w.fault w.seat.mine)) (whole g (goal.at.returns-clause-met g c).After-rounds-rest) c.dismiss.ensures.met)

pub returns-clause-rest : goal.returns-clause-rest
returns-clause-rest g c rests i b l alive =
    (left g c).rested (c.rounds-rest.ensures.rest rests) i b l (ap (λ (f : Flight). is_dead f.plan.dead f.kinds i) c.in-Ok.ensures.air ∙ alive)
