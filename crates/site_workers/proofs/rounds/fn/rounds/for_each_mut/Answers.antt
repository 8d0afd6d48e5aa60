use Rattle.std.proofs.Common.{sym, subst}
use Rattle.site_workers.proofs.Words.{WentOn, WorkerView}
use Rattle.site_workers.proofs.Stepping.{went_on}
use Rattle.site_workers.proofs.rounds.fn.rounds.for_each_mut.Given.{Over}
use Rattle.site_workers.proofs.rounds.fn.rounds.for_each_mut.Goals as goal
use Rattle.site_workers.proofs.rounds.fn.rounds.for_each_mut.Goals.{After-is_some, in-None, in-Some+then-not-step}

pub loop-preserved : goal.loop-preserved
loop-preserved g c = went_on g.N.SiteNode _ _ _ c.loop.invariant c.step.ensures

went : (g : Over) (c : After-is_some g) → WentOn g.N.SiteNode c.args.one.now c.match-next.one
went g c =
    let m = g.N.SiteNode in
    let on : WentOn m c.ask_tick.new.self c.match-next.one = elim c.match-next.branch [
      | in-None w ↦ subst (WentOn m c.ask_tick.new.self) (sym w.one-is) c.loop.invariant
      | in-Some+then-not-step w ↦ subst (WentOn m c.ask_tick.new.self) (sym w.one-is) (went_on m _ _ _ c.loop.invariant w.step.ensures)
    ] in
    subst (λ (v : WorkerView g.row.N.Denot). WentOn m v c.match-next.one) c.ask_tick.ensures on

pub returns-then-is_some : goal.returns-then-is_some
returns-then-is_some g c = went g (goal.at.returns-then-is_some g c).After-is_some

pub returns-else-is_some : goal.returns-else-is_some
returns-else-is_some g c = went g (goal.at.returns-else-is_some g c).After-is_some
