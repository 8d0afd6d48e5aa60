use Rattle.std.proofs.Common.{rules, ◌∙◌, slice_index_or, subst}
use Rattle.site_workers.proofs.Words.{AllWentOn, WentOn, WorkerView}
use denote.Exit.{no as leaves_none}
use denote.Param.{param}
use denote.Param.Send.{param_send, arg_send}
use Rattle.site_workers.proofs.Crossing.{worker_send}
use Rattle.site_workers.proofs.Going.{all_on}
use Rattle.site_workers.proofs.rounds.rounds.Given.{Over}
use Rattle.site_workers.proofs.rounds.rounds.Goals as goal
use Rattle.site_workers.proofs.rounds.rounds.Goals.{After-for_each_mut}

pub for_each_mut-requires-send-T : goal.for_each_mut-requires-send-T
for_each_mut-requires-send-T g c κs within = param_send 1 _ (arg_send _ leaves_none _ (worker_send (param 1 g.row.N) g.N.SiteNode c.type_bounds.send-N))

-- in one more round
went : (g : Over) (c : After-for_each_mut g) → AllWentOn g.N.SiteNode c.args.workers.now c.for_each_mut.new.s
went g c =
    let m = g.N.SiteNode in
    all_on m c.args.workers.now c.loop.workers c.for_each_mut.new.s c.loop.invariant.0
    (record {
      count = search rules;
      each = λ i d l.
          let at = (c.for_each_mut.ensures i d l).1 in
          let call = at.call in
          let on : WentOn m at.argument.now at.after_call.now = search rules in
          subst (λ (w : WorkerView g.row.N.Denot). WentOn m w (slice_index_or c.for_each_mut.new.s i d)) at.argument_is (subst (WentOn m at.argument.now) at.left on);
    })

pub loop-preserved : goal.loop-preserved
loop-preserved g c = (went g (goal.at.loop-preserved g c).After-for_each_mut, c.quiet-tick.ensures.kept.0 ∙ c.loop.invariant.1, c.quiet-tick.ensures.kept.1 ∙ c.loop.invariant.2)

pub returns-then-has_fault-clause-went : goal.returns-then-has_fault-clause-went
returns-then-has_fault-clause-went g c = went g (goal.at.returns-then-has_fault-clause-went g c).After-for_each_mut

pub returns-then-all_rest-clause-went : goal.returns-then-all_rest-clause-went
returns-then-all_rest-clause-went g c = went g (goal.at.returns-then-all_rest-clause-went g c).After-for_each_mut
