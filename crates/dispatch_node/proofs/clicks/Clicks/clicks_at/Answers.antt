use Rattle.std.proofs.Common.{ℕ, List, take, get_or, sym, ◌∙◌, subst, arith}
use Rattle.dispatch_node.proofs.Words.{take_more, take_all, AreClicksAt, IsLogOf}
use Rattle.dispatch_node.proofs.Carried.{has_at}
use Rattle.dispatch_node.proofs.clicks.Clicks.clicks_at.Goals as goal

pub loop-position-preserved : goal.loop-position-preserved
loop-position-preserved g c =
    let before = c.loop-position.invariant in
    let now = c.in_ok-put_click.ensures in
    let ps = c.args.positions.now in
    let i = c.loop-position.position-index in
    record {
      same = λ tells. now.same tells ∙ before.same tells;
      clicks = λ tells s is starts.
          let p = get_or ps i 0 in
          let here = subst (λ (log : List ℕ). IsLogOf log s) (sym (before.same tells)) is in
          let more = now.click tells s (take i ps) here (starts p (has_at ps i 0 c.loop-position-test.true)) (before.clicks tells s is starts) in
          subst (λ (qs : List ℕ). AreClicksAt s qs c.put_click.new.clicks.items) (sym (take_more ps i 0 c.loop-position-test.true)) more;
      spelled = now.spelled before.spelled;
      no_fault = now.tally ∙ before.no_fault;
    }

pub returns-clause-clicks : goal.returns-clause-clicks
returns-clause-clicks g c tells s is starts =
    let ps = c.args.positions.now in
    let i = c.loop-position.position-index in
    subst (λ (qs : List ℕ). AreClicksAt s qs c.loop-position.clicks.items) (take_all i ps (omega arith)) (c.loop-position.invariant.clicks tells s is starts)
