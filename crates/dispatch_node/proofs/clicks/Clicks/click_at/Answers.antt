use Rattle.std.proofs.Common.{inr, subst, Option}
use Rattle.dispatch_node.proofs.Words.{IsLineAt, TakenLine}
use Rattle.dispatch_node.proofs.Carried.{click_of_line, click_of_none}
use Rattle.dispatch_node.proofs.clicks.Clicks.click_at.Goals as goal

pub returns-in-Some-clause-click : goal.returns-in-Some-clause-click
returns-in-Some-clause-click g c tells s is starts =
    click_of_line s c.args.position c.in-Some.field-0 (subst (λ (t : Option TakenLine). IsLineAt s c.args.position t) c.in-Some.is (c.in_ok-click.ensures.line tells s is (inr starts)))

pub returns-in-None-clause-click : goal.returns-in-None-clause-click
returns-in-None-clause-click g c tells s is starts =
    click_of_none s c.args.position (subst (λ (t : Option TakenLine). IsLineAt s c.args.position t) c.in-None.is (c.in_ok-click.ensures.line tells s is (inr starts)))
