use Rattle.std.proofs.Common.{All, IfSome, Option, sym, ◌∙◌, subst}
use Rattle.std.proofs.lemmas.List.Elements.{All-push}
use Rattle.dispatch_node.proofs.Words.{Click, IsClick}
use Rattle.dispatch_node.proofs.Carried.{pushed_items}
use Rattle.dispatch_node.proofs.clicks.Clicks.put_click.Goals as goal

pub returns-clause-spelled : goal.returns-clause-spelled
returns-clause-spelled g c before =
    let one = subst (λ (o : Option Click). IfSome o IsClick) c.in-Some.is c.in_ok-click.ensures.spelled in
    let all = c.push.ensures.items ∙ pushed_items c.push.result _ _ (sym c.is_err.ensures.value ∙ c.if-is_err.false) in
    subst (All IsClick) (sym all) (All-push IsClick c.args.clicks.now.items c.in-Some.click before one)
