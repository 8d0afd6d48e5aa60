use Rattle.std.proofs.Common.{◌∙◌, ℕ, List, cond, Option, None, subst, sym, ap}
use Rattle.air_bus.specs.declared.entry.Entry.TheVariants.{Stop}
use Rattle.site_node.specs.States.{Leads}
use Rattle.site_node.specs.Shell.{StandsAt, both_tell}
use Rattle.site_node.proofs.Turning.{in_doubt, keeps_doubt, stops}
use Rattle.site_node.proofs.node.NodeSiteNode.restart.Goals as goal

pub returns-in_err-held-clause-moments : goal.returns-in_err-held-clause-moments
returns-in_err-held-clause-moments g c tells s at left here =
    let both = both_tell g.C.Core.tells g.R.Records.tells tells in
    keeps_doubt g.C.Core g.R.Records _ _ _ _ s left (in_doubt g.C.Core g.R.Records _ _ _ _ s c.requires at) at (λ k with doubts. c.reopen.ensures.moments both.1 k with doubts left here)

pub returns-clause-moments : goal.returns-clause-moments
returns-clause-moments g c tells s at left here =
    let both = both_tell g.C.Core.tells g.R.Records.tells tells in
    keeps_doubt g.C.Core g.R.Records _ _ _ _ s left (in_doubt g.C.Core g.R.Records _ _ _ _ s c.requires at) at (λ k with doubts. c.reopen.ensures.moments both.1 k with doubts left here)

pub returns-clause-stopped : goal.returns-clause-stopped
returns-clause-stopped g c tells s at =
    let both = both_tell g.C.Core.tells g.R.Records.tells tells in
    let node = c.args.self.now in
    let core = c.put_down.new.self in
    let records = c.reopen.new.self in
    let landed = c.in_ok-held.landed in
    let done = stops g.C.Core g.R.Records node.config node.in_doubt node.core core node.records records s 0 landed (in_doubt g.C.Core g.R.Records _ _ _ _ s c.requires at) at
    (λ k with doubts serves. let told = c.in_ok-held.ensures.left both.1 k with doubts in (told.1, c.put_down.ensures.knows s.setting (cond landed with k) serves told.0, c.in_ok-held.ensures.ready)) in (
      done.0,
      subst (λ (d : Option (List ℕ)). Leads g.C.Core.rows s (Stop 0 d) done.0) (sym (c.told_note.ensures ∙ ap (λ (o : Option (List ℕ)). cond landed o None) c.take.ensures.value)) done.1,
      subst (λ (d : Option (List ℕ)). StandsAt g.C.Core g.R.Records node.config d core records done.0) (sym c.take.ensures.after) done.2,
    )
