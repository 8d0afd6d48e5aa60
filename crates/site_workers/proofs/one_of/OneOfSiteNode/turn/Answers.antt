use Rattle.site_workers.specs.FourKinds as one
use Rattle.site_workers.specs.FourKinds.{both_true, says_first, says_second}
use Rattle.site_workers.proofs.FourKinds.{done_first, done_second}
use Rattle.site_workers.proofs.one_of.OneOfSiteNode.turn.Goals as goal

pub returns-in-First-clause-done : goal.returns-in-First-clause-done
returns-in-First-clause-done g c tells =
    rw c.in-First.is (done_first (one.leads g.A.SiteNode.leads g.B.SiteNode.leads) (one.leads g.C.SiteNode.leads g.D.SiteNode.leads) _ _ _ _ _ (done_first g.A.SiteNode.leads g.B.SiteNode.leads _ _ _ _ _ (c.turn.ensures.done (both_true _ _ (both_true _ _ tells).0).0)))

pub returns-in-First-clause-spent : goal.returns-in-First-clause-spent
returns-in-First-clause-spent g c = rw c.in-First.is (says_first _ _ (says_first _ _ c.turn.ensures.spent))

pub returns-in-First-clause-spends : goal.returns-in-First-clause-spends
returns-in-First-clause-spends g c = rw c.in-First.is (says_first _ _ (says_first _ _ c.turn.ensures.spends))

pub returns-in-Second-clause-done : goal.returns-in-Second-clause-done
returns-in-Second-clause-done g c tells =
    rw c.in-Second.is (done_first (one.leads g.A.SiteNode.leads g.B.SiteNode.leads) (one.leads g.C.SiteNode.leads g.D.SiteNode.leads) _ _ _ _ _ (done_second g.A.SiteNode.leads g.B.SiteNode.leads _ _ _ _ _ (c.turn-in-Second.ensures.done (both_true _ _ (both_true _ _ tells).0).1)))

pub returns-in-Second-clause-spent : goal.returns-in-Second-clause-spent
returns-in-Second-clause-spent g c = rw c.in-Second.is (says_first _ _ (says_second _ _ c.turn-in-Second.ensures.spent))

pub returns-in-Second-clause-spends : goal.returns-in-Second-clause-spends
returns-in-Second-clause-spends g c = rw c.in-Second.is (says_first _ _ (says_second _ _ c.turn-in-Second.ensures.spends))

pub returns-in-Third-clause-done : goal.returns-in-Third-clause-done
returns-in-Third-clause-done g c tells =
    rw c.in-Third.is (done_second (one.leads g.A.SiteNode.leads g.B.SiteNode.leads) (one.leads g.C.SiteNode.leads g.D.SiteNode.leads) _ _ _ _ _ (done_first g.C.SiteNode.leads g.D.SiteNode.leads _ _ _ _ _ (c.turn-in-Third.ensures.done (both_true _ _ (both_true _ _ tells).1).0)))

pub returns-in-Third-clause-spent : goal.returns-in-Third-clause-spent
returns-in-Third-clause-spent g c = rw c.in-Third.is (says_second _ _ (says_first _ _ c.turn-in-Third.ensures.spent))

pub returns-in-Third-clause-spends : goal.returns-in-Third-clause-spends
returns-in-Third-clause-spends g c = rw c.in-Third.is (says_second _ _ (says_first _ _ c.turn-in-Third.ensures.spends))

pub returns-in-Fourth-clause-done : goal.returns-in-Fourth-clause-done
returns-in-Fourth-clause-done g c tells =
    rw c.in-Fourth.is (done_second (one.leads g.A.SiteNode.leads g.B.SiteNode.leads) (one.leads g.C.SiteNode.leads g.D.SiteNode.leads) _ _ _ _ _ (done_second g.C.SiteNode.leads g.D.SiteNode.leads _ _ _ _ _ (c.turn-in-Fourth.ensures.done (both_true _ _ (both_true _ _ tells).1).1)))

pub returns-in-Fourth-clause-spent : goal.returns-in-Fourth-clause-spent
returns-in-Fourth-clause-spent g c = rw c.in-Fourth.is (says_second _ _ (says_second _ _ c.turn-in-Fourth.ensures.spent))

pub returns-in-Fourth-clause-spends : goal.returns-in-Fourth-clause-spends
returns-in-Fourth-clause-spends g c = rw c.in-Fourth.is (says_second _ _ (says_second _ _ c.turn-in-Fourth.ensures.spends))
