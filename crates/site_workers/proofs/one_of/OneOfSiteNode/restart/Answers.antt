use Rattle.site_workers.specs.FourKinds as one
use Rattle.site_workers.specs.FourKinds.{both_true}
use Rattle.site_workers.proofs.FourKinds.{stopped_first, stopped_second}
use Rattle.site_workers.proofs.one_of.OneOfSiteNode.restart.Goals as goal

pub returns-in-First-clause-stopped : goal.returns-in-First-clause-stopped
returns-in-First-clause-stopped g c tells =
    rw c.in-First.is (stopped_first (one.leads g.A.SiteNode.leads g.B.SiteNode.leads) (one.leads g.C.SiteNode.leads g.D.SiteNode.leads) _ _ _ _ (stopped_first g.A.SiteNode.leads g.B.SiteNode.leads _ _ _ _ (c.restart.ensures.stopped (both_true _ _ (both_true _ _ tells).0).0)))

pub returns-in-Second-clause-stopped : goal.returns-in-Second-clause-stopped
returns-in-Second-clause-stopped g c tells =
    rw c.in-Second.is (stopped_first (one.leads g.A.SiteNode.leads g.B.SiteNode.leads) (one.leads g.C.SiteNode.leads g.D.SiteNode.leads) _ _ _ _ (stopped_second g.A.SiteNode.leads g.B.SiteNode.leads _ _ _ _ (c.restart-in-Second.ensures.stopped (both_true _ _ (both_true _ _ tells).0).1)))

pub returns-in-Third-clause-stopped : goal.returns-in-Third-clause-stopped
returns-in-Third-clause-stopped g c tells =
    rw c.in-Third.is (stopped_second (one.leads g.A.SiteNode.leads g.B.SiteNode.leads) (one.leads g.C.SiteNode.leads g.D.SiteNode.leads) _ _ _ _ (stopped_first g.C.SiteNode.leads g.D.SiteNode.leads _ _ _ _ (c.restart-in-Third.ensures.stopped (both_true _ _ (both_true _ _ tells).1).0)))

pub returns-in-Fourth-clause-stopped : goal.returns-in-Fourth-clause-stopped
returns-in-Fourth-clause-stopped g c tells =
    rw c.in-Fourth.is (stopped_second (one.leads g.A.SiteNode.leads g.B.SiteNode.leads) (one.leads g.C.SiteNode.leads g.D.SiteNode.leads) _ _ _ _ (stopped_second g.C.SiteNode.leads g.D.SiteNode.leads _ _ _ _ (c.restart-in-Fourth.ensures.stopped (both_true _ _ (both_true _ _ tells).1).1)))
