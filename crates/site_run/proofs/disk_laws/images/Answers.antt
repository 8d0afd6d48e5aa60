use Rattle.site_run.proofs.disk_laws.images.Goals as goal

pub returns : goal.returns
returns g c = g.N.SiteNode.images
