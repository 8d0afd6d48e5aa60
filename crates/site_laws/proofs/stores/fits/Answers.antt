use Rattle.site_laws.proofs.Opening.{topology_fits}
use Rattle.site_laws.proofs.stores.fits.Goals as goal

pub returns-clause-only : goal.returns-clause-only
returns-clause-only c = topology_fits c.once.ensures.topology
