use Rattle.site_run.proofs.Stopping.{none_stop}
use Rattle.site_run.proofs.disk_laws.none_stops.Goals as goal

pub returns : goal.returns
returns c = none_stop c.node_numbers.ensures
