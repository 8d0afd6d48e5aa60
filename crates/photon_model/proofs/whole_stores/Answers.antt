use Rattle.photon_model.proofs.Storing.{longer_keeps_whole}
use Rattle.photon_model.proofs.Whole.{empty_whole, topology_comes, runs_keep_whole}
use Rattle.photon_model.proofs.whole_stores.Goals as goal

pub returns-clause-empty : goal.returns-clause-empty
returns-clause-empty c = empty_whole

pub returns-clause-topology : goal.returns-clause-topology
returns-clause-topology c = topology_comes

pub returns-clause-runs : goal.returns-clause-runs
returns-clause-runs c = runs_keep_whole

pub returns-clause-longer : goal.returns-clause-longer
returns-clause-longer c g h query_log click_log more_queries more_clicks s l = longer_keeps_whole g h query_log click_log more_queries more_clicks l s
