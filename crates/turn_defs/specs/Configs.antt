-- The numbers that a run can be built for.
use Rattle.std.specs.Prelude.{◌<◌, ◌≤◌}
use Rattle.paxos_defs.specs.declared.TheConstants.{MOST_REPLICAS}
use Rattle.registry_state.specs.declared.TheConstants.{MOST_INSERTS}
use Rattle.time_shards.specs.Shards.{IsTable}
use Rattle.time_shards.specs.declared.TheConstants.{MOST_JOINERS}
use Rattle.turn_defs.specs.declared.config.Config.{Config}

-- the ranges of what a run is built for
pub record IsRunnable (config : Config) : Type 0 where
  pub some : 0 < config.joiners
  pub few : config.joiners ≤ MOST_JOINERS
  pub table : IsTable config.table
  pub replicas : config.replicas ≤ MOST_REPLICAS
  pub batch : config.batch ≤ MOST_INSERTS
