-- Terms of other crates, for the definitions and contracts of this one.
pub use Rattle.ballot_core.specs.declared.Ballot.{Ballot}
pub use Rattle.paxos_defs.specs.declared.Place.{Place}
pub use Rattle.photon_model.specs.Rest.{Carries, IsAtRest, IsInterval, IsWork}
pub use Rattle.photon_model.specs.Runs.{Begin, End, Entry, IsRun, Stop, World, after, at_node, opening, row_of, world_after}
pub use Rattle.time_shards.specs.Shards.{IsTable}
pub use Rattle.turn_defs.specs.Server.{ServerLive, ShardState, is_below_limit}
pub use Rattle.turn_defs.specs.Setting.{IsJoiner, Setting, shards}
pub use Rattle.turn_defs.specs.Turns.{Out, is_empty}
