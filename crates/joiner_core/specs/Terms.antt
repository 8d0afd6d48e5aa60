-- Terms of other crates, for the definitions and contracts of this one.
pub use Rattle.ballot_core.specs.declared.TheConstants.{LAST_EPOCH}
pub use Rattle.event_id.specs.EventId.{IsId, is_same as same_id}
pub use Rattle.event_id.specs.declared.id.EventId.{EventId}
pub use Rattle.indexmap.specs.IndexMap.{IsUnique, get, index_map_len, shift_remove_entry, spare}
pub use Rattle.log_records.specs.Line.{IsClick, IsQuery}
pub use Rattle.log_records.specs.declared.records.ClickRec.{ClickRec as Click}
pub use Rattle.registry_state.specs.declared.Token.{Token}
pub use Rattle.std.specs.List.{AllByRecursion, AllByRecursion-prop, find}
pub use Rattle.turn_defs.specs.Joiner.{Flight, JoinerKept, JoinerLive, claim, in_flight, insert_of, is_for, joiner_at_rest, joiner_gets, joiner_start, joiner_tick, joiner_turn, joiner_unfinished, joiner_wants, joins, land_joiner, landed, looks, replied}
pub use Rattle.turn_defs.specs.Packets.{IsOutcome, IsPacket}
pub use Rattle.turn_defs.specs.Setting.{Setting, site_of_joiner}
pub use Rattle.turn_defs.specs.Spellings.{IsAnswer, IsNumber, IsPair, IsToken}
pub use Rattle.turn_defs.specs.Turns.{Epoch, Note, Out, Output, idle, land}
pub use Rattle.turn_defs.specs.declared.limits.TheConstants.{MOST_FLIGHTS}
pub use Rattle.turn_defs.specs.declared.node.Input.{Input}
pub use Rattle.turn_defs.specs.declared.node.Input.TheVariants.{Deliver, Own, Start, Tick}
pub use Rattle.turn_defs.specs.declared.node.Node.{Node}
pub use Rattle.turn_defs.specs.declared.node.Node.TheVariants.{Dispatcher, Server}
pub use Rattle.turn_defs.specs.declared.packet.Packet.{Packet}
