-- Terms of other crates, for the definitions and contracts of this one.
pub use Rattle.indexmap.specs.IndexSet.{contains, insert_key, spare}
pub use Rattle.list_words.specs.Lists.{Distinct, Each, has, without}
pub use Rattle.log_records.specs.Line.{IsClick}
pub use Rattle.log_records.specs.Lines.{ClickLine, HoldsLines, IsBoundary, at}
pub use Rattle.log_records.specs.declared.check.TheConstants.{MAX_LOG}
pub use Rattle.log_records.specs.declared.records.ClickRec.{ClickRec as Click}
pub use Rattle.std.specs.List.{list_any, zip}
pub use Rattle.std.specs.Option.{option_map}
pub use Rattle.std.specs.VecDeque.{deque_capacity, deque_len}
pub use Rattle.turn_defs.specs.Dispatcher.{DispatcherKept, DispatcherLive, Fresh, after_done, dispatcher_at_rest, dispatcher_gets, dispatcher_joined, dispatcher_looks, dispatcher_own, dispatcher_start, dispatcher_tick, dispatcher_turn, dispatcher_unfinished, dispatcher_wants, done_end, ends, first_done, fresh_joins, has_room, join, land_dispatcher, mark, parks, retries, some_waits, takes, trying_joins, waits}
pub use Rattle.turn_defs.specs.Nodes.{Addressed, IsTo}
pub use Rattle.turn_defs.specs.Packets.{IsPacket}
pub use Rattle.turn_defs.specs.Setting.{Setting}
pub use Rattle.turn_defs.specs.Turns.{Advance, Note, Out, Park, Settle, idle, land}
pub use Rattle.turn_defs.specs.declared.config.Config.{Config}
pub use Rattle.turn_defs.specs.declared.node.Input.{Input}
pub use Rattle.turn_defs.specs.declared.node.Node.{Node}
pub use Rattle.turn_defs.specs.declared.node.Node.TheVariants.{Joiner}
pub use Rattle.turn_defs.specs.declared.node.To.{To}
pub use Rattle.turn_defs.specs.declared.packet.Outcome.{Outcome}
pub use Rattle.turn_defs.specs.declared.packet.Outcome.TheVariants.{Already, Busy, NoQuery, TooOld, Written}
pub use Rattle.turn_defs.specs.declared.packet.Packet.{Packet}
pub use Rattle.turn_defs.specs.declared.packet.Packet.TheVariants.{Join, Joined}
