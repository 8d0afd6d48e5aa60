-- The words of this crate's proofs: what they take from its definitions and from the crates below, under one name each.
pub use Rattle.air_bus.specs.History.{Flight, IsAired, next_input, node_of, phase, phase_after}
pub use Rattle.air_bus.specs.declared.entry.Entry.{Entry}
pub use Rattle.air_bus.specs.declared.entry.Entry.TheVariants.{Begin, End, Stop}
pub use Rattle.bus_seat.specs.Seats.{Adds, AreSeatsOf, Begins, BusId, IsIn, Looks, Sight, TakesPart, fresh, fresh_seats, fresh_to, next_for, tag}
pub use Rattle.site_node.specs.declared.kind.NodeFault.{NodeFault}
pub use Rattle.site_node.specs.declared.kind.SiteNode.{Ghosts}
pub use Rattle.site_workers.specs.Rounds.{AllWentOn, AreCaused, HasFault, OneHasFault, Rests, WentOn}
pub use Rattle.site_workers.specs.Works.{Grew, GrowsOn, HasMet, IsCaused, IsIdle, KeepsPlan, LeadsOn, Path, Reached, StandsAt, WorkerView, is_begin, is_in_turn, is_stop, open_stops, stop_count}
pub use Rattle.std.proofs.lemmas.List.{append-nil, ext_get_or, get_or-map, get_or_append_left, get_or_push, length-map}
pub use Rattle.std.proofs.lemmas.List.Elements.{All-append, All-cons, All-nil, All-push, filter-append}
pub use Rattle.std.specs.List.{list_any, range_with_len}
pub use Rattle.std.specs.Prelude.{All, Err, IfOk, IfSome, IsSome, IsTrue, Ok, Result, vec_capacity}
pub use mathlib.Core.List.{IsPrefix, map-append}
