-- The words of this crate's proofs: what they take from its definitions and from the crates below, under one name each.
pub use Rattle.air_bus.specs.History.{Flight, is_of, next_input, node_of, phase, phase_after, phase_step}
pub use Rattle.air_bus.specs.declared.entry.Entry.{Entry}
pub use Rattle.air_bus.specs.declared.entry.Phase.TheVariants.{Busy, Down}
pub use Rattle.bus_seat.specs.Seats.{AreSeatsOf, Begins, BusId, IsAtRest, IsIn, Looks, Sight, TakesPart, ends, fresh, fresh_to, gathered, next_for, sight, tag}
pub use Rattle.bus_seat.specs.Views.{Sat, Took, added, after, blank, caught_up, count, dealt, ended, flown, given, gives_of, holding, in_hand, joined, made_by, named, newcomer, off, one_if, own, runner_at, same, some_one, taken, told, turn_of}
pub use Rattle.bus_seat.specs.declared.view.View.{View}
pub use Rattle.std.proofs.lemmas.List.Elements.{All-append, All-cons, All-head, All-nil, All-tail, All-weaker, filter-append}
pub use Rattle.std.specs.Prelude.{All, sum_by, vec_capacity}
pub use lib.ListN.{get_elem?}
pub use mathlib.Core.List.{IsPrefix, map-append}
