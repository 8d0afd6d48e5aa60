-- The words of this crate's proofs: what they take from its definitions and from the crates below, under one name each.
pub use Rattle.gate_journal.specs.Gate.{IsOldOrNew, gate_rule, records}
pub use Rattle.gate_journal.specs.Spelled.{comes_next, never_damaged}
pub use Rattle.joiner_core.specs.declared.input.JoinerInput.{JoinerInput}
pub use Rattle.joiner_node.specs.Disks.{Doubts, EpochOr, Holds, IsCalm, OnDisks, PairsOr, counted, has_more, image_of_epochs, image_of_log, with_note}
pub use Rattle.joiner_node.specs.Joining.{GoesOn, Knows, KnowsBy, MayRaise, ServesAs, StandsFor, takes_note}
pub use Rattle.joiner_node.specs.Kept.{calm_stays, on_either}
pub use Rattle.joiner_node.specs.Read.{HasRead, IsFirst, IsReadTo}
pub use Rattle.joiner_node.specs.Terms.{Answers, Carries, Deliver, Input, IsReady, IsSame, IsUndamaged, JoinerCore, JoinerKept, JoinerLive, JoinerNote, LAST_EPOCH, MeetsBoth, Numbered, Only, Own, PairRec, Query, Serves, Setting, Stands, Start, Tells, Throughout, Tick, Turn, joiner_rows, land_joiner, needs_look_up, note_of, numbered, record_of, row}
pub use Rattle.joiner_node.specs.declared.disks.Disks.{Disks}
pub use Rattle.joiner_node.specs.declared.joining.Joining.{Joining}
pub use Rattle.joiner_node.specs.declared.queries.Queries.{Queries}
pub use Rattle.output_log.specs.Pairs.{Keeps, KeepsOr, record_of as pair_record, spells}
pub use Rattle.site_node.proofs.Stops.{first_meets, second_meets, then_more}
pub use Rattle.turn_defs.specs.Spellings.{IsPair}
