-- The words of this crate's proofs: what they take from its definitions and from the crates below, under one name each.
pub use Rattle.list_words.specs.Lists.{Each}
pub use Rattle.packet_codec.specs.Bad.{After, Followed, IsBadAt, Reaches, Spelled}
pub use Rattle.packet_codec.specs.Cells.{Cells, Run, UpTo}
pub use Rattle.packet_codec.specs.Counted.{AreCounted, counted}
pub use Rattle.packet_codec.specs.Stops.{IsBadBefore, Stops}
pub use Rattle.packet_codec.specs.declared.fields.stop.Stop.{Stop}
pub use Rattle.registry_state.specs.declared.Batch.{Batch}
pub use Rattle.registry_state.specs.declared.Insert.{Insert}
pub use Rattle.registry_state.specs.declared.TheConstants.{MOST_INSERTS}
pub use Rattle.std.proofs.lemmas.List.{drop_at, get_or-append_right, get_or-replicate, get_or-take, get_or_append_left, get_or_default, get_or_past, length-append, length-replicate, length-take-le, take-append-drop, take_at, take_more}
pub use Rattle.turn_defs.specs.Packets.{IsOutcome, IsPacket, outcome, packet}
pub use Rattle.turn_defs.specs.Spellings.{IsAnswer, IsBallot, IsBatch, IsInsert, IsNumber, IsPlace, IsPrior, IsToken, answer, ballot, batch, batch_head, click, insert, inserts, number, place, prior, query, text, token}
