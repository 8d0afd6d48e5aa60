-- Terms of other crates, for the definitions and contracts of this one.
pub use Rattle.ballot_core.specs.declared.TheConstants.{LAST_EPOCH}
pub use Rattle.event_store.specs.Read.{AreRead, is_read_fault}
pub use Rattle.gate_journal.specs.declared.journal.JournalState.TheVariants.{Ready}
pub use Rattle.joiner_core.specs.Spelled.{IsTaken, IsTold, IsWritten}
pub use Rattle.joiner_core.specs.Standing.{Answers, CanChange, CanStart, Carries, IsReady, IsSame, Leads, Serves, Stands, Tells, Turn, needs_look_up, note_of, row}
pub use Rattle.joiner_core.specs.declared.node_core.JoinerCore.{JoinerCore}
pub use Rattle.joiner_core.specs.declared.turn.JoinerNote.{JoinerNote}
pub use Rattle.log_records.specs.Check.{IsQueryLog}
pub use Rattle.log_records.specs.declared.records.QueryRec.{QueryRec as Query}
pub use Rattle.outside.specs.Disk.{Only, Throughout}
pub use Rattle.site_node.specs.Bytes.{IsInput, record_of}
pub use Rattle.site_node.specs.Faults.{IsUndamaged, MeetsBoth, MeetsStops, OfBoth, of_two}
pub use Rattle.site_node.specs.Rows.{Numbered, joiner_rows, numbered, spent_epoch}
pub use Rattle.turn_defs.specs.Joiner.{JoinerKept, JoinerLive, joiner_at_rest, joiner_unfinished, joiner_wants, land_joiner}
pub use Rattle.turn_defs.specs.Setting.{Setting, site_of_joiner}
pub use Rattle.turn_defs.specs.declared.node.Input.{Input}
pub use Rattle.turn_defs.specs.declared.node.Input.TheVariants.{Deliver, Own, Start, Tick}
pub use Rattle.turn_defs.specs.declared.pair.PairRec.{PairRec}
