-- Terms of other crates, for the definitions and contracts of this one.
pub use Rattle.dispatch_core.specs.Changes.{changed, note_of, told}
pub use Rattle.dispatch_core.specs.Standing.{AreClicksAt, CanKeep, Carries, Fits, HasSameNumbers, IsKept, IsLineAt, IsLookedUp, IsTurn, Stands, Takes, click_at, live_of, out_of}
pub use Rattle.dispatch_core.specs.declared.dispatch.DispatchCore.{DispatchCore}
pub use Rattle.dispatch_core.specs.declared.turns.DispatchNote.{DispatchNote}
pub use Rattle.dispatch_core.specs.declared.turns.DispatchNote.TheVariants.{Advance, Park, Settle}
pub use Rattle.dispatch_core.specs.declared.turns.Step.{Step}
pub use Rattle.gate_journal.specs.Growth.{Continues}
pub use Rattle.gate_journal.specs.declared.journal.JournalState.{JournalState}
pub use Rattle.gate_journal.specs.declared.journal.JournalState.TheVariants.{Ready}
pub use Rattle.indexmap.specs.IndexSet.{spare}
pub use Rattle.list_words.specs.Lists.{Distinct, Each, Mem, has, without}
pub use Rattle.log_records.specs.Line.{IsClick, click_line}
pub use Rattle.log_records.specs.Lines.{ClickLine, Follow, HoldsLines, IsBoundary, at, end_from, placed}
pub use Rattle.log_records.specs.declared.check.TheConstants.{MAX_LOG}
pub use Rattle.log_records.specs.declared.records.ClickRec.{ClickRec as Click}
pub use Rattle.outside.specs.Disk.{Throughout}
pub use Rattle.outside.specs.Faults.{Rose, tallied}
pub use Rattle.outside.specs.Plans.{AtMost}
pub use Rattle.site_node.specs.Bytes.{record_of}
pub use Rattle.site_node.specs.Faults.{HasFailed, IsOfRestart, IsReadFault, IsWhole, MeetsStops, OfBoth, is_read_fault, of_two, was_shut_out}
pub use Rattle.site_node.specs.Rows.{Numbered, dispatcher_rows, numbered}
pub use Rattle.site_node.specs.Shell.{StandsAt, down_over}
pub use Rattle.site_node.specs.States.{row_of}
pub use Rattle.site_node.specs.declared.kind.NodeDisk.{NodeDisk}
pub use Rattle.std.proofs.lemmas.Bool.{and_parts, cond_both, eq-eqb, eqb-true, false≢true, lt-ltb, not-true, or_cases, or_left, or_right}
pub use Rattle.tail_reader.specs.Next.{IsNext}
pub use Rattle.turn_defs.specs.Dispatcher.{DispatcherKept, DispatcherLive, Fresh, advances, after_done, dispatcher_at_rest, dispatcher_gets, dispatcher_joined, dispatcher_looks, dispatcher_own, dispatcher_start, dispatcher_turn, dispatcher_unfinished, dispatcher_wants, done_end, ends, first_done, has_room, land_dispatcher, mark, parks, retries, taken, takes, waits, with_room}
pub use Rattle.turn_defs.specs.Setting.{Setting}
pub use Rattle.turn_defs.specs.Turns.{Note, Out, idle, land}
