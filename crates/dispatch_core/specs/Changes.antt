-- What a turn of the core says: its note, and what it makes of the volatile state.
use Rattle.std.specs.Prelude.{true, false, [], ◌∷◌, ◌++◌, take, drop, Option, Some, None}
use Rattle.dispatch_core.specs.Terms.{without, Note, DispatcherLive, after_done, mark}
use Rattle.turn_defs.specs.Turns as turns
use Rattle.dispatch_core.specs.Windows.{fresh_of}
use Rattle.dispatch_core.specs.declared.turns.DispatchNote.{DispatchNote}
use Rattle.dispatch_core.specs.declared.turns.DispatchNote.TheVariants as note
use Rattle.dispatch_core.specs.declared.turns.Change.{Change}
use Rattle.dispatch_core.specs.declared.turns.Change.TheVariants.{Nothing, Start, Advance, Retry, Take, End, Finish, Park, Settle, Leave}

-- the record that a note is
abbrev pub told : DispatchNote → Note
told (note.Advance e) = turns.Advance e
told (note.Park p) = turns.Park p
told (note.Settle p) = turns.Settle p

-- the record of a change
abbrev pub note_of : Change → Option Note
note_of (Advance e) = Some (turns.Advance e)
note_of (Park p) = Some (turns.Park p)
note_of (Settle p) = Some (turns.Settle p)
note_of _ = None

-- what is known once the change is kept
abbrev pub changed : Change → DispatcherLive → DispatcherLive
changed Nothing l = l
changed (Start place pending due) l = record { place = place; fresh = []; due = due.items; trying = []; ended = false }
changed (Advance e) l = record l { fresh = after_done l.fresh }
changed Retry l = record l { due = drop 1 l.due; trying = l.trying ++ take 1 l.due }
changed (Take f) l = record l { place = f.end; fresh = l.fresh ++ fresh_of f ∷ [] }
changed End l = record l { ended = true }
changed (Finish p) l = record l { fresh = mark l.fresh p }
changed (Park p) l = record l { fresh = mark l.fresh p }
changed (Settle p) l = record l { trying = without l.trying p }
changed (Leave p) l = record l { trying = without l.trying p }
