use Rattle.std.proofs.Common.{◌≡◌, map, take}
use Rattle.verify_pass.proofs.Words.{fold, note_view, batches_in, taken}
use Rattle.verify_pass.proofs.starts.Latest.take_all.Given as goal

abbrev pub invariant-loop-note : goal.invariant-loop-note
invariant-loop-note l = l.self ≡ fold (taken l.start) l.fn.self (batches_in (map note_view (take l.note-index l.notes)))
