-- What the two disks of a dispatcher keep, and which notes they take.
use Rattle.std.specs.Prelude.{ℕ, List, Bool, true, false, not, nat_lt}
use Rattle.dispatch_node.specs.Terms.{DispatcherKept, JournalState, Note, Ready, has}
use Rattle.offset_journal.specs.Offsets as offsets
use Rattle.retry_log.specs.Pending as pending
use Rattle.turn_defs.specs.Turns.{Advance, Park, Settle}

abbrev pub kept_as : ℕ → List ℕ → DispatcherKept
kept_as offset pending = record { offset = offset; pending = pending }

-- the bytes of the disks, that of the offset first, keep this
abbrev pub OnDisks : DispatcherKept → List ℕ × List ℕ → Type 0
OnDisks k c = offsets.Keeps k.offset c.0 × pending.Keeps k.pending c.1

-- a note is written to disks that keep k: an offset above the kept one, a position that isn't pending or one that is
abbrev pub takes_note : DispatcherKept → Note → Bool
takes_note k (Advance e) = nat_lt k.offset e
takes_note k (Park p) = not (has k.pending p)
takes_note k (Settle p) = has k.pending p
takes_note k _ = false

-- both journals can be appended to
abbrev pub both_ready : JournalState → JournalState → Bool
both_ready Ready Ready = true
both_ready _ _ = false
