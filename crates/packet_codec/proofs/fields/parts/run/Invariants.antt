use Rattle.std.proofs.Common.{ℕ, ◌<◌, ◌≤◌, length, get_or}
use Rattle.packet_codec.proofs.fields.parts.run.Given as goal

abbrev pub invariant-loop-i : goal.invariant-loop-i
invariant-loop-i l = record { within : l.i ≤ length l.bytes; good : (k : ℕ) → k < l.i → (l.low ≤ get_or l.bytes k 0) × (get_or l.bytes k 0 ≤ l.high) }
