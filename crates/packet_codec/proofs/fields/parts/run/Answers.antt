use Rattle.std.proofs.Common.{◌≤◌, arith}
use Rattle.packet_codec.proofs.BadPlaces.{before_cell}
use Rattle.packet_codec.proofs.fields.parts.run.Goals as goal
use Rattle.packet_codec.proofs.fields.parts.run.Goals.{then-i-bytes-via-then-i-bytes, then-i-bytes-via-else-i-bytes+then-bytes-i, then-i-bytes-via-else-i-bytes+else-bytes-i+then-high-bytes}

pub returns-then-i-bytes-clause-bad : goal.returns-then-i-bytes-clause-bad
returns-then-i-bytes-clause-bad c = before_cell
    c.args.n
    (λ k b. (c.args.low ≤ b) × (b ≤ c.args.high))
    c.args.low
    c.args.bytes.now
    c.loop-i.i
    (λ k h. (omega arith, c.requires))
    c.loop-i-test.true
    c.loop-i.invariant.within
    c.loop-i.invariant.good
    (λ lt fits. elim c.then-i-bytes.branch [ then-i-bytes-via-then-i-bytes w ↦ omega arith | then-i-bytes-via-else-i-bytes+then-bytes-i w ↦ omega arith | then-i-bytes-via-else-i-bytes+else-bytes-i+then-high-bytes w ↦ omega arith ])
