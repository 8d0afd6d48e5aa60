use Rattle.std.proofs.Common.{◌≤◌, length, get_or, arith}
use Rattle.packet_codec.proofs.BadPlaces.{before_cell}
use Rattle.packet_codec.proofs.fields.parts.up_to.Goals as goal
use Rattle.packet_codec.proofs.fields.parts.up_to.Goals.{then-i-bytes-via-then-i-bytes, then-i-bytes-via-else-i-bytes+then-limit-bytes}

pub returns-then-i-bytes-clause-bad : goal.returns-then-i-bytes-clause-bad
returns-then-i-bytes-clause-bad c = before_cell
    (length c.args.limits.now)
    (λ k b. b ≤ get_or c.args.limits.now k 0)
    0
    c.args.bytes.now
    c.loop-i.i
    (λ k h. omega arith)
    c.loop-i-test.true
    c.loop-i.invariant.within
    c.loop-i.invariant.good
    (λ lt fits. elim c.then-i-bytes.branch [ then-i-bytes-via-then-i-bytes w ↦ omega arith | then-i-bytes-via-else-i-bytes+then-limit-bytes w ↦ omega arith ])
