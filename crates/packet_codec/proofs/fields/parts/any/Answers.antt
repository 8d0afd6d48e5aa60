use Rattle.std.proofs.Common.{◌≤◌, length, arith}
use Rattle.packet_codec.proofs.BadPlaces.{bad_cell}
use Rattle.packet_codec.proofs.fields.parts.any.Goals as goal

pub returns-then-bytes-n-clause-bad : goal.returns-then-bytes-n-clause-bad
returns-then-bytes-n-clause-bad c = record {
  at = length c.args.bytes.now;
  place = omega arith;
  bad = bad_cell
      c.args.n
      (λ k b. (0 ≤ b) × (b ≤ 255))
      0
      c.args.bytes.now
      (length c.args.bytes.now)
      (λ k h. (omega arith, omega arith))
      c.if-bytes-n.true
      (omega arith)
      (λ k h. (omega arith, omega (arith, c.type_inv.bytes k)))
      (λ lt fits. absurd (omega arith));
}
