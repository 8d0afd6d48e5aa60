use Rattle.std.proofs.Common.{ℕ, ◌++◌, List, ap, length, take, ◌∙◌, arith}
use Rattle.packet_codec.proofs.Counts.{length-inserts, inserts_written}
use Rattle.packet_codec.proofs.fields.batches.write_inserts.Goals as goal

pub write-at-requires : goal.write-at-requires
write-at-requires c = omega (arith, length-inserts c.args.list.now, ap length c.insert_bytes.ensures, c.loop-x.invariant.end)

pub loop-x-preserved : goal.loop-x-preserved
loop-x-preserved c = record {
  end = omega (arith, ap length c.insert_bytes.ensures, c.loop-x.invariant.end, c.write-at.ensures.end);
  text = inserts_written _ (take c.args.from c.args.buf.now) c.insert_bytes.result c.args.list.now c.loop-x.x-index _ c.loop-x-test.true c.insert_bytes.ensures (c.write-at.ensures.text ∙ ap (λ (z : List ℕ). z ++ c.insert_bytes.result) c.loop-x.invariant.text);
}

pub returns-clause-end : goal.returns-clause-end
returns-clause-end c = omega (arith, length-inserts c.args.list.now, c.loop-x.invariant.end)
