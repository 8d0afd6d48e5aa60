use Rattle.std.proofs.Common.{◌≡◌, ◌+◌, ◌*◌, ◌++◌, take}
use Rattle.packet_codec.proofs.Words.{inserts}
use Rattle.packet_codec.proofs.fields.batches.write_inserts.Given as goal

abbrev pub invariant-loop-x : goal.invariant-loop-x
invariant-loop-x l = record {
  end : l.at ≡ l.from + 30 * l.x-index;
  text : take l.at l.buf ≡ take l.from l.fn.buf ++ inserts (take l.x-index l.list);
}
