use Rattle.std.proofs.Common.{arith, length, ap}
use Rattle.packet_codec.proofs.Words.{Insert}
use Rattle.packet_codec.proofs.Counts.{length-inserts}
use Rattle.packet_codec.proofs.fields.batches.InsertsField.put.Goals as goal

pub write_inserts-end-requires : goal.write_inserts-end-requires
write_inserts-end-requires c = let few = c.requires.count in omega (arith, c.write-at.ensures.end, length-inserts c.as_slice-list.result.now, ap (length {A = Insert}) c.as_slice-list.ensures)
