use Rattle.std.proofs.Common.{length, ap, arith}
use Rattle.log_records.proofs.Words.{length-spell-le}
use Rattle.log_records.proofs.write.query_line.Goals as goal

pub put_id-at-requires : goal.put_id-at-requires
put_id-at-requires c = omega (arith, length-spell-le c.args.rec.now.id c.requires.id)

pub put-end-requires : goal.put-end-requires
put-end-requires c =
    let text = c.requires.text.len in
    omega (arith, length-spell-le c.args.rec.now.id c.requires.id, c.put_id-at.auto.line, c.put_id-at.ensures.end, ap length c.as_bytes.ensures)
