use Rattle.std.proofs.Common.{drop, arith}
use Rattle.std.proofs.lemmas.List.{length-take}
use Rattle.tail_reader.proofs.Windows.{past_limit, past_end, read_is}
use Rattle.tail_reader.proofs.window.read_below.Goals as goal

pub returns-then-at-ge-MAX_LOG-clause-end : goal.returns-then-at-ge-MAX_LOG-clause-end
returns-then-at-ge-MAX_LOG-clause-end g c = λ t z. past_limit (g.L.LogFile.bytes c.args.log.now) c.args.at (omega arith)

pub returns-clause-bytes : goal.returns-clause-bytes
returns-clause-bytes g c = λ t.
    let room = c.min-room.result in
    let buf = c.args.buf.now in
    let read = c.in_ok-n.ensures.bytes t in
    let part = length-take room buf in
    read_is (g.L.LogFile.bytes c.args.log.now) c.args.at room c.in_ok-n.n c.read_at.new.buf (drop room buf) (omega arith) (omega (arith, c.in_ok-n.ensures.fits, part)) (omega (arith, c.read_at.auto.buf, part)) read.0 read.1

pub returns-clause-end : goal.returns-clause-end
returns-clause-end g c = λ t none. past_end (g.L.LogFile.bytes c.args.log.now) c.args.at ((c.in_ok-n.ensures.end t (omega (arith, length-take c.min-room.result c.args.buf.now))).0 none)
