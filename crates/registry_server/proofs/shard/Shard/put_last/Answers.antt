use Rattle.std.proofs.Common.{arith}
use Rattle.registry_server.proofs.Words.{waiting}
use Rattle.registry_server.proofs.Queueing.{put_is}
use Rattle.registry_server.proofs.Keeping.{queue_kept}
use Rattle.registry_server.proofs.shard.Shard.put_last.Goals as goal

pub returns : goal.returns
returns c = λ g site st is.
    let h = c.args.self.now in
    queue_kept g site h st is c.args.insert c.put.new.self (c.requires.unknown st.learned is.learned.known)
    (put_is (waiting h.queue) (waiting c.put.new.self) c.args.insert c.put.result (omega arith) c.put.ensures.ok c.put.ensures.full c.put.ensures.no_place c.put.ensures.err)
