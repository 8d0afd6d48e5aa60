use Rattle.std.proofs.Common.{◌+◌, ◌++◌, ◌∷◌, [], refl}
use Rattle.registry_server.proofs.Keeping.{learn_kept}
use Rattle.registry_server.proofs.shard.Shard.learn.Goals as goal

pub returns : goal.returns
returns c = λ g site st is.
    let v = c.args.batch.now in
    let known = c.learn.ensures.known st.learned is.learned.known in
    learn_kept g site c.args.self.now st is v c.args.answered.now (c.args.self.now.next + 1) c.learn.new.self c.drop_answered.new.self refl known (c.drop_answered.ensures.left (st.learned ++ v ∷ []) (c.requires.told st.learned is.learned.known is.learned.waits))
