use Rattle.std.proofs.Common.{◌++◌, ◌∷◌, [], ◌∙◌}
use Rattle.batch_queue.proofs.Words.{values_of, replays}
use Rattle.batch_queue.proofs.Answering.{and_newest}
use Rattle.batch_queue.proofs.queue.BatchQueue.answered_among.Goals as goal

pub returns : goal.returns
returns g c = λ applied known.
    and_newest (replays (applied ++ c.args.batch.now ∷ [])) (values_of c.args.among.now.entries) c.in-Some.newest c.args.self.now.newest _ _ c.in-Some.is (c.in_ok-all.ensures applied known)
    (c.from-2.ensures ∙ c.in_ok-push_answered.ensures applied known)
