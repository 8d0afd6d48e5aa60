use Rattle.std.proofs.Common.{rules, arith}
use Rattle.registry_state.proofs.Learning.{ahead_old, ahead_young}
use Rattle.id_expiry.specs.Timed.{token_of}
use Rattle.id_expiry.proofs.timed.TimedRegistry.replay_after.Goals as goal

pub returns-then-id-bound : goal.returns-then-id-bound
returns-then-id-bound c = λ applied k.
    let old = c.args.self.now in
    ahead_old old.bound (token_of old) applied c.args.batch.now c.args.id c.args.token c.max-bound.result k (omega arith) (omega arith)

pub returns-in_err-holder : goal.returns-in_err-holder
returns-in_err-holder c = λ applied k.
    let old = c.args.self.now in
    let e = ahead_young old.bound (token_of old) applied c.args.batch.now c.args.id c.args.token c.max-bound.result k (omega arith) (omega arith) in
    let o = c.holder_after.ensures in
    search rules

pub returns : goal.returns
returns c = λ applied k.
    let old = c.args.self.now in
    let e = ahead_young old.bound (token_of old) applied c.args.batch.now c.args.id c.args.token c.max-bound.result k (omega arith) (omega arith) in
    let o = c.holder_after.ensures in
    search rules
