use Rattle.std.proofs.Common.{◌∙◌, arith}
use Rattle.std.proofs.lemmas.List.{take_more}
use Rattle.std.specs.BTreeMap.{get}
use Rattle.id_expiry.specs.Times.{of_id, by_time}
use Rattle.id_expiry.proofs.Tokens.{put_more, put_some}
use Rattle.id_expiry.proofs.timed.put_all.Goals as goal

pub returns-in_err-put-clause-some : goal.returns-in_err-put-clause-some
returns-in_err-put-clause-some c = put_some (λ i. get by_time c.args.held.now (of_id i)) (λ i. get by_time c.put.new.held (of_id i)) c.args.inserts.now c.loop-insert.insert-index (λ i. c.in_err-put.ensures.err i ∙ c.loop-insert.invariant i)

pub loop-insert-preserved : goal.loop-insert-preserved
loop-insert-preserved c =
    let items = c.args.inserts.now in
    let k = c.loop-insert.insert-index in
    put_more (λ i. get by_time c.args.held.now (of_id i)) (λ i. get by_time c.loop-insert.held (of_id i)) (λ i. get by_time c.put.new.held (of_id i)) items k _ (take_more items k _ (omega arith)) c.in_ok-put.ensures.ok c.loop-insert.invariant
