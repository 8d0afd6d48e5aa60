use Rattle.std.proofs.Common.{arith, ◌∙◌}
use Rattle.registry_server.proofs.Words.{length-set}
use Rattle.registry_server.proofs.Placing.{empty_more}
use Rattle.registry_server.proofs.shards.clear_all.Goals as goal

pub loop-number-preserved : goal.loop-number-preserved
loop-number-preserved c =
    let many = c.loop-number.invariant.many in
    let end = c.len-number-end.ensures in
    let held = c.args.shards.now.ok.0 in
    let below = c.loop-number-test.true in
    record {
      many = length-set _ _ _ ∙ many;
      empty = empty_more c.loop-number.shards.items c.loop-number.number c.new.result (omega arith) c.new.ensures c.loop-number.invariant.empty;
    }

pub returns-clause-empty : goal.returns-clause-empty
returns-clause-empty c = λ s d lt.
    let many = c.loop-number.invariant.many in
    let end = c.len-number-end.ensures in
    let held = c.args.shards.now.ok.0 in
    let all = c.loop-number-test.false in
    c.loop-number.invariant.empty s d (omega arith)
