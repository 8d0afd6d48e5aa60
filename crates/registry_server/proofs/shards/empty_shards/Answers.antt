use Rattle.std.proofs.Common.{List, sym, subst, arith}
use Rattle.registry_server.proofs.Words.{All-push, IsShard, empty_shard, EachStands, Shard}
use Rattle.registry_server.proofs.shards.empty_shards.Goals as goal

pub loop-preserved : goal.loop-preserved
loop-preserved c = record {
  many = (let e = c.in_ok-push.ensures.len in let m = c.loop.invariant.many in omega arith);
  each = subst (λ (xs : List Shard). EachStands xs (λ s. empty_shard)) (sym c.in_ok-push.ensures.items) (All-push (λ h. IsShard h empty_shard) c.loop.shards.items c.new.result c.loop.invariant.each c.new.ensures);
}
