use Rattle.std.proofs.Common.{◌≡◌, ◌<◌, ◌≤◌, false, List, length, sym, ap, ◌∙◌, subst, arith}
use Rattle.registry_server.proofs.Words.{IsShard, EachStands, Shard}
use Rattle.registry_server.proofs.Placing.{Released, released_none, released_more, released_all, written_back}
use Rattle.registry_server.proofs.shards.release_all.Goals as goal

pub loop-shard-init : goal.loop-shard-init
loop-shard-init c = subst (λ (xs : List Shard). Released c.args.shards.now.items xs 0) (sym c.deref_mut-shard-items.ensures.value) (released_none c.args.shards.now.items)

pub loop-shard-preserved : goal.loop-shard-preserved
loop-shard-preserved c =
    let many = c.loop-shard.invariant.many in
    let first = ap (λ (xs : List Shard). length xs) c.deref_mut-shard-items.ensures.value in
    let within : c.loop-shard.shard-index < length c.loop-shard.shard-items = (let t = c.loop-shard-test.true in omega arith) in
    released_more c.args.shards.now.items c.loop-shard.shard-items c.loop-shard.shard-index c.shard-item.result c.release.new.self within c.shard-item.is (λ st is. c.release.ensures st (subst (λ (x : Shard). IsShard x st) c.shard-item.is is)) c.loop-shard.invariant

pub returns : goal.returns
returns c =
    let start = c.args.shards.now.items in
    let items = c.loop-shard.shard-items in
    let many : length items ≡ length start = c.loop-shard.invariant.many in
    let first = ap (λ (xs : List Shard). length xs) c.deref_mut-shard-items.ensures.value in
    let all : length items ≤ c.loop-shard.shard-index = (let t = c.loop-shard-test.false in omega arith) in
    let back = written_back items start c.args.shards.now.len many (omega (arith, c.args.shards.now.ok.0)) in
    record {
      many = ap (λ (xs : List Shard). length xs) back ∙ many;
      each = λ f h. subst (λ (xs : List Shard). EachStands xs (λ s. record (f s) { held = false })) (sym back) (released_all start items c.loop-shard.shard-index all c.loop-shard.invariant f h);
    }
