use Rattle.std.proofs.Common.{◌≡◌, ◌-◌, ◌<◌, length, get_or, sym, ap, ◌∙◌, arith}
use Rattle.registry_server.proofs.Words.{shards, first_shard, passes}
use Rattle.registry_server.proofs.Standing.{first_more, first_found, first_none, table_shards, test_at}
use Rattle.registry_server.proofs.server_core.ServerCore.first.Goals as goal

pub loop-number-init : goal.loop-number-init
loop-number-init c = λ g k v h.
    let m : c.shards-number-end.result ≡ shards g = c.shards-number-end.ensures.count ∙ table_shards c.args.self.now g k v h in
    let e : c.shards-number-end.result - 0 ≡ shards g = omega arith in
    ap (λ n. first_shard (λ s. passes g c.args.test (v.shards s)) 0 n) e

pub loop-number-preserved : goal.loop-number-preserved
loop-number-preserved c = λ g k v h.
    let core = c.args.self.now in
    let n = c.loop-number.number in
    let many = core.many in
    let end = c.shards-number-end.ensures.count in
    let within : n < length core.shards.items = omega arith in
    first_more (λ s. passes g c.args.test (v.shards s)) n c.shards-number-end.result _ c.loop-number-test.true
    (sym c.if-passes.false ∙ test_at core g k v h c.passes.result c.args.test n c.index.result.now within (c.index.ensures ∙ ap (λ m. get_or core.shards.items m c.index.result.now) c.from.ensures) c.passes.ensures.row)
    (c.loop-number.invariant g k v h)

pub returns-then-passes-clause-first : goal.returns-then-passes-clause-first
returns-then-passes-clause-first c = λ g k v h.
    let core = c.args.self.now in
    let n = c.loop-number.number in
    let many = core.many in
    let end = c.shards-number-end.ensures.count in
    let within : n < length core.shards.items = omega arith in
    first_found (λ s. passes g c.args.test (v.shards s)) n c.shards-number-end.result _ c.loop-number-test.true
    (sym c.if-passes.true ∙ test_at core g k v h c.passes.result c.args.test n c.index.result.now within (c.index.ensures ∙ ap (λ m. get_or core.shards.items m c.index.result.now) c.from.ensures) c.passes.ensures.row)
    (c.loop-number.invariant g k v h)

pub returns-clause-first : goal.returns-clause-first
returns-clause-first c = λ g k v h. first_none (λ s. passes g c.args.test (v.shards s)) c.loop-number.number c.shards-number-end.result _ c.loop-number-test.false (c.loop-number.invariant g k v h)
