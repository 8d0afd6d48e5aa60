use Rattle.std.proofs.Common.{◌≡◌, ◌++◌, ◌-◌, ◌<◌, length, get_or, refl, sym, subst, ap, ◌∙◌, arith}
use Rattle.registry_server.proofs.Words.{Setting, shards, again, all_again, sent}
use Rattle.registry_server.proofs.Standing.{again_more, again_all, setting_is, table_shards, stands_at}
use Rattle.registry_server.proofs.server_core.ServerCore.tick.Goals as goal

pub loop-number-init : goal.loop-number-init
loop-number-init c = λ g k v h.
    let m : c.shards-number-end.result ≡ shards g = c.shards-number-end.ensures.count ∙ table_shards c.args.self.now g k v h in
    let e : c.shards-number-end.result - 0 ≡ shards g = omega arith in
    let site = c.args.self.now.station.site in
    λ j. sent (c.new-packets.ensures.items j) ++ all_again g site k v 0 (e j)

pub loop-number-preserved : goal.loop-number-preserved
loop-number-preserved c = λ g k v h.
    let core = c.args.self.now in
    let n = c.loop-number.number in
    let many = core.many in
    let end = c.shards-number-end.ensures.count in
    let within : n < length core.shards.items = omega arith in
    let stands = stands_at core g k v h n c.index.result.now within (c.index.ensures ∙ ap (λ m. get_or core.shards.items m c.index.result.now) c.from.ensures) in
    let before = sent c.loop-number.packets.items in
    let after = sent c.again.new.packets.items in
    again_more g core.station.site k v n c.shards-number-end.result before after _ c.loop-number-test.true
    (subst (λ (z : Setting). after ≡ before ++ again z core.station.site k v n (v.shards n) (v.shards n).proposal) (sym (setting_is core g k v h)) (c.in_ok-again.ensures g k v stands))
    (c.loop-number.invariant g k v h)

pub returns-clause-row : goal.returns-clause-row
returns-clause-row c = λ g k l h. record {
  note = refl;
  packets = again_all g c.args.self.now.station.site k l c.loop-number.number c.shards-number-end.result (sent c.loop-number.packets.items) _ c.loop-number-test.false (c.loop-number.invariant g k l h);
  live = refl;
}
