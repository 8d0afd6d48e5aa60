use Rattle.std.proofs.Common.{◌≡◌, ◌<◌, ◌≤◌, length, get_or, Some, None, sym, ap, ◌∙◌, subst, arith}
use Rattle.registry_server.proofs.Words.{IfOk-weaker, Setting, shards, server_gets, number_of}
use Rattle.registry_server.proofs.Rowing.{same_row}
use Rattle.registry_server.proofs.Hearing.{about_none}
use Rattle.registry_server.proofs.Standing.{beyond, for_setting, is_at, setting_is, table_shards}
use Rattle.registry_server.proofs.Placing.{set_each}
use Rattle.registry_server.proofs.server_core.ServerCore.gets.Goals as goal

pub returns-in_default-clause-row : goal.returns-in_default-clause-row
returns-in_default-clause-row c = λ g k l h.
    let site = c.args.self.now.station.site in
    let about = subst (λ (z : Setting). None ≡ number_of z c.args.packet.now) (sym (setting_is c.args.self.now g k l h)) (c.in_default.ensures.row g) in
    same_row g site l c.idle.result _ _ (about_none g site k l c.args.from c.args.packet.now (sym about)) (c.idle.ensures.gives g site l)

pub returns-then-from-len-clause-row : goal.returns-then-from-len-clause-row
returns-then-from-len-clause-row c = λ g k l h.
    let core = c.args.self.now in
    let site = core.station.site in
    let n = c.in-Some.number in
    let about = subst (λ (z : Setting). Some n ≡ number_of z c.args.packet.now) (sym (setting_is core g k l h)) (c.in-Some.ensures.row g) in
    let shards_are = table_shards core g k l h in
    let many = core.many in
    let most : shards g ≤ n = omega arith in
    same_row g site l c.idle-then-from-len.result _ _
    (beyond g site k l n most c.args.from c.args.packet.now (sym about) (λ x e. subst (λ m. n < m) shards_are (c.in-Some.ensures.within x e)))
    (c.idle-then-from-len.ensures.gives g site l)

pub returns-clause-row : goal.returns-clause-row
returns-clause-row c =
    let core = c.args.self.now in
    let site = core.station.site in
    let n = c.in-Some.number in
    let item = c.index_mut-shard.result.now in
    let within : n < length core.shards.items = omega arith in
    IfOk-weaker c.gets.result _ _
    (λ turn row g k l h. for_setting core g k l h turn (λ z. server_gets z site k l c.args.from c.args.packet.now)
    (row g k l (is_at core g k l h n item core.many within (c.index_mut-shard.ensures.value ∙ ap (λ m. get_or core.shards.items m item) c.from-2.ensures)) (sym (c.in-Some.ensures.row g))))
    c.gets.ensures.row

pub returns-clause-same : goal.returns-clause-same
returns-clause-same c = λ g k l h.
    let core = c.args.self.now in
    let item = c.index_mut-shard.result.now in
    let number = c.from-2.ensures in
    let within : c.from-2.result < length core.shards.items = omega arith in
    record { config = h.config; epoch = h.epoch; round = h.round; each = set_each core.shards.items l.shards c.from-2.result item c.gets.new.self within c.index_mut-shard.ensures.value c.gets.ensures.same h.each }
