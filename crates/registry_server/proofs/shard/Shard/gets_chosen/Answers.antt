use Rattle.std.proofs.Common.{arith}
use Rattle.registry_server.proofs.Words.{IfOk-weaker, setting}
use Rattle.registry_server.proofs.Rowing.{same_row}
use Rattle.registry_server.proofs.Answering.{told_other, told_high, told_gives}
use Rattle.registry_server.proofs.shard.Shard.gets_chosen.Goals as goal

pub returns-then-slot-self-clause-row : goal.returns-then-slot-self-clause-row
returns-then-slot-self-clause-row c = λ g k l at.
    let t = c.args.station.now in
    same_row (setting t g) t.site l c.idle.result _ _ (told_other (setting t g) t.site k l c.args.number c.args.round c.args.self.now at c.args.slot c.args.batch.now c.if-slot-self.true) (c.idle.ensures.gives (setting t g) t.site l)

pub returns-then-slot-ge-LAST_SLOT-clause-row : goal.returns-then-slot-ge-LAST_SLOT-clause-row
returns-then-slot-ge-LAST_SLOT-clause-row c = λ g k l at.
    let t = c.args.station.now in
    same_row (setting t g) t.site l c.idle-then-slot-ge-LAST_SLOT.result _ _ (told_high (setting t g) t.site k l c.args.number c.args.round c.args.self.now at c.args.slot c.args.batch.now c.if-slot-ge-LAST_SLOT.true) (c.idle-then-slot-ge-LAST_SLOT.ensures.gives (setting t g) t.site l)

pub returns-clause-row : goal.returns-clause-row
returns-clause-row c =
    let t = c.args.station.now in
    IfOk-weaker c.learned.result _ _ (λ turn h g k l at. told_gives (setting t g) t.site k l c.args.number c.args.round c.args.self.now at c.args.slot c.args.batch.now c.in_ok-copy.field-0 turn c.new-packets.result.items (omega arith) (omega arith) c.in_ok-copy.ensures c.new-packets.ensures.items (h g k l at)) c.learned.ensures.row
