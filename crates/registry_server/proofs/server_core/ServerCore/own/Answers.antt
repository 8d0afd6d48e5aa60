use Rattle.std.proofs.Common.{◌<◌, ◌≤◌, get_or, subst, ap, ◌∙◌}
use Rattle.registry_server.proofs.Words.{LAST_SLOT, IfOk-weaker, proposes_if}
use Rattle.registry_server.proofs.Rowing.{same_row}
use Rattle.registry_server.proofs.Standing.{own_spent, own_none, own_is, is_at, for_setting}
use Rattle.registry_server.proofs.server_core.ServerCore.own.Goals as goal

pub returns-then-self-ge-LAST_SLOT-clause-row : goal.returns-then-self-ge-LAST_SLOT-clause-row
returns-then-self-ge-LAST_SLOT-clause-row c = λ g k l h.
    let site = c.args.self.now.station.site in
    same_row g site l c.idle.result _ _ (own_spent g site k l (subst (λ m. LAST_SLOT ≤ m) h.round c.if-self-ge-LAST_SLOT.true)) (c.idle.ensures.gives g site l)

pub returns-in_default-clause-row : goal.returns-in_default-clause-row
returns-in_default-clause-row c = λ g k l h.
    let site = c.args.self.now.station.site in
    same_row g site l c.idle-in_default.result _ _ (own_none g site k l (c.in_default.ensures.first g k l h)) (c.idle-in_default.ensures.gives g site l)

pub returns-clause-row : goal.returns-clause-row
returns-clause-row c =
    let core = c.args.self.now in
    let site = core.station.site in
    let n = c.in-Some.number in
    let item = c.index.result.now in
    IfOk-weaker c.propose.result _ _
    (λ turn p g k l h.
    let low : l.round < LAST_SLOT = subst (λ m. m < LAST_SLOT) h.round c.if-self-ge-LAST_SLOT.false in
    same_row g site l turn _ _ (own_is g site k l n low (c.in-Some.ensures.first g k l h))
    (for_setting core g k l h turn (λ z. proposes_if z site k l n)
    (p g k l (is_at core g k l h n item core.many c.in-Some.ensures.within (c.index.ensures ∙ ap (λ m. get_or core.shards.items m item) c.from.ensures)) h.epoch)))
    c.propose.ensures.row
