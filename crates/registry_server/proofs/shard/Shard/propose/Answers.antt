use Rattle.std.proofs.Common.{◌++◌, List, ap, sym, ◌∙◌, ◌≡◌, true, false, ◌+◌, take, rules, min}
use Rattle.registry_server.proofs.Words.{MOST_INSERTS, Ballot, Place, batch_of, waiting, Prepare, to_replicas, cond-false, Packet, Node, setting, sent}
use Rattle.registry_server.proofs.Rowing.{proposed_gives, same_row}
use Rattle.registry_server.proofs.shard.Shard.propose.Goals as goal

pub returns-then-not-passes-clause-row : goal.returns-then-not-passes-clause-row
returns-then-not-passes-clause-row c = λ g k l at epoch.
    let t = c.args.station.now in
    let off : c.passes.result ≡ false = search rules in
    same_row (setting t g) t.site l c.idle.result _ _ (cond-false _ _ _ (sym (c.passes.ensures.row g (l.shards c.args.number) at.stands) ∙ off)) (c.idle.ensures.gives (setting t g) t.site l)

pub returns-clause-row : goal.returns-clause-row
returns-clause-row c = λ g k l at epoch.
    let t = c.args.station.now in
    let h = c.args.self.now in
    let on : c.passes.result ≡ true = search rules in
    let ballot : Ballot = record { round = c.args.round + 1; epoch = c.args.epoch; site = t.site } in
    proposed_gives t g k l c.args.number c.one.result h c.args.round c.args.epoch c.start-proposer.result _ t.few at epoch (sym on ∙ c.passes.ensures.row g (l.shards c.args.number) at.stands) c.one.ensures
    (c.in_ok-ask_all.ensures ∙ ap (λ (ps : List (Node × Packet)). sent ps ++ to_replicas t.config.replicas (Prepare c.place.result ballot)) c.new-packets.ensures.items ∙ ap (λ (z : Place). to_replicas t.config.replicas (Prepare z ballot)) c.place.ensures)
    c.start-proposer.ensures.ballot
    (c.start-proposer.ensures.own ∙ c.in_ok-own.ensures ∙ ap (λ m. batch_of t.config.horizon (take (min m MOST_INSERTS) (waiting h.queue))) c.from.ensures)
    c.start-proposer.ensures.phase
