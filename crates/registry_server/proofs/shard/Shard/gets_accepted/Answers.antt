use Rattle.std.proofs.Common.{refl, ◌≡◌, ◌++◌, ◌∷◌, [], List, true, false, sym, ap, ◌∙◌, rules}
use Rattle.registry_server.proofs.Words.{cond-false, gets_accepted, Place, Packet, Chosen, Node, Server, Only, IfOk-weaker, setting, sent}
use Rattle.registry_server.proofs.Answering.{none_gives, counted_gives, accept_fits, chosen_gives}
use Rattle.registry_server.proofs.shard.Shard.gets_accepted.Goals as goal

pub returns-in_default-clause-row : goal.returns-in_default-clause-row
returns-in_default-clause-row c = λ g k l at.
    let t = c.args.station.now in
    none_gives (setting t g) t.site k l c.args.number c.args.round c.args.self.now at c.args.slot c.args.ballot (gets_accepted (setting t g) t.site k l c.args.from (record { shard = c.args.number; slot = c.args.slot }) c.args.ballot (l.shards c.args.number)) c.idle.result c.in_default.ensures refl (λ q off. cond-false _ _ _ off) (c.idle.ensures.gives (setting t g) t.site l)

pub returns-then-not-on_accepted-clause-row : goal.returns-then-not-on_accepted-clause-row
returns-then-not-on_accepted-clause-row c = λ g k l at.
    let t = c.args.station.now in
    let off : c.on_accepted.result ≡ false = search rules in
    counted_gives (setting t g) t.site k l c.args.number c.args.round c.args.self.now at c.args.slot c.args.ballot c.in-Some.proposal.now c.in-Some.ensures c.args.from c.one.result _ (sym c.on_accepted.ensures.turn ∙ off) c.one.ensures (ap sent c.new-packets.ensures.items)

pub returns-then-not-on_accepted-clause-fits : goal.returns-then-not-on_accepted-clause-fits
returns-then-not-on_accepted-clause-fits c =
    let off : c.on_accepted.result ≡ false = search rules in
    accept_fits c.args.self.now c.args.number c.args.round c.args.from c.args.slot c.args.ballot c.in-Some.proposal.now _ c.in-Some.ensures (sym c.on_accepted.ensures.turn ∙ off) c.one.ensures.change

pub returns-clause-row : goal.returns-clause-row
returns-clause-row c =
    let t = c.args.station.now in
    let on : c.on_accepted.result ≡ true = search rules in
    let place : Place = record { shard = c.args.number; slot = c.args.slot } in
    IfOk-weaker c.learned.result _ _
    (λ turn h g k l at. chosen_gives (setting t g) t.site k l c.args.number c.args.round c.args.self.now at c.args.slot c.args.ballot c.in-Some.proposal.now c.in-Some.ensures c.args.from c.in_ok-value.value turn c.push.new.self.items
    (sym c.on_accepted.ensures.turn ∙ on)
    (λ marks v e. c.in_ok-value.ensures ∙ c.value.ensures.accepting marks v e)
    (ap sent c.in_ok-push.ensures.items ∙ ap (λ (ps : List (Node × Packet)). sent (ps ++ (Server c.saturating_sub.result, Chosen place c.in_ok-copy.field-0) ∷ [])) c.new-packets.ensures.items
    ∙ (λ i. (Only (Server (c.saturating_sub.ensures i)), Chosen place (c.in_ok-copy.ensures i)) ∷ []))
    (h g k l at))
    c.learned.ensures.row
