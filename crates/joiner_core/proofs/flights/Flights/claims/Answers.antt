use Rattle.std.proofs.Common.{◌≡◌, ◌++◌, List, map, sym, ap, subst, ◌∙◌}
use Rattle.std.proofs.lemmas.List.{append-nil}
use Rattle.joiner_core.proofs.Words.{EventId, Packet, Node, Waiting, flights, claim_to, ArePackets}
use Rattle.joiner_core.proofs.Flying.{flight_at, held_claims}
use Rattle.joiner_core.proofs.flights.Flights.claims.Goals as goal

pub returns-clause-spelled : goal.returns-clause-spelled
returns-clause-spelled c =
    let self = c.args.self.now in
    let all = c.loop-id.all.items in
    let done : all ≡ map (claim_to c.args.site) (flights self) =
    sym (append-nil all) ∙ ap (λ (es : List (EventId × Waiting)). all ++ map (claim_to c.args.site) (map flight_at es)) (sym c.in-None.ensures.steps.0) ∙ c.loop-id.invariant in
    subst (λ (ps : List (Node × Packet)). ArePackets ps) (sym done) (held_claims c.args.site self.waiting.entries self.held)
