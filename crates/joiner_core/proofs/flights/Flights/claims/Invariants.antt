use Rattle.std.proofs.Common.{◌≡◌, ◌++◌, map}
use Rattle.joiner_core.proofs.Words.{flights, claim_to}
use Rattle.joiner_core.proofs.Flying.{flight_at}
use Rattle.joiner_core.proofs.flights.Flights.claims.Given as goal

-- those so far, and those that are left
abbrev pub invariant-loop-id : goal.invariant-loop-id
invariant-loop-id l = l.all.items ++ map (claim_to l.site) (map flight_at l.id-iterator) ≡ map (claim_to l.site) (flights l.self)
