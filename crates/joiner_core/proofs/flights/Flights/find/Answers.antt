use Rattle.std.proofs.Common.{sym}
use Rattle.joiner_core.proofs.Flying.{held, held_lookup}
use Rattle.joiner_core.proofs.flights.Flights.find.Goals as goal

pub returns-then-eq-clause-held : goal.returns-then-eq-clause-held
returns-then-eq-clause-held c = held_lookup c.args.self.now.waiting.entries c.args.insert.id c.in-Some.waiting.now c.args.self.now.held (sym c.in-Some.ensures.value)
