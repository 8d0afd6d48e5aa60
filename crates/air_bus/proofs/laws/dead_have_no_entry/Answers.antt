use Rattle.air_bus.proofs.Silent.{none_made}
use Rattle.air_bus.proofs.laws.dead_have_no_entry.Goals as goal

pub returns : goal.returns
returns c = λ plan kinds h aired n dead. none_made plan kinds n dead h aired
