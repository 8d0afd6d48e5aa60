use Rattle.std.proofs.Common.{rules}
use Rattle.dispatch_core.proofs.dispatch.DispatchCore.own.Goals as goal

pub returns-in-None-clause-turn : goal.returns-in-None-clause-turn
returns-in-None-clause-turn c = λ g k l stands looked. search rules depth 40
