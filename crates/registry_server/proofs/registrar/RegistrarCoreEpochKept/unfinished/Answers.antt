use Rattle.std.proofs.Common.{sym, subst}
use Rattle.registry_server.proofs.Words.{ServerCore, Stands}
use Rattle.registry_server.proofs.registrar.RegistrarCoreEpochKept.unfinished.Goals as goal

pub returns : goal.returns
returns c = λ g k l knows. c.unfinished.ensures g k.disk l (subst (λ (x : ServerCore). Stands x g k.disk l) (sym c.self.view_is) knows.stands)
