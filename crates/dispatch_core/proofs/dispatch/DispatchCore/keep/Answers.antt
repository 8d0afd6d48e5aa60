use Rattle.std.proofs.Common.{refl}
use Rattle.dispatch_core.proofs.Keeping.{turned}
use Rattle.dispatch_core.proofs.dispatch.DispatchCore.keep.Goals as goal

pub returns-clause-stands : goal.returns-clause-stands
returns-clause-stands c = λ g k l fits. turned g c.make.new.self _ _ _ refl refl refl (c.make.ensures.stands g k l fits)
