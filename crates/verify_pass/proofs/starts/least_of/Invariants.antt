use Rattle.std.proofs.Common.{◌≡◌, take}
use Rattle.verify_pass.proofs.Words.{least_from}
use Rattle.verify_pass.proofs.starts.least_of.Given as goal

abbrev pub invariant-loop-insert : goal.invariant-loop-insert
invariant-loop-insert l = l.least ≡ least_from l.start l.fn.first (take l.insert-index l.inserts)
