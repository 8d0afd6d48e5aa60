use Rattle.verify_pass.proofs.Words.{slots, IsAt}
use Rattle.verify_pass.proofs.states.registry.Given as goal

-- the batches of the slots so far are applied
abbrev pub invariant-loop-slot : goal.invariant-loop-slot
invariant-loop-slot l = IsAt (slots l.chosen l.shard) l.slot l.registry
