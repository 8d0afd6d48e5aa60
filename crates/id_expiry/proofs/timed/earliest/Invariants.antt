use Rattle.std.proofs.Common.{◌≡◌, drop}
use Rattle.registry_state.specs.LookBack.{first_in}
use Rattle.id_expiry.proofs.timed.earliest.Given as goal

-- none so far was of that id
abbrev pub invariant-loop-insert : goal.invariant-loop-insert
invariant-loop-insert l = first_in l.inserts l.id ≡ first_in (drop l.insert-index l.inserts) l.id
