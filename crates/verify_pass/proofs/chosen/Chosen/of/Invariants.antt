use Rattle.std.proofs.Common.{◌≡◌, length, take}
use Rattle.verify_pass.proofs.Words.{Place, casts_from, casts_at, EndsBy}
use Rattle.verify_pass.proofs.chosen.Chosen.of.Given as goal

-- the replicas so far are taken in
abbrev pub invariant-loop-replica : goal.invariant-loop-replica
invariant-loop-replica l = record {
  casts : (p : Place) → casts_at l.chosen p ≡ casts_from 0 (take l.replica l.journals) p;
  last : EndsBy l.chosen;
  replicas : l.chosen.replicas ≡ length l.journals;
}
