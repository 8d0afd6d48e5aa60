use Rattle.std.proofs.Common.{◌≡◌, ◌≤◌}
use Rattle.verify_pass.proofs.Words.{marked, did_replica, marks, value_of}
use Rattle.verify_pass.proofs.group.is_most.Given as goal

-- the replicas so far are counted
abbrev pub invariant-loop-replica : goal.invariant-loop-replica
invariant-loop-replica l = record {
  counted : l.count ≡ marked (marks (did_replica l.group (value_of l.one)) l.replica);
  few : l.count ≤ l.replica;
}
