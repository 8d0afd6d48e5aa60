use Rattle.std.proofs.Common.{◌≡◌, ◌-◌, map, length, drop, filter, option_map}
use Rattle.verify_pass.proofs.Words.{same_batch, is_most, value_of}
use Rattle.paxos_defs.specs.Decided as paxos
use Rattle.verify_pass.proofs.group.pick.Given as goal

-- the last ones so far are gone through
abbrev pub invariant-loop-taken : goal.invariant-loop-taken
invariant-loop-taken l = option_map value_of l.least ≡ paxos.least same_batch (filter (is_most l.replicas l.group) (map value_of (drop (length l.group - l.taken) l.group)))
