use Rattle.std.proofs.Common.{refl}
use Rattle.paxos_defs.specs.Decided.{decided}
use Rattle.paxos_defs.proofs.laws.rows.Goals as goal

pub returns-clause-replica : goal.returns-clause-replica
returns-clause-replica c =
    record { first_prepare = refl; same_prepare = refl; low_prepare = refl; prior_told = refl; prior_told_again = refl; accept = refl; accept_unasked = refl; same_accept = refl; low_accept = refl }

pub returns-clause-proposer : goal.returns-clause-proposer
returns-clause-proposer c =
    record { one_promise = refl; same_replica = refl; stranger = refl; sends_prior = refl; sends_higher = refl; sends_own = refl; one_acceptance = refl; learned = refl; two_of_five = refl }

pub returns-clause-decided : goal.returns-clause-decided
unfolding decided
returns-clause-decided c =
    record { gap_decided = refl; gap_chosen = refl; gap_alone = refl; gap_other_shard = refl; scattered_undecided = refl; split_least = refl; tie_first = refl }
