use Rattle.std.proofs.Common.{ap, subst, sym}
use Rattle.replica_node.proofs.Words.{land, land_replica, noted, GoesOn, Stands, ReplicaKept, VoterView, ReplicaCore}
use Rattle.replica_node.proofs.Spelled.{landed_ok}
use Rattle.replica_node.proofs.voter.VoterCoreVotesKept.keep.Goals as goal

pub invariant_of-self : goal.invariant_of-self
invariant_of-self c =
    let so = c.requires in
    let turn = c.args.turn in
    let goes = subst (λ (core : ReplicaCore). GoesOn core turn.change so.kept) (ap (λ (v : VoterView). v.core) (sym c.self.view_is)) so.goes_on in
    record { kept = land land_replica (noted turn.note) so.kept; stands = c.keep.ensures so.kept goes; spelled = landed_ok so.kept turn.note so.spelled so.note }

pub returns-clause-knows : goal.returns-clause-knows
returns-clause-knows c = λ g k l made.
    let turn = c.args.turn in
    let goes = subst (λ (core : ReplicaCore). GoesOn core turn.change made.was) (ap (λ (v : VoterView). v.core) (sym c.self.view_is)) made.goes_on in
    subst (λ (x : ReplicaKept). Stands c.keep.new.self x) (sym made.is) (c.keep.ensures made.was goes)
