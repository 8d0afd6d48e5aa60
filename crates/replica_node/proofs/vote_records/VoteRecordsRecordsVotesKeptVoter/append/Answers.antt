use Rattle.std.proofs.Common.{true, false, refl}
use Rattle.replica_node.proofs.Words.{meets}
use Rattle.replica_node.proofs.Standing.{holds_more, doubts_more, append_moments, append_grown}
use Rattle.replica_node.proofs.vote_records.VoteRecordsRecordsVotesKeptVoter.append.Goals as goal

pub returns-in-Ok-clause-holds : goal.returns-in-Ok-clause-holds
returns-in-Ok-clause-holds g c tells k holds =
    let e = c.in-Ok.ensures in
    holds_more c.args.self.now c.args.framed.of_note _ c.as_slice.ensures k holds _ e.ready.1 (e.durable tells _ (e.reads tells)) c.saturating_add-self.ensures

pub returns-in-Err-clause-doubts : goal.returns-in-Err-clause-doubts
returns-in-Err-clause-doubts g c tells k holds = doubts_more c.args.self.now c.args.framed.of_note _ c.as_slice.ensures k holds _ (c.append.ensures.any_moment tells c.requires.0).now refl

pub returns-in-Ok-clause-moments : goal.returns-in-Ok-clause-moments
returns-in-Ok-clause-moments g c tells r k calm holds = append_moments c.args.self.now c.args.framed.of_note _ c.as_slice.ensures r k calm holds _ (c.append.ensures.any_moment tells c.requires.0)

pub returns-in-Err-clause-moments : goal.returns-in-Err-clause-moments
returns-in-Err-clause-moments g c tells r k calm holds = append_moments c.args.self.now c.args.framed.of_note _ c.as_slice.ensures r k calm holds _ (c.append.ensures.any_moment tells c.requires.0)

pub returns-in-Ok-clause-grown : goal.returns-in-Ok-clause-grown
returns-in-Ok-clause-grown g c tells r k calm holds = append_grown c.args.self.now c.args.framed.of_note _ c.as_slice.ensures r k calm holds _ (c.append.ensures.grows tells)

pub returns-in-Err-clause-grown : goal.returns-in-Err-clause-grown
returns-in-Err-clause-grown g c tells r k calm holds = append_grown c.args.self.now c.args.framed.of_note _ c.as_slice.ensures r k calm holds _ (c.append.ensures.grows tells)

pub returns-in-Ok-clause-plan : goal.returns-in-Ok-clause-plan
returns-in-Ok-clause-plan g c planned = meets g.D.Disk.stops g.D.Disk.made g.D.Disk.faults 4 false false _ _ refl (c.in-Ok.ensures.plan (g.met.D.Disk.plan_told planned) c.requires.0)

pub returns-in-Err-clause-plan : goal.returns-in-Err-clause-plan
returns-in-Err-clause-plan g c planned = meets g.D.Disk.stops g.D.Disk.made g.D.Disk.faults 4 true true _ _ refl (c.in-Err.ensures.plan (g.met.D.Disk.plan_told planned) c.requires.0)
