use Rattle.std.proofs.Common.{◌≡◌, ◌≤◌, ◌-◌, ◌^◌, length, sym, ap, arith}
use Rattle.replica_node.proofs.Words.{meets}
use Rattle.replica_node.proofs.Standing.{opened_keeps, undamaged, tells_landed}
use Rattle.replica_node.proofs.vote_records.VoteRecordsRecordsVotesKeptVoter.reopen.Goals as goal

pub returns-in-Ok-clause-left : goal.returns-in-Ok-clause-left
returns-in-Ok-clause-left g c tells k with d =
    let e = c.in-Ok.ensures in
    let notes = c.in-Ok.votes.notes in
    let count = length c.notes.result.now in
    let many : count ≡ length notes.items = ap length c.notes.ensures in
    let fits : count ≤ 2 ^ 64 - 1 = omega (arith, many, notes.ok) in
    let told = tells_landed c.args.self.now k with d notes.items count (e.left tells) many fits in
    (told, record { ready = e.ready; notes = notes.items; is = sym told; keeps = e.kept tells; count = omega (arith, many, fits) })

pub returns-in-Ok-clause-moments : goal.returns-in-Ok-clause-moments
returns-in-Ok-clause-moments g c tells k with d bytes left = opened_keeps _ k with d bytes ((c.reopen_bare.ensures.any_moment tells).each bytes left)

pub returns-in-Err-clause-moments : goal.returns-in-Err-clause-moments
returns-in-Err-clause-moments g c tells k with d bytes left = opened_keeps _ k with d bytes ((c.reopen_bare.ensures.any_moment tells).each bytes left)

pub returns-in-Err-clause-whole : goal.returns-in-Err-clause-whole
returns-in-Err-clause-whole g c tells k with d = c.fault_of.ensures.whole (undamaged _ k with d _ _ c.in-Err.fault tells c.in-Err.ensures.err)

pub returns-in-Err-clause-plan : goal.returns-in-Err-clause-plan
returns-in-Err-clause-plan g c planned = meets g.D.Disk.stops g.D.Disk.made g.D.Disk.faults 3 _ _ _ _ c.fault_of.ensures.shut (c.in-Err.ensures.plan planned)
