use Rattle.std.proofs.Common.{arith}
use Rattle.verify_pass.proofs.Words.{group_in}
use Rattle.verify_pass.proofs.Groups.{ends_keep}
use Rattle.verify_pass.proofs.chosen.Chosen.keep.Goals as goal

pub returns-clause-last : goal.returns-clause-last
returns-clause-last c = λ h.
    let old = c.args.self.now in
    ends_keep (group_in old.groups) (group_in c.join.new.groups) old.last c.max-self.result c.args.place c.args.one c.in_ok-join.ensures (omega arith) (omega arith) h
