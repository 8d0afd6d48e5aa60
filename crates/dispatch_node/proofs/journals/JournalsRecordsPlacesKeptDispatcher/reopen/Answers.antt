use Rattle.std.proofs.Common.{rules, not, ap, ◌∙◌, subst}
use Rattle.dispatch_node.proofs.Words.{DispatcherKept, IsKept}
use Rattle.dispatch_node.proofs.Disks.{landed_as}
use Rattle.dispatch_node.proofs.journals.JournalsRecordsPlacesKeptDispatcher.reopen.Goals as goal

pub returns-in_err-reopen_both-clause-whole : goal.returns-in_err-reopen_both-clause-whole
returns-in_err-reopen_both-clause-whole g c tells k with d = let whole = c.in_err-reopen_both.ensures.whole tells k with d in search rules

pub returns-in-Some-clause-left : goal.returns-in-Some-clause-left
returns-in-Some-clause-left g c tells k with d =
    let e = c.in_ok-reopen_both.ensures in
    let holds = landed_as _ _ k with c.in-Some.note _ d (e.ok.1 tells) e.ok.0 (e.opened tells).in_doubt c.in-Some.is (ap not c.takes-takes.ensures.is) in
    (subst (λ (x : DispatcherKept). IsKept x c.in_ok-held.held.offset c.in_ok-held.held.pending.items) holds.is c.in_ok-held.ensures, holds)

pub returns-in-None-clause-left : goal.returns-in-None-clause-left
returns-in-None-clause-left g c tells k with d = let last = (c.in_ok-reopen_both.ensures.opened tells).in_doubt ∙ d.in_doubt in let none = c.in-None.is in absurd (cc (last, none))
