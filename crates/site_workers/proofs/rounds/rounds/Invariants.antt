use Rattle.std.proofs.Common.{◌≡◌}
use Rattle.site_workers.proofs.Words.{AllWentOn}
use Rattle.site_workers.proofs.rounds.rounds.Given as goal

abbrev pub invariant-loop : goal.invariant-loop
invariant-loop g l =
    let m = g.N.SiteNode in
    AllWentOn m l.initial.workers l.workers
    × (l.last.bus ≡ l.initial.last.bus)
    × (l.last.number ≡ l.initial.last.number)
