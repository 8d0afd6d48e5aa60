use Rattle.site_workers.proofs.Words.{WentOn}
use Rattle.site_workers.proofs.rounds.fn.rounds.for_each_mut.Given as goal

abbrev pub invariant-loop : goal.invariant-loop
invariant-loop g l = WentOn g.N.SiteNode l.initial.one l.one
