use Rattle.std.proofs.Common.{sym, subst}
use Rattle.run_tests.specs.Puppets.{AreReady}
use Rattle.run_tests.proofs.Adding.{one_more}
use Rattle.run_tests.proofs.site_workers_tests.add.Goals as goal

pub returns-clause-ready : goal.returns-clause-ready
returns-clause-ready g c = subst (AreReady _ _) (sym c.in_ok-push.ensures.items) (one_more _ _ c.args.nodes.now.items c.args.node c.requires.ready c.requires.number c.requires.up)
