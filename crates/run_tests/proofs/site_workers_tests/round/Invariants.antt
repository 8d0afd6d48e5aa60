use Rattle.std.proofs.Common.{◌≡◌, length}
use Rattle.run_tests.specs.Puppets.{AreReady}
use Rattle.run_tests.specs.declared.site_workers_tests.Puppet.{Puppet}
use Rattle.run_tests.proofs.site_workers_tests.round.Given as goal

abbrev pub invariant-loop-number : goal.invariant-loop-number
invariant-loop-number l = AreReady (λ (n : Puppet). n.number) (λ (n : Puppet). n.waits) l.nodes.items × (length l.nodes.items ≡ l.number)
