use Rattle.std.proofs.Common.{◌≡◌}
use Rattle.run_tests.proofs.site_workers_tests.work.Given as goal

abbrev pub invariant-loop : goal.invariant-loop
invariant-loop g l = l.worker.seat.bus ≡ l.initial.worker.seat.bus
