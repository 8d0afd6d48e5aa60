use Rattle.std.proofs.Common.{◌≡◌, ℕ, length, get_or}
use Rattle.std.specs.Prelude.{sum_by}
use Rattle.air_bus.proofs.Words.{Down, open_of}
use Rattle.air_bus.proofs.nodes.all_down.Given as goal

abbrev pub invariant-loop : goal.invariant-loop
invariant-loop l = record {
  many : length l.phases.items ≡ l.counter;
  down : (n : ℕ) → get_or l.phases.items n Down ≡ Down;
  none_open : sum_by open_of l.phases.items ≡ 0;
}
