use Rattle.std.proofs.Common.{rules, ◌+◌, ◌%◌, ◌^◌}
use Rattle.std.specs.Prelude.{◌-◌}
use Rattle.bus_seat.proofs.Moves.{counts_waiting}
use Rattle.bus_seat.proofs.bus.Bus.wait.Goals as goal

pub fetch_add-requires : goal.fetch_add-requires
fetch_add-requires g c = (search rules, search rules, counts_waiting _ _ _ _ (λ n. (n + 1) % 2 ^ 64))

pub fetch_sub-requires : goal.fetch_sub-requires
fetch_sub-requires g c = (search rules, search rules, counts_waiting _ _ _ _ (λ n. (n + (2 ^ 64 - 1)) % 2 ^ 64))
