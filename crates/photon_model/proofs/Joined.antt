-- The worked run, entry by entry.
use Rattle.std.proofs.Common.{◌++◌, arith}
use Rattle.photon_model.proofs.Words.{worked, IsRun, world_after}
use Rattle.photon_model.specs.Example.{entries, registers, writes, other_site, asked, ClickIsJoined}
use Rattle.photon_model.proofs.Worlds.{run_append, of_two}

other_run : IsRun worked (world_after worked asked (entries (registers ++ writes))) (entries other_site)
other_run = grind arith

-- and two sites
pub click_is_joined : ClickIsJoined
click_is_joined = grind (arith, run_append, other_run, of_two)
