use Rattle.std.proofs.Common.{refl}
use Rattle.paxos_defs.specs.Decided.{decided}
use Rattle.photon_model.proofs.laws.worked_rows.Goals as goal

pub returns : goal.returns
returns c = record { shows_j = unfold decided in refl; shows_m = unfold decided in refl; shows_x = unfold decided in refl; shows_u = unfold decided in refl; two_of_three = unfold decided in refl; one_of_three = unfold decided in refl; three_of_five = unfold decided in refl; two_of_five = unfold decided in refl; other_shard = unfold decided in refl }
