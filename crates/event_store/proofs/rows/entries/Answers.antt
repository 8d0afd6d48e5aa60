use Rattle.std.proofs.Common.{refl}
use Rattle.event_store.proofs.rows.entries.Goals as goal

pub returns : goal.returns
returns c = record {
  no_line = refl;
  refused = refl;
  one = refl;
  sixteen = refl;
  seventeen = refl;
  forty = refl;
  out_of_order = refl;
  that_again = refl;
  another = refl;
  last_again = refl;
  other_process = refl;
  refused_between = refl;
}
