use Rattle.std.proofs.Common.{refl}
use Rattle.serde_json.proofs.OnLiterals.{serde_json_on_literals}
use Rattle.lossy_link.proofs.rows.plans.Goals as goal

pub returns : goal.returns
unfolding serde_json_on_literals
returns c = record {
  answer_dropped = refl;
  sent_twice = refl;
  torn_body = refl;
  kept_gate = refl;
  one_dead = refl;
  two_dead = refl;
  last_counts = refl;
  no_point = refl;
  no_minus_zero = refl;
  other_key = refl;
  no_eighth_disk = refl;
  second_rule = refl;
}
