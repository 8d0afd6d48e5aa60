-- Worked plans, from their texts, and worked fates.
use Rattle.std.specs.Prelude.{◌≡◌, List, ℕ, [], ◌∷◌, Option, Some, None, option_map, codes}
use Rattle.serde_json.specs.Read.{read}
use Rattle.lossy_link.specs.declared.plan.Kind.{Kind}
use Rattle.lossy_link.specs.declared.plan.Kind.TheVariants.{Dispatcher, Joiner, Server, Replica}
use Rattle.lossy_link.specs.declared.plan.Fate.{Fate}
use Rattle.lossy_link.specs.declared.plan.Fate.TheVariants.{Deliver, Drop, Twice, Late}
use Rattle.lossy_link.specs.declared.plan.DiskKind.TheVariants.{Output}
use Rattle.outside.specs.declared.image.Image.{Image}
use Rattle.outside.specs.declared.image.Image.TheVariants.{New, Noise}
use Rattle.lossy_link.specs.declared.plan.Rule.{Rule}
use Rattle.lossy_link.specs.declared.bad_plan.Field.TheVariants.{Dead, Rules, Stops, Top}
use Rattle.lossy_link.specs.Fates.{PlanView, fate_of}
use Rattle.lossy_link.specs.Outcome.{Outcome, bad, good}
use Rattle.lossy_link.specs.Plans.{plan_of}

abbrev pub plan_text : List ℕ → Option (Outcome PlanView)
plan_text text = option_map plan_of (read text)

abbrev pub rules_alone : List Rule → PlanView
rules_alone rules = record { rules = rules; stops = []; dead = None }

abbrev pub every_output : ℕ → Image → PlanView
every_output call image = record {
  rules = [];
  stops = record { disk = Output; which = None; call = call; image = image } ∷ [];
  dead = None;
}

abbrev pub first_answer_dropped : Rule
first_answer_dropped = record { from = Some Server; to = Some Joiner; first = 0; count = 1; every = 1; fate = Drop }

abbrev pub all_twice : Rule
all_twice = record { from = None; to = None; first = 0; count = 1000; every = 1; fate = Twice 3 }

abbrev pub dead_replica : ℕ → PlanView
dead_replica replica = record { rules = []; stops = []; dead = Some replica }

pub record PlansAreRead : Type 0 where
  pub answer_dropped : plan_text (codes "{\"rules\":[{\"from\":\"server\",\"to\":\"joiner\",\"first\":0,\"count\":1,\"fate\":\"drop\"}]}") ≡ Some (good (rules_alone (first_answer_dropped ∷ [])))
  pub sent_twice : plan_text (codes "{\"rules\":[{\"from\":\"any\",\"to\":\"any\",\"first\":0,\"count\":1000,\"fate\":\"twice\",\"by\":3}]}") ≡ Some (good (rules_alone (all_twice ∷ [])))
  pub torn_body : plan_text (codes "{\"stops\":[{\"disk\":\"output\",\"which\":\"all\",\"call\":3,\"image\":\"noise\"}]}") ≡ Some (good (every_output 3 Noise))
  pub kept_gate : plan_text (codes "{\"stops\":[{\"disk\":\"output\",\"which\":\"all\",\"call\":5,\"image\":\"new\"}]}") ≡ Some (good (every_output 5 New))
  pub one_dead : plan_text (codes "{\"dead\":[1]}") ≡ Some (good (dead_replica 1))
  pub two_dead : plan_text (codes "{\"dead\":[0,1]}") ≡ Some (bad Dead)
  pub last_counts : plan_text (codes "{\"dead\":7,\"dead\":[1]}") ≡ Some (good (dead_replica 1))
  pub no_point : plan_text (codes "{\"dead\":[1.0]}") ≡ Some (bad Dead)
  pub no_minus_zero : plan_text (codes "{\"dead\":[-0]}") ≡ Some (bad Dead)
  pub other_key : plan_text (codes "{\"x\":[]}") ≡ Some (bad Top)
  pub no_eighth_disk : plan_text (codes "{\"stops\":[{\"disk\":\"output\",\"which\":8,\"call\":0,\"image\":\"old\"}]}") ≡ Some (bad (Stops 0))
  pub second_rule : plan_text (codes "{\"rules\":[{\"from\":\"any\",\"to\":\"any\",\"first\":0,\"count\":0,\"fate\":\"late\"},1]}") ≡ Some (bad (Rules 1))

-- ---- fates

-- from the third packet on each second one, three of them
abbrev pub some_late : Rule
some_late = record { from = Some Replica; to = None; first = 2; count = 3; every = 2; fate = Late 5 }

abbrev pub fate_at : Kind → Kind → ℕ → Fate
fate_at = fate_of (first_answer_dropped ∷ some_late ∷ all_twice ∷ [])

pub record FatesAreDecided : Type 0 where
  pub no_rule : fate_of [] Dispatcher Joiner 0 ≡ Deliver
  pub first_fits : fate_at Server Joiner 0 ≡ Drop
  pub one_alone : fate_at Server Joiner 1 ≡ Twice 3
  pub not_the_other_way : fate_at Joiner Server 0 ≡ Twice 3
  pub too_early : fate_at Replica Server 1 ≡ Twice 3
  pub first_late : fate_at Replica Server 2 ≡ Late 5
  pub between : fate_at Replica Server 3 ≡ Twice 3
  pub last_late : fate_at Replica Joiner 6 ≡ Late 5
  pub past_its_count : fate_at Replica Server 8 ≡ Twice 3
  pub past_all_counts : fate_at Dispatcher Joiner 1000 ≡ Deliver
