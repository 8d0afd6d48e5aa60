-- Bytes have one outcome.
use Rattle.std.proofs.Common.{◌≡◌, ◌≤◌, ◌⊎◌, ℕ, List, length, Result, Ok, Err, sym, arith}
use Rattle.std.specs.Prelude.{IfOk, IfErr, MatchResult}
use Rattle.serde_json.specs.Data.{Data}
use Rattle.serde_json.specs.Read.{read}
use Rattle.lossy_link.specs.declared.bad_plan.BadPlan.{BadPlan}
use Rattle.lossy_link.specs.declared.bad_plan.BadPlan.TheVariants.{At, Memory}
use Rattle.lossy_link.specs.declared.bad_plan.Field.{Field}
use Rattle.lossy_link.specs.Fates.{PlanView}
use Rattle.lossy_link.specs.Outcome.{IsFaultOf, Outcome, good}
use Rattle.lossy_link.specs.Plans.{HasOutcome, IsFault, IsFirstBad, IsPlanOf, IsTextOf, a_value, plan_of, size_limit}

-- ---- what a read comes to

pub plan_of_value : (bytes : List ℕ) (d : Data) (r : Result PlanView BadPlan) → length bytes ≤ size_limit → IsTextOf bytes d → IfOk r (λ p. plan_of d ≡ good p) → IfOk r (IsPlanOf bytes)
plan_of_value bytes d (Ok p) le text is = a_value d le text (sym is)
plan_of_value bytes d (Err b) le text is = tt

pub fault_of_value : (bytes : List ℕ) (d : Data) (r : Result PlanView BadPlan) → length bytes ≤ size_limit → IsTextOf bytes d → IfErr r (IsFaultOf (plan_of d)) → IfErr r (IsFault bytes)
fault_of_value bytes d (Err (At e)) le text is = a_value d le text (sym is)
fault_of_value bytes d _ le text is = tt

-- ---- there is one outcome

pub one_outcome : (bytes : List ℕ) (o o' : Outcome PlanView) → HasOutcome bytes o → HasOutcome bytes o' → o ≡ o'
one_outcome bytes o o' h k = grind arith

pub only_plan : (bytes : List ℕ) (r : Result PlanView BadPlan) → IfOk r (IsPlanOf bytes) → IfErr r (IsFault bytes)
    → (p : PlanView) → IsPlanOf bytes p → MatchResult r (λ q. q ≡ p) (λ b. b ≡ Memory)
only_plan bytes h ok err p is = grind arith

pub only_place : (bytes : List ℕ) (r : Result PlanView BadPlan) → IfOk r (IsPlanOf bytes) → IfErr r (IsFault bytes)
    → (e : Field) → IsFirstBad bytes e → MatchResult r (λ _. ⊥) (λ b. (b ≡ At e) ⊎ (b ≡ Memory))
only_place bytes h ok err e is = grind arith
