-- What was read, or the first bad place.
use Rattle.std.specs.Prelude.{◌≡◌, Option, Some, None, ⊤}
use Rattle.lossy_link.specs.declared.bad_plan.BadPlan.{BadPlan}
use Rattle.lossy_link.specs.declared.bad_plan.BadPlan.TheVariants.{At, Memory}
use Rattle.lossy_link.specs.declared.bad_plan.Field.{Field}
use Rattle.lossy_link.specs.declared.bad_plan.Field.TheVariants as field

pub data Outcome (A : Type 0) : Type 0 where
  good : A → Outcome A
  bad : Field → Outcome A

abbrev pub go_on : {A B : Type 0} → Outcome A → (A → Outcome B) → Outcome B
go_on (good x) f = f x
go_on (bad e) f = bad e

abbrev pub or_top : {A B : Type 0} → Option A → (A → Outcome B) → Outcome B
or_top None f = bad field.Top
or_top (Some x) f = f x

-- memory ran out, or this is the first bad place
abbrev pub IsFaultOf : {A : Type 0} → Outcome A → BadPlan → Type 0
IsFaultOf o Memory = ⊤
IsFaultOf o (At e) = o ≡ bad e
