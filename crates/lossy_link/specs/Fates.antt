-- A plan as contracts see it, and what it does to the packets of a link.
use Rattle.std.specs.Prelude.{◌-◌, ◌%◌, ◌/◌, ◌==◌, ◌&&◌, ℕ, Bool, true, false, List, Option, nat_le, nat_lt, find}
use Rattle.std.specs.Option.{option_map_or}
use Rattle.lossy_link.specs.declared.plan.Kind.{Kind}
use Rattle.lossy_link.specs.declared.plan.Kind.TheVariants.{Dispatcher, Joiner, Server, Replica}
use Rattle.lossy_link.specs.declared.plan.Fate.{Fate}
use Rattle.lossy_link.specs.declared.plan.Fate.TheVariants.{Deliver}
use Rattle.lossy_link.specs.declared.plan.Rule.{Rule}
use Rattle.lossy_link.specs.declared.plan.PlanStop.{PlanStop}

pub record PlanView : Type 0 where
  pub rules : List Rule
  pub stops : List PlanStop
  pub dead : Option ℕ

abbrev pub same_kind : Kind → Kind → Bool
same_kind Dispatcher Dispatcher = true
same_kind Joiner Joiner = true
same_kind Server Server = true
same_kind Replica Replica = true
same_kind _ _ = false

-- a rule without a kind is for any
abbrev pub kind_fits : Option Kind → Kind → Bool
kind_fits wanted kind = option_map_or (λ k. same_kind k kind) wanted true

-- from `first` on, each `every`th ordinal, `count` of them
abbrev pub ordinal_fits : Rule → ℕ → Bool
ordinal_fits r o = nat_le r.first o && ((o - r.first) % r.every == 0 && nat_lt ((o - r.first) / r.every) r.count)

abbrev pub fits : Rule → Kind → Kind → ℕ → Bool
fits r from to o = kind_fits r.from from && (kind_fits r.to to && ordinal_fits r o)

-- the first rule that fits decides; where none fits the packet is delivered
abbrev pub fate_of : List Rule → Kind → Kind → ℕ → Fate
fate_of rules from to o = option_map_or (λ r. r.fate) (find (λ r. fits r from to o) rules) Deliver
