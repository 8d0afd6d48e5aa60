-- What planned stops of its disks do to a node.
use Rattle.std.proofs.Common.{◌≡◌, ℕ, zero, suc, ◌+◌, Bool, true, false, refl, ap, arith}
use Rattle.outside.specs.Plans.{AtMost, MeetsPlan}
use Rattle.outside.proofs.Plans.{fewer, same_plan}
use Rattle.site_node.specs.Faults.{MeetsStops, MeetsBoth}

-- nothing was met, and then more calls
pub then_more : (met : Bool) (old mid new : ℕ → Type 0) (before between after : ℕ) → MeetsStops false old mid before between → MeetsStops met mid new between after → MeetsStops met old new before after
then_more h old mid new before between after a b = grind arith

-- Here met says whether a stop was met by the clause of a call, and told whether one was by the answer that was made of it.
module _ {D : Type 0} (stops : D → ℕ → Bool) (made faults : D → ℕ) (most : ℕ) where
  one : (met : Bool) (old new : D) → MeetsPlan stops made faults most met old new → MeetsStops met (AtMost (stops old) (made old)) (AtMost (stops new) (made new)) (faults old) (faults new)
  one false old new so = ((λ k few. same_plan k (made new) (stops old) (stops new) so.same (fewer (stops old) k (made old) (made new) so.later few)), so.tally)
  one true old new so = past
    where
      past : (k : ℕ) → AtMost (stops old) (made old) k → (left : ℕ) × (k ≡ left + 1) × AtMost (stops new) (made new) left
      past zero few = let stop = so.cause refl in absurd (few stop.0 stop.1 stop.3)
      past (suc k) few = let stop = so.cause refl in
          (k, omega arith, same_plan k (made new) (stops old) (stops new) so.same (fewer (stops old) k (stop.0 + 1) (made new) (omega (arith, stop.2)) (few stop.0 stop.1 stop.3)))

  -- a node of one disk
  pub meets : (met told : Bool) (old new : D) → met ≡ told → MeetsPlan stops made faults most met old new → MeetsStops told (AtMost (stops old) (made old)) (AtMost (stops new) (made new)) (faults old) (faults new)
  meets met told old new is so = rw (← is) (one met old new so)

  -- the first of a node's two disks, or the second
  pub first_meets : (met told : Bool) (old new other same : D) → met ≡ told → same ≡ other → MeetsPlan stops made faults most met old new → MeetsBoth stops made faults told old other new same
  first_meets met told old new other same is stays so = rw stays (by told (meets met told old new is so))
    where
      by : (told : Bool) → MeetsStops told (AtMost (stops old) (made old)) (AtMost (stops new) (made new)) (faults old) (faults new) → MeetsBoth stops made faults told old other new other
      by false m = ((λ k few. (few.0, few.1, m.0 few.0 few.2, few.3, few.4)), ap (λ (n : ℕ). n + faults other) m.1)
      by true m = λ k few. let past = m few.0 few.2 in (past.0 + few.1, omega (arith, past.1, few.4), (past.0, few.1, past.2, few.3, refl))

  pub second_meets : (met told : Bool) (other same old new : D) → met ≡ told → same ≡ other → MeetsPlan stops made faults most met old new → MeetsBoth stops made faults told other old same new
  second_meets met told other same old new is stays so = rw stays (by told (meets met told old new is so))
    where
      by : (told : Bool) → MeetsStops told (AtMost (stops old) (made old)) (AtMost (stops new) (made new)) (faults old) (faults new) → MeetsBoth stops made faults told other old other new
      by false m = ((λ k few. (few.0, few.1, few.2, m.0 few.1 few.3, few.4)), ap (λ (n : ℕ). faults other + n) m.1)
      by true m = λ k few. let past = m few.1 few.3 in (few.0 + past.0, omega (arith, past.1, few.4), (few.0, past.0, few.2, past.2, refl))

module _ {D : Type 0} (stops : D → ℕ → Bool) (made faults : D → ℕ) where
  -- both, the first before the second
  pub one_by_one : (most : ℕ) (met told : Bool) (a b a_new b_new : D) → met ≡ told → MeetsPlan stops made faults most false a a_new → MeetsPlan stops made faults most met b b_new → MeetsBoth stops made faults told a b a_new b_new
  one_by_one most met told a b a_new b_new is first next =
      let before : MeetsBoth stops made faults false a b a_new b = first_meets stops made faults most false false a a_new b b refl refl first in
      then_more told _ _ _ _ _ _ before (second_meets stops made faults most met told a_new a_new b b_new is refl next)
