-- What one entry changes.
use Rattle.std.proofs.Common.{◌⊎◌, inl, inr, length-append, arith, refl, ◌≡◌, ◌≢◌, ℕ, ◌+◌, ◌<◌, ◌≤◌, List, [], ◌∷◌, ◌++◌, length, get_or, set, if◌then◌else◌, sym, ap, ◌∙◌, subst, get_or-set_other, get_or-set_same, eq-eqb, ne_eqb}
use Rattle.std.specs.Prelude.{sum_by}
use Rattle.air_bus.proofs.Words.{dite, ℕ_discrete, fold_push, sum_by-set, get_or-le-sum_by, Entry, Phase, Down, Busy, Kind, PlanView, open_of, MayFollow, IsAired, node_of, phase_after, phase_step, phase}

pub phase_here : (h : List Entry) (e : Entry) (n : ℕ) → node_of e ≡ n → phase n (h ++ e ∷ []) ≡ phase_after e
phase_here h e n is = fold_push (phase_step n) Down h e ∙ ap (λ b. if b then phase_after e else phase n h) (eq-eqb _ _ is)

pub phase_else : (h : List Entry) (e : Entry) (n : ℕ) → node_of e ≢ n → phase n (h ++ e ∷ []) ≡ phase n h
phase_else h e n not = fold_push (phase_step n) Down h e ∙ ap (λ b. if b then phase_after e else phase n h) (ne_eqb _ _ not)

pub phases_kept : (ps : List Phase) (h : List Entry) (e : Entry) (at : ℕ) (p : Phase) → at < length ps → node_of e ≡ at → phase_after e ≡ p
    → ((n : ℕ) → get_or ps n Down ≡ phase n h) → (n : ℕ) → get_or (set ps at p) n Down ≡ phase n (h ++ e ∷ [])
phases_kept ps h e at p inside is after kept n = dite (ℕ_discrete n at)
    (λ same. ap (λ k. get_or (set ps at p) k Down) same ∙ get_or-set_same ps at p Down inside ∙ sym after ∙ sym (phase_here h e n (is ∙ sym same)))
    (λ other. get_or-set_other ps at n p Down other ∙ kept n ∙ sym (phase_else h e n (λ same. other (sym same ∙ is))))

-- a node that is not known has no entry
pub open_set : (ps : List Phase) (at : ℕ) (p q : Phase) → at < length ps → get_or ps at Down ≡ q → sum_by open_of (set ps at p) + open_of q ≡ sum_by open_of ps + open_of p
open_set ps at p q inside is = subst (λ r. sum_by open_of (set ps at p) + open_of r ≡ sum_by open_of ps + open_of p) is (sum_by-set open_of ps at p Down inside)

-- an entry is the last, or stands among those before
split_last : (h before after : List Entry) (l e : Entry) → h ++ l ∷ [] ≡ before ++ e ∷ after → ((h ≡ before) × (l ≡ e)) ⊎ ((rest : List Entry) × (h ≡ before ++ e ∷ rest))
split_last [] [] after l e is = inl (refl, cc is)
split_last [] (b ∷ before) after l e is = absurd (omega (arith, ap length is, length-append before (e ∷ after)))
split_last (x ∷ h) [] after l e is = inr (h, ap (λ y. y ∷ h) (cc is))
split_last (x ∷ h) (b ∷ before) after l e is = grind (arith, split_last h before after l e)

pub aired_more : (plan : PlanView) (kinds : List Kind) (h more : List Entry) (l : Entry) → IsAired plan kinds h → MayFollow plan kinds h l → more ≡ h ++ l ∷ [] → IsAired plan kinds more
aired_more plan kinds h more l aired may is = grind (arith, split_last)

pub aired_none : (plan : PlanView) (kinds : List Kind) (h : List Entry) → h ≡ [] → IsAired plan kinds h
aired_none plan kinds h is = record { follows = λ before after e at. absurd (omega (arith, ap length is, ap length at, length-append before (e ∷ after))) }

pub not_open : (p : Phase) → p ≢ Busy → open_of p ≡ 0
not_open p ne = grind arith

-- an open turn is counted
pub busy_counts : (ps : List Phase) (at : ℕ) → at < length ps → get_or ps at Down ≡ Busy → 1 ≤ sum_by open_of ps
busy_counts ps at inside is = omega (arith, get_or-le-sum_by open_of ps at Down inside, ap open_of is)
