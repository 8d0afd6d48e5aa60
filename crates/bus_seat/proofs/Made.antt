-- The entries of one node in a history, and where they leave it.
use Rattle.std.proofs.Common.{◌≡◌, ◌≢◌, ℕ, fold, Bool, true, false, List, [], ◌∷◌, ◌++◌, cond, if◌then◌else◌, refl, ap, ◌∙◌, eq-eqb, ne_eqb, append-nil}
use Rattle.bus_seat.proofs.Words.{Down, Entry, filter-append, is_of, made_by, node_of, phase, phase_after, phase_step}
use Rattle.air_bus.specs.declared.entry.Phase.{Phase}

pub made_here : (h : List Entry) (e : Entry) (n : ℕ) → node_of e ≡ n → made_by n (h ++ e ∷ []) ≡ made_by n h ++ e ∷ []
made_here h e n is = filter-append (is_of n) h (e ∷ []) ∙ ap (λ b. made_by n h ++ (if b then e ∷ [] else [])) (eq-eqb _ _ is)

pub made_else : (h : List Entry) (e : Entry) (n : ℕ) → node_of e ≢ n → made_by n (h ++ e ∷ []) ≡ made_by n h
made_else h e n not = filter-append (is_of n) h (e ∷ []) ∙ ap (λ b. made_by n h ++ (if b then e ∷ [] else [])) (ne_eqb _ _ not) ∙ append-nil (made_by n h)

made_from : (n : ℕ) (p : Phase) (h : List Entry) → fold (phase_step n) p (made_by n h) ≡ fold (phase_step n) p h
made_from n p [] = refl
made_from n p (e ∷ es) = by (is_of n e) refl (made_from n (phase_after e) es) (made_from n p es)
  where
    by : (b : Bool) → is_of n e ≡ b → fold (phase_step n) (phase_after e) (made_by n es) ≡ fold (phase_step n) (phase_after e) es → fold (phase_step n) p (made_by n es) ≡ fold (phase_step n) p es
        → fold (phase_step n) p (cond b (e ∷ made_by n es) (made_by n es)) ≡ fold (phase_step n) (if b then phase_after e else p) es
    by true is here past = ap (λ b. fold (phase_step n) (if b then phase_after e else p) (made_by n es)) is ∙ here
    by false is here past = past

-- where a node stands hangs on its own entries alone
pub phase_made : (n : ℕ) (h : List Entry) → phase n (made_by n h) ≡ phase n h
phase_made n h = made_from n Down h
