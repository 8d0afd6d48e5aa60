-- Places of the log in what a dispatcher knows, as it changes.
use Rattle.std.proofs.Common.{◌≡◌, inr, ⊎_elim, ℕ, true, false, not, ◌&&◌, ◌==◌, List, [], ◌∷◌, ◌++◌, refl, subst, arith}
use Rattle.dispatch_node.proofs.Words.{and_parts, or_cases, eqb-true, Each, has, without, clash, has_push-or, has_without-true, IsBoundary, at_mem, Setting, Fresh, done_end, after_done, waits, mark, StartsAt, IsEntry}

-- ---- the window

boundary_of : (g : Setting) (f : Fresh) → IsEntry g f → IsBoundary g.clicks f.end_
boundary_of g f is = inr (record { place = f.position; end_ = f.end_; click = f.click }, (at_mem g.clicks f.position _ is).0, refl)

pub end_boundary : (g : Setting) (e : ℕ) (fs : List Fresh) → IsBoundary g.clicks e → Each (IsEntry g) fs → IsBoundary g.clicks (done_end e fs)
end_boundary g e [] b each = b
end_boundary g e (f ∷ fs) b each = grind (arith, boundary_of, end_boundary g f.end_ fs)

pub after_each : (g : Setting) (fs : List Fresh) → Each (IsEntry g) fs → Each (IsEntry g) (after_done fs)
after_each g [] each = tt
after_each g (f ∷ fs) each = grind (arith, after_each g fs each.1)

pub mark_each : (g : Setting) (fs : List Fresh) (p : ℕ) → Each (IsEntry g) fs → Each (IsEntry g) (mark fs p)
mark_each g [] p each = tt
mark_each g (f ∷ fs) p each = grind (arith, mark_each g fs p each.1)

-- where an entry waits a line starts
pub waits_start : (g : Setting) (fs : List Fresh) (p : ℕ) → Each (IsEntry g) fs → waits fs p ≡ true → StartsAt g p
waits_start g [] p each e = clash false e refl
waits_start g (f ∷ fs) p each e =
    ⊎_elim
    (λ here. subst (StartsAt g) (eqb-true f.position p (and_parts (f.position == p) (not f.done) here).0) (record { place = f.position; end_ = f.end_; click = f.click }, each.0))
    (λ later. waits_start g fs p each.1 later)
    (or_cases ((f.position == p) && not f.done) (waits fs p) e)

-- ---- positions

pub pushed : (g : Setting) (ps : List ℕ) (p : ℕ) → ((q : ℕ) → has ps q ≡ true → StartsAt g q) → StartsAt g p → (q : ℕ) → has (ps ++ p ∷ []) q ≡ true → StartsAt g q
pushed g ps p each here q h = ⊎_elim (λ old. each q old) (λ new. subst (StartsAt g) new here) (has_push-or ps p q h)

pub left_out : (g : Setting) (ps : List ℕ) (p : ℕ) → ((q : ℕ) → has ps q ≡ true → StartsAt g q) → (q : ℕ) → has (without ps p) q ≡ true → StartsAt g q
left_out g ps p each q h = each q (has_without-true ps p q h).0
