-- What one change of a map leaves at each key.
use Rattle.std.proofs.Common.{◌≡◌, ℕ, ◌+◌, Bool, true, false, cond, Option, Some, None, is_some, IsSome, IfSome, IfNone, Result, Ok, Err, IfOk, OnErr, unwrap_or, refl, sym, ap, ◌∙◌, subst, arith, is_eq}
use Rattle.std.specs.BTreeMap as tree
use Rattle.std.specs.declared.alloc.AllocError.{AllocError}
use Rattle.event_store.proofs.Words.{nat_tests, Process, Progress, same_key, key_cmp, progress_at, admits, HasCounted, HasStayed}
use Rattle.event_store.proofs.Orders.{keys_one}

pub key_flips : (p q : Process) → same_key p q ≡ same_key q p
key_flips p q = grind (arith, nat_tests)

pub no_value : {A : Type 0} (o : Option A) → is_some o ≡ false → o ≡ None
no_value o e = grind arith

-- keys that compare as equal are one
pub key_eq : (p q : Process) → is_eq (key_cmp p q) ≡ same_key p q
key_eq p q = grind (arith, nat_tests)

-- ---- a process with one line more

abbrev Map : Type 0
Map = tree.BTreeMap Process Progress

abbrev at : Map → Process → Option Progress
at = tree.get key_cmp

abbrev fresh : Progress
fresh = record { lines = 0; last = 0 }

spread : (t : Bool) (g : Progress) (o : Option Progress) → unwrap_or (cond t (Some g) o) fresh ≡ cond t g (unwrap_or o fresh)
spread true g o = refl
spread false g o = refl

abbrev Puts : Map → Map → Process → Progress → Type 0
Puts old new own g = (p : Process) → at new p ≡ cond (is_eq (key_cmp own p)) (Some g) (at old p)

moved : (old new : Map) (own : Process) (g : Progress) → Puts old new own g → (p : Process) → progress_at new p ≡ cond (same_key p own) g (progress_at old p)
moved old new own g put p = ap (λ (o : Option Progress). unwrap_or o fresh) (put p) ∙ ap (λ (t : Bool). unwrap_or (cond t (Some g) (at old p)) fresh) (key_eq own p ∙ key_flips own p) ∙ spread (same_key p own) g (at old p)

-- the value that a process has, put there once more
pub stays_put : (old : Map) (own : Process) (g : Progress) → g ≡ progress_at old own → (p : Process) → cond (same_key p own) g (progress_at old p) ≡ progress_at old p
stays_put old own g is p = here (same_key p own) refl
  where
    here : (t : Bool) → same_key p own ≡ t → cond t g (progress_at old p) ≡ progress_at old p
    here true e = is ∙ ap (λ (q : Process). progress_at old q) (sym (keys_one p own e))
    here false e = refl

some_is : (old : Map) (own : Process) (g : Progress) → at old own ≡ Some g → progress_at old own ≡ g
some_is old own g e = ap (λ (o : Option Progress). unwrap_or o fresh) e

module _ (old new : Map) (own : Process) (micros : ℕ) (before after : Progress) (had : at old own ≡ Some before) (put : Puts old new own after) where
  pub counted_on : at new own ≡ Some after → (r : Result (Option Progress) AllocError) → IfOk r (λ o. IfSome o (λ was. (was ≡ before) × (admits before micros ≡ true) × (after ≡ record { lines = before.lines + 1; last = micros }))) → IfOk r (λ o. IfSome o (HasCounted old new own micros))
  counted_on room (Ok (Some was)) (is, order, one) = record {
    before = is ∙ sym (some_is old own before had);
    order = subst (λ (g : Progress). admits g micros ≡ true) (sym is) order;
    room = subst IsSome (sym room) refl;
    moved = λ p. moved old new own after put p ∙ ap (λ (g : Progress). cond (same_key p own) g (progress_at old p)) (one ∙ ap (λ (g : Progress). record { lines = g.lines + 1; last = micros }) (sym is));
  }
  counted_on room (Ok None) told = tt
  counted_on room (Err e) told = tt

  stayed : after ≡ before → HasStayed old new
  stayed same p = moved old new own after put p ∙ stays_put old own after (same ∙ sym (some_is old own before had)) p

  pub stray_on : (r : Result (Option Progress) AllocError) → IfOk r (λ o. IfNone o ((admits before micros ≡ false) × (after ≡ before))) → IfOk r (λ o. IfNone o ((admits (progress_at old own) micros ≡ false) × HasStayed old new))
  stray_on (Ok None) (order, same) = (subst (λ (g : Progress). admits g micros ≡ false) (sym (some_is old own before had)) order, stayed same)
  stray_on (Ok (Some was)) told = tt
  stray_on (Err e) told = tt

  pub err_on : (r : Result (Option Progress) AllocError) → OnErr r (after ≡ before) → OnErr r (HasStayed old new)
  err_on (Ok o) told = tt
  err_on (Err e) same = stayed same

pub counted_new : (old mid new : Map) (own : Process) (micros : ℕ) → mid ≡ old → at old own ≡ None → Puts mid new own (record { lines = 1; last = micros }) → at new own ≡ Some (record { lines = 1; last = micros }) → HasCounted old new own micros fresh
counted_new old mid new own micros same none put room = record {
  before = sym (ap (λ (o : Option Progress). unwrap_or o fresh) none);
  order = refl;
  room = subst IsSome (sym room) refl;
  moved = subst (λ (m : Map). (p : Process) → progress_at new p ≡ cond (same_key p own) (record { lines = 1; last = micros }) (progress_at m p)) same (moved mid new own _ put);
}
