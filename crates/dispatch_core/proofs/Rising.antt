-- Windows whose positions rise, and what a row makes of them.
use Rattle.std.proofs.Common.{ℕ, ◌+◌, ◌<◌, ◌≤◌, List, [], ◌∷◌, ◌++◌, arith}
use Rattle.dispatch_core.proofs.Words.{Fresh, after_done, mark, IsRisingFrom, AreBefore}

pub rising_weaker : (a b : ℕ) (fs : List Fresh) → b ≤ a → IsRisingFrom a fs → IsRisingFrom b fs
rising_weaker a b [] le h = tt
rising_weaker a b (f ∷ fs) le h = (omega (arith, h.0), h.1)

pub rising_after_done : (a : ℕ) (fs : List Fresh) → IsRisingFrom a fs → IsRisingFrom a (after_done fs)
rising_after_done a [] h = tt
rising_after_done a (f ∷ fs) h = grind (arith, rising_weaker, rising_after_done a fs)

pub before_after_done : (p : ℕ) (fs : List Fresh) → AreBefore fs p → AreBefore (after_done fs) p
before_after_done p [] h = tt
before_after_done p (f ∷ fs) h = grind (arith, before_after_done p fs h.1)

pub rising_push : (a : ℕ) (fs : List Fresh) (f : Fresh) → a ≤ f.position → IsRisingFrom a fs → AreBefore fs f.position → IsRisingFrom a (fs ++ f ∷ [])
rising_push a [] f le h b = (le, tt)
rising_push a (x ∷ fs) f le h b = (h.0, rising_push (x.position + 1) fs f (omega (arith, b.0)) h.1 b.1)

pub before_push : (fs : List Fresh) (f : Fresh) (p q : ℕ) → p ≤ q → f.position < q → AreBefore fs p → AreBefore (fs ++ f ∷ []) q
before_push [] f p q le lt b = (lt, tt)
before_push (x ∷ fs) f p q le lt b = (omega (arith, b.0), before_push fs f p q le lt b.1)

pub rising_mark : (a p : ℕ) (fs : List Fresh) → IsRisingFrom a fs → IsRisingFrom a (mark fs p)
rising_mark a p [] h = tt
rising_mark a p (f ∷ fs) h = grind (arith, rising_mark (f.position + 1) p fs h.1)

pub before_mark : (p q : ℕ) (fs : List Fresh) → AreBefore fs q → AreBefore (mark fs p) q
before_mark p q [] h = tt
before_mark p q (f ∷ fs) h = grind (arith, before_mark p q fs h.1)
