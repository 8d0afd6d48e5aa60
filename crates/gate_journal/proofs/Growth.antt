-- Records that are only added, step by step.
use Rattle.std.proofs.Common.{ℕ, List, [], ◌++◌, refl, sym, ◌∙◌, ap, subst, append_assoc, Result, Ok, Err}
use Rattle.std.proofs.lemmas.List.{append-nil}
use Rattle.outside.specs.Disk.{Throughout}
use Rattle.outside.proofs.Moments.{weaker}
use Rattle.gate_journal.specs.Gate.{gate_rule}
use Rattle.gate_journal.specs.Opening.{IsOpened}
use Rattle.gate_journal.specs.Growth.{Extends, Continues}

pub extends_same : (r : Result (List (List ℕ)) ℕ) → Extends r r
extends_same (Ok old) = ([], sym (append-nil old))
extends_same (Err at) = refl

pub extends_through : (a b c : Result (List (List ℕ)) ℕ) → Extends a b → Extends b c → Extends a c
extends_through (Ok x) (Ok y) (Ok z) first next = (first.0 ++ next.0, next.1 ∙ ap (λ (l : List (List ℕ)). l ++ next.0) first.1 ∙ append_assoc x first.0 next.0)
extends_through (Ok x) (Ok y) (Err at) first next = absurd next
extends_through (Ok x) (Err at) c first next = absurd first
extends_through (Err at) b c first next = subst (λ (r : Result (List (List ℕ)) ℕ). Extends r c) first next

pub continues_same : (image : List ℕ → Type 0) (c : List ℕ) → image c → Continues image c
continues_same image c now = (c, now, extends_same (gate_rule c))

-- if each image of y continues x's, what continues y's continues x's
pub continues_through : (x y : List ℕ → Type 0) → ((c : List ℕ) → y c → Continues x c) → (c : List ℕ) → Continues y c → Continues x c
continues_through x y first c next =
    let before = first next.0 next.1 in
    (before.0, before.1, extends_through (gate_rule before.0) (gate_rule next.0) (gate_rule c) before.2 next.2)

pub continues_opened : (image : List ℕ → Type 0) (c : List ℕ) → IsOpened image c → Continues image c
continues_opened image c opened = (opened.0, opened.1, subst (λ (r : Result (List (List ℕ)) ℕ). Extends (gate_rule opened.0) r) (sym opened.2) (extends_same (gate_rule opened.0)))

module _ {D : Type 0} (image : D → List ℕ → Type 0) (since : D → D → List ℕ → Type 0) where
  pub grows_opened : (old new : D) → Throughout image since old new (IsOpened (image old)) → Throughout image since old new (Continues (image old))
  grows_opened old new all = weaker image since old new (IsOpened (image old)) (Continues (image old)) (continues_opened (image old)) all
