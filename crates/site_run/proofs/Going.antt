-- Disks that have gone on, step by step and place by place.
use Rattle.std.proofs.Common.{◌≡◌, ℕ, zero, suc, ◌+◌, ◌<◌, List, [], ◌∷◌, length, refl, ◌∙◌, subst, arith, slice_index_or}
use Rattle.site_run.proofs.Words.{Node, Setting, IsNode, NumbersAreNodes, node_number, node_count, GoesOn, goes_same, goes_through, Lent, EachWith, each_same, each_with_append, all_from, DisksIn, disks_by, Reached, OneOf, HasGoneOn, HaveGoneOn, Config}
use Rattle.site_workers.specs.FourKinds as one

-- ---- the disks of one node

with_through : {A : Type 0} (R : A → A → Type 0) → ((x y z : A) → R x y → R y z → R x z) → (xs ys zs : List A) → EachWith R xs ys → EachWith R ys zs → EachWith R xs zs
with_through R through [] [] zs a b = b
with_through R through (x ∷ xs) (y ∷ ys) [] a b = absurd b
with_through R through (x ∷ xs) (y ∷ ys) (z ∷ zs) a b = (through x y z a.0 b.0, with_through R through xs ys zs a.1 b.1)
with_through R through _ _ zs a b = absurd a

-- in any number of steps, each of which they have gone on in
pub reached_on : {N D : Type 0} (image : D → List ℕ → Type 0) (grown : N → N → Type 0) (disks_of : N → List (Lent D)) → ((v w : N) → grown v w → HaveGoneOn image (disks_of v) (disks_of w)) → (k : ℕ) (v w : N) → Reached grown k v w → HaveGoneOn image (disks_of v) (disks_of w)
reached_on image grown disks_of one zero v w same =
    subst (λ x. HaveGoneOn image (disks_of v) (disks_of x)) same (each_same (HasGoneOn image) (λ l. record { named = refl; grown = goes_same (image l.disk) }) (disks_of v))
reached_on image grown disks_of one (suc k) v w r =
    with_through (HasGoneOn image) (λ x y z a b. record { named = b.named ∙ a.named; grown = goes_through (image x.disk) (image y.disk) (image z.disk) a.grown b.grown }) (disks_of v) (disks_of r.0) (disks_of w)
    (reached_on image grown disks_of one k v r.0 r.1) (one r.0 w r.2)

-- one step of a node of any kind
module _ {D A B C E : Type 0} (own : DisksIn D A B C E) (image : D → List ℕ → Type 0) where
  abbrev Goes : D → D → Type 0
  Goes old new = GoesOn (image old) (image new)

  abbrev pub Grown : OneOf A B C E → OneOf A B C E → Type 0
  Grown =
      one.grown (λ v w. Goes (own.offset v) (own.offset w) × Goes (own.retry v) (own.retry w)) (λ v w. Goes (own.server v) (own.server w)) (λ v w. Goes (own.replica v) (own.replica w))
      (λ v w. Goes (own.epochs v) (own.epochs w) × Goes (own.outputs v) (own.outputs w))

  pub one_on : (config : Config) (number : ℕ) (v w : OneOf A B C E) → Grown v w → HaveGoneOn image (disks_by own config number v) (disks_by own config number w)
  one_on config number v w on = grind arith

-- ---- the disks of all nodes

module _ {N W D : Type 0} (image : D → List ℕ → Type 0) (old_of : ℕ → N → List (Lent D)) (new_of : ℕ → W → List (Lent D)) where
  from_on : (k : ℕ) (vs : List N) (ws : List W) → length ws ≡ length vs
      → ((i j : ℕ) (a : N) (b : W) → j ≡ k + i → i < length vs → HaveGoneOn image (old_of j (slice_index_or vs i a)) (new_of j (slice_index_or ws i b)))
      → HaveGoneOn image (all_from old_of k vs) (all_from new_of k ws)
  from_on k [] [] count each = tt
  from_on k [] (w ∷ ws) count each = absurd (omega (arith, count))
  from_on k (v ∷ vs) [] count each = absurd (omega (arith, count))
  from_on k (v ∷ vs) (w ∷ ws) count each =
      each_with_append (HasGoneOn image) (old_of k v) (all_from old_of (suc k) vs) (new_of k w) (all_from new_of (suc k) ws) (each 0 k v w (omega arith) (omega arith))
      (from_on (suc k) vs ws (omega (arith, count)) (λ i j a b is below. each (suc i) j a b (omega (arith, is)) (omega (arith, below))))

  -- where those of each node of a setting have gone on, all have
  pub all_gone_on : (g : Setting) → NumbersAreNodes g → (vs : List N) (ws : List W) → length vs ≡ node_count g → length ws ≡ length vs
      → ((n : Node) → IsNode g n → (a : N) (b : W) → HaveGoneOn image (old_of (node_number n) (slice_index_or vs (node_number n) a)) (new_of (node_number n) (slice_index_or ws (node_number n) b)))
      → HaveGoneOn image (all_from old_of 0 vs) (all_from new_of 0 ws)
  all_gone_on g numbers vs ws nodes count each =
      from_on 0 vs ws count
      (λ i j a b at below.
      let of_number = numbers.each i (omega (arith, below, nodes)) in
      let back = numbers.back i of_number.0 of_number.1 in
      let here : i ≡ j = omega (arith, at) in
      subst (λ k. HaveGoneOn image (old_of k (slice_index_or vs i a)) (new_of k (slice_index_or ws i b))) here
      (subst (λ k. HaveGoneOn image (old_of k (slice_index_or vs k a)) (new_of k (slice_index_or ws k b))) back.0 (each of_number.0 back.1 a b)))
