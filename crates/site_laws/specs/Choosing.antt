-- Where each node that there is has some state, or some records that are left, one function has all of them.
use Rattle.std.proofs.Common.{◌≡◌, ◌⊎◌, inl, inr, ⊎_elim, ◌+◌, ◌*◌, refl, sym, ◌∙◌, subst, arith}
use Rattle.std.proofs.lemmas.Bool.{cases_lt}
use Rattle.site_laws.specs.Terms.{Disks, Dispatcher, IsNode, Joiner, MayHold, Node, Replica, Server, Setting, first_joiner}
use Rattle.site_laws.specs.Kinds.{KeptOf, StateOf, rows_of, kept_of}
use Rattle.site_laws.specs.Laws.{MayLeave}

pub is_node_or : (g : Setting) (n : Node) → IsNode g n ⊎ (IsNode g n → ⊥)
is_node_or g (Dispatcher s) = ⊎_elim (λ l. inl l) (λ l. inr (λ k. absurd (omega (arith, k, l)))) (cases_lt s 2)
is_node_or g (Server s) = ⊎_elim (λ l. inl l) (λ l. inr (λ k. absurd (omega (arith, k, l)))) (cases_lt s 2)
is_node_or g (Replica r) = ⊎_elim (λ l. inl l) (λ l. inr (λ k. absurd (omega (arith, k, l)))) (cases_lt r g.config.replicas)
is_node_or g (Joiner j) =
    ⊎_elim (λ l. inr (λ k. absurd (omega (arith, k.0, l))))
    (λ l. ⊎_elim (λ m. inl (l, m)) (λ m. inr (λ k. absurd (omega (arith, k.1, m)))) (cases_lt j (first_joiner g + 2 * g.config.joiners)))
    (cases_lt j (first_joiner g))

module _ (g : Setting) (A : Node → Type 0) (P : (n : Node) → A n → Type 0) (other : (n : Node) → A n) where
  -- one for each node, and the others as they were
  pub record Chosen : Type 0 where
    pub at : (n : Node) → A n
    pub holds : (n : Node) → IsNode g n → P n (at n)
    pub others : (n : Node) → (IsNode g n → ⊥) → at n ≡ other n

  module _ (each : (n : Node) → IsNode g n → (a : A n) × P n a) where
    abbrev pick : (n : Node) → IsNode g n ⊎ (IsNode g n → ⊥) → A n
    pick n (inl k) = (each n k).0
    pick n (inr never) = other n

    holds_so : (n : Node) (o : IsNode g n ⊎ (IsNode g n → ⊥)) → IsNode g n → P n (pick n o)
    holds_so n (inl k) is = (each n k).1
    holds_so n (inr never) is = absurd (never is)

    other_so : (n : Node) (o : IsNode g n ⊎ (IsNode g n → ⊥)) → (IsNode g n → ⊥) → pick n o ≡ other n
    other_so n (inl k) out = absurd (out k)
    other_so n (inr never) out = refl

    pub choose : Chosen
    choose = record {
      at = λ n. pick n (is_node_or g n);
      holds = λ n is. holds_so n (is_node_or g n) is;
      others = λ n out. other_so n (is_node_or g n) out;
    }

-- the records of all disks, by the node
abbrev pub disks_of : ((n : Node) → KeptOf n) → Disks
disks_of f = record {
  dispatchers = λ s. f (Dispatcher s);
  servers = λ s. f (Server s);
  replicas = λ r. f (Replica r);
  joiners = λ j. f (Joiner j);
}

pub kept_back : (f : (n : Node) → KeptOf n) (n : Node) → kept_of (disks_of f) n ≡ f n
kept_back f (Dispatcher s) = refl
kept_back f (Server s) = refl
kept_back f (Replica r) = refl
kept_back f (Joiner j) = refl

-- where each node's disks may hold records of which something is known, all disks may hold such
pub all_left : (g : Setting) (d : Disks) (at : (n : Node) → StateOf n) (Q : (n : Node) → KeptOf n → Type 0)
    → ((n : Node) → IsNode g n → (k : KeptOf n) × (MayHold (rows_of n) (at n) k × Q n k))
    → (left : Disks) × MayLeave g d at left × ((n : Node) → IsNode g n → Q n (kept_of left n))
all_left g d at Q each =
    let c = choose g KeptOf (λ n k. MayHold (rows_of n) (at n) k × Q n k) (kept_of d) each in (
      disks_of c.at,
      record {
        nodes = λ n is. subst (MayHold (rows_of n) (at n)) (sym (kept_back c.at n)) (c.holds n is).0;
        others = λ n out. kept_back c.at n ∙ c.others n out;
      },
      λ n is. subst (Q n) (sym (kept_back c.at n)) (c.holds n is).1,
    )
