-- The number of a node, and the node of a number.
use Rattle.std.proofs.Common.{◌≡◌, ℕ, ◌-◌, ◌<◌, ◌≤◌, Some, None, refl, subst, arith}
use Rattle.std.specs.Prelude.{Option}
use Rattle.std.proofs.lemmas.Bool.{ltb-true}
use Rattle.list_words.proofs.Lists.{some_same, none_some}
use Rattle.turn_defs.specs.declared.node.Node.{Node}
use Rattle.turn_defs.specs.declared.node.Node.TheVariants.{Dispatcher, Server, Replica, Joiner}
use Rattle.turn_defs.specs.Setting.{Setting, first_joiner}
use Rattle.turn_defs.specs.Nodes.{IsNode, node_number, node_count, node_of, NumbersAreNodes}

-- what holds of a number's node holds in each of the five cases
by_case : (g : Setting) (n : ℕ) (P : Option Node → Type 0)
    → (n < 2 → P (Some (Dispatcher n)))
    → (2 ≤ n → n < 4 → P (Some (Server (n - 2))))
    → (4 ≤ n → n < first_joiner g → P (Some (Replica (n - 4))))
    → (first_joiner g ≤ n → n < node_count g → P (Some (Joiner n)))
    → (node_count g ≤ n → P None)
    → P (node_of g n)
by_case g n P dispatcher server replica joiner none = grind (arith, ltb-true)

module _ (g : Setting) where
  of_number : (node : Node) → IsNode g node → node_of g (node_number node) ≡ Some node
  of_number node is = grind arith

  below : (node : Node) → IsNode g node → node_number node < node_count g
  below node is = grind arith

  back : (n : ℕ) (node : Node) → node_of g n ≡ Some node → (node_number node ≡ n) × IsNode g node
  back n node =
      by_case g n (λ x. x ≡ Some node → (node_number node ≡ n) × IsNode g node)
      (λ a e. subst (λ m. (node_number m ≡ n) × IsNode g m) (some_same _ _ e) (refl, a))
      (λ a b e. subst (λ m. (node_number m ≡ n) × IsNode g m) (some_same _ _ e) (omega arith, omega arith))
      (λ a b e. subst (λ m. (node_number m ≡ n) × IsNode g m) (some_same _ _ e) (omega arith, omega arith))
      (λ a b e. subst (λ m. (node_number m ≡ n) × IsNode g m) (some_same _ _ e) (refl, (a, b)))
      (λ a e. none_some _ e)

  each : (n : ℕ) → n < node_count g → (node : Node) × (node_of g n ≡ Some node)
  each n lt =
      by_case g n (λ x. (node : Node) × (x ≡ Some node)) (λ a. (Dispatcher n, refl)) (λ a b. (Server (n - 2), refl)) (λ a b. (Replica (n - 4), refl)) (λ a b. (Joiner n, refl)) (λ a. absurd (omega arith))

pub numbers_are_nodes : (g : Setting) → NumbersAreNodes g
numbers_are_nodes g = record { of_number = of_number g; below = below g; back = back g; each = each g }
