-- The nodes of a setting, their numbers, and to whom a packet may go.
use Rattle.std.specs.Prelude.{◌≡◌, ℕ, ◌+◌, ◌*◌, ◌-◌, ◌<◌, nat_lt, List, [], ◌∷◌, if◌then◌else◌, Option, Some, None, ⊤}
use Rattle.turn_defs.specs.Setting.{Setting, IsJoiner, first_joiner, site_of_joiner}
use Rattle.turn_defs.specs.declared.packet.Packet.{Packet}
use Rattle.turn_defs.specs.declared.node.Node.{Node}
use Rattle.turn_defs.specs.declared.node.Node.TheVariants.{Dispatcher, Server, Replica, Joiner}
use Rattle.turn_defs.specs.declared.node.To.{To}
use Rattle.turn_defs.specs.declared.node.To.TheVariants.{Only, AnyJoiner}

-- the node is one of the setting's
abbrev pub IsNode : Setting → Node → Type 0
IsNode g (Dispatcher s) = s < 2
IsNode g (Server s) = s < 2
IsNode g (Replica r) = r < g.config.replicas
IsNode g (Joiner j) = IsJoiner g j

-- the number of a node, which is what tokens and packets name it by
abbrev pub node_number : Node → ℕ
node_number (Dispatcher s) = s
node_number (Server s) = 2 + s
node_number (Replica r) = 4 + r
node_number (Joiner j) = j

-- how many nodes there are; their numbers lie below this
abbrev pub node_count : Setting → ℕ
node_count g = first_joiner g + 2 * g.config.joiners

-- the node of a number
abbrev pub node_of : Setting → ℕ → Option Node
node_of g n =
    if nat_lt n 2 then Some (Dispatcher n)
    else if nat_lt n 4 then Some (Server (n - 2))
    else if nat_lt n (first_joiner g) then Some (Replica (n - 4))
    else if nat_lt n (node_count g) then Some (Joiner n)
    else None

-- each node has one number, and each number below their count one node
pub record NumbersAreNodes (g : Setting) : Type 0 where
  pub of_number : (node : Node) → IsNode g node → node_of g (node_number node) ≡ Some node
  pub below : (node : Node) → IsNode g node → node_number node < node_count g
  pub back : (n : ℕ) (node : Node) → node_of g n ≡ Some node → (node_number node ≡ n) × IsNode g node
  pub each : (n : ℕ) → n < node_count g → (node : Node) × (node_of g n ≡ Some node)

-- a node may be meant by an address
abbrev pub IsTo : Setting → To → Node → Type 0
IsTo g (Only n) m = n ≡ m
IsTo g (AnyJoiner s) (Joiner j) = IsJoiner g j × (site_of_joiner g j ≡ s)
IsTo g (AnyJoiner s) (Dispatcher n) = ⊥
IsTo g (AnyJoiner s) (Server n) = ⊥
IsTo g (AnyJoiner s) (Replica n) = ⊥

-- the packets are those of a row, each to a node that it may go to
abbrev pub Addressed : Setting → List (To × Packet) → List (Node × Packet) → Type 0
Addressed g [] [] = ⊤
Addressed g [] (p ∷ ps) = ⊥
Addressed g (a ∷ as_) [] = ⊥
Addressed g (a ∷ as_) (p ∷ ps) = (IsTo g a.0 p.0 × (a.1 ≡ p.1)) × Addressed g as_ ps
