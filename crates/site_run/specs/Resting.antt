-- What the disks of nodes without an open turn hold: each disk alone what its node keeps.
use Rattle.std.specs.Prelude.{◌≡◌, ℕ, List, length, map, slice_index_or, None}
use Rattle.site_run.specs.Terms.{Config, Each, IsNode, KeepsFor, Lent, Node, Setting, StateOf, node_count, node_number}
use Rattle.site_run.specs.Naming.{names_of}

-- the node has no open turn
abbrev pub IsClosed : (n : Node) → StateOf n → Type 0
IsClosed n t = t.opened ≡ None

-- these are the disks of the node, under the names of its number; whatever a stop leaves of each keeps what the node keeps
pub record KeepsAs {D : Type 0} (image : D → List ℕ → Type 0) (config : Config) (n : Node) (t : StateOf n) (lent : List (Lent D)) : Type 0 where
  pub named : map (λ l. l.name) lent ≡ names_of config n
  pub keeps : Each (λ l. (c : List ℕ) → image l.disk c → KeepsFor n t.kept l.name c) lent

-- The nodes of a setting in the order of their numbers, each with such disks.
pub record AllKeep {N D : Type 0} (image : D → List ℕ → Type 0) (disks_of : ℕ → N → List (Lent D)) (g : Setting) (at : (n : Node) → StateOf n) (nodes : List N) : Type 0 where
  pub count : length nodes ≡ node_count g
  pub each : (n : Node) → IsNode g n → (a : N) → KeepsAs image g.config n (at n) (disks_of (node_number n) (slice_index_or nodes (node_number n) a))
