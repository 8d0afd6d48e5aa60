-- Nodes at the places of their numbers, down over the records of opened journals.
use Rattle.std.specs.Prelude.{◌≡◌, ◌<◌, ℕ, Bool, false, List, length, slice_index_or}
use Rattle.site_run.specs.Terms.{Disks, IsNode, Node, Setting, down_over, node_number}
use Rattle.site_run.specs.AnyNodes.{AnyState, any_of}

-- each of these is so at its place
pub record AllAt {N : Type 0} (Good : ℕ → N → Type 0) (nodes : List N) : Type 0 where
  pub at : (i : ℕ) (d : N) → i < length nodes → Good i (slice_index_or nodes i d)

-- the node has this number, and waits for no restart
pub record IsUpAt {N : Type 0} (number : N → ℕ) (waits : N → Bool) (i : ℕ) (node : N) : Type 0 where
  pub numbered : number node ≡ i
  pub up : waits node ≡ false

-- it is down over the records of the setting's node of this number
pub record IsDownAt {N : Type 0} (places : N → AnyState → Type 0) (g : Setting) (d : Disks) (i : ℕ) (node : N) : Type 0 where
  pub of : Node
  pub is : IsNode g of
  pub at : node_number of ≡ i
  pub down : places node (any_of of (down_over g d of))
