-- The state of one node after a history, from its own entries alone.
use Rattle.std.specs.Prelude.{◌≡◌, List, [], ◌∷◌, if◌then◌else◌}
use Rattle.photon_model.specs.Terms.{Node, Setting}
use Rattle.photon_model.specs.Runs.{Cell, World, Entry, Begin, End, Stop, begun, ended, stopped, world_after, KeptOf, LiveOf, at_node, land_at, row_of}
use Rattle.photon_model.specs.Rest.{same_node}

-- an entry of the node changes its state
abbrev pub own_entry : Setting → (n : Node) → Cell (KeptOf n) (LiveOf n) → Entry → Cell (KeptOf n) (LiveOf n)
own_entry g n c (Begin m i) = if same_node n m then begun c i else c
own_entry g n c (End m made ps kept) = if same_node n m then ended (land_at n) c made (row_of g n c).live else c
own_entry g n c (Stop m landed) = if same_node n m then stopped (land_at n) c landed else c

abbrev pub own_state : Setting → (n : Node) → Cell (KeptOf n) (LiveOf n) → List Entry → Cell (KeptOf n) (LiveOf n)
own_state g n c [] = c
own_state g n c (e ∷ es) = own_state g n (own_entry g n c e) es

-- a node's state in the world is that of its own entries
abbrev pub LocalIsOwn : Type 0
LocalIsOwn = (g : Setting) (w : World) (es : List Entry) (n : Node) → at_node (world_after g w es) n ≡ own_state g n (at_node w n) es
