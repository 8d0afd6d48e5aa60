-- What the nodes of each kind keep and know, and their rows of the turn table, by the node.
use Rattle.std.specs.Prelude.{None}
use Rattle.site_laws.specs.Terms.{Cell, Disks, Dispatcher, DispatcherKept, DispatcherLive, Joiner, JoinerKept, JoinerLive, Node, Replica, ReplicaKept, Rows, Server, ServerKept, ServerLive, Setting, State, World, dispatcher_rows, joiner_rows, replica_rows, server_rows}

-- ---- by the node

-- what its disks hold
abbrev pub KeptOf : Node → Type 0
KeptOf (Dispatcher s) = DispatcherKept
KeptOf (Server s) = ServerKept
KeptOf (Replica r) = ReplicaKept
KeptOf (Joiner j) = JoinerKept

-- what it knows while it is up
abbrev pub LiveOf : Node → Type 0
LiveOf (Dispatcher s) = DispatcherLive
LiveOf (Server s) = ServerLive
LiveOf (Replica r) = Unit {0}
LiveOf (Joiner j) = JoinerLive

abbrev pub rows_of : (n : Node) → Rows (KeptOf n) (LiveOf n)
rows_of (Dispatcher s) = dispatcher_rows s
rows_of (Server s) = server_rows s
rows_of (Replica r) = replica_rows
rows_of (Joiner j) = joiner_rows j

-- where the node stands in a world
abbrev pub cell_of : World → (n : Node) → Cell (KeptOf n) (LiveOf n)
cell_of w (Dispatcher s) = w.dispatchers s
cell_of w (Server s) = w.servers s
cell_of w (Replica r) = w.replicas r
cell_of w (Joiner j) = w.joiners j

-- its records among those of all disks
abbrev pub kept_of : Disks → (n : Node) → KeptOf n
kept_of d (Dispatcher s) = d.dispatchers s
kept_of d (Server s) = d.servers s
kept_of d (Replica r) = d.replicas r
kept_of d (Joiner j) = d.joiners j

-- where it stands by its own entries
abbrev pub StateOf : Node → Type 0
StateOf n = State (KeptOf n) (LiveOf n)

-- down over its records
abbrev pub down_over : Setting → Disks → (n : Node) → StateOf n
down_over g d n = record { setting = g; kept = kept_of d n; live = None; opened = None }
