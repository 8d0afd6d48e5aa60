-- Histories: what each node's state is after one, and which are runs.
use Rattle.std.specs.Prelude.{◌≡◌, ◌⊎◌, ℕ, ◌≤◌, List, [], ◌∷◌, ◌++◌, length, map, Option, Some, None, ⊤}
use Rattle.photon_model.specs.Terms.{Addressed, Deliver, Dispatcher, DispatcherKept, DispatcherLive, Input, IsNode, Joiner, JoinerKept, JoinerLive, Mem, Node, Note, Out, Own, Packet, Replica, ReplicaKept, Sent, Server, ServerKept, ServerLive, Setting, Start, Tick, dispatcher_start, dispatcher_turn, joiner_start, joiner_turn, land, land_dispatcher, land_joiner, land_replica, land_server, replica_start, replica_turn, server_start, server_turn, set_at}

-- A node: what its disks hold, its volatile state while it is up, the input of its open turn.
pub record Cell (K L : Type 0) : Type 0 where
  pub kept : K
  pub live : Option L
  pub opened : Option Input

-- the nodes of each kind by number, and all packets that were sent
pub record World : Type 0 where
  pub dispatchers : ℕ → Cell DispatcherKept DispatcherLive
  pub servers : ℕ → Cell ServerKept ServerLive
  pub replicas : ℕ → Cell ReplicaKept (Unit {0})
  pub joiners : ℕ → Cell JoinerKept JoinerLive
  pub sent : List Sent

-- An entry of a history. A turn begins with its input. It ends with its note and its packets, the first so many of which
-- were put into inboxes, or it is stopped, with the note that has landed if one has.
pub data Entry : Type 0 where
  Begin : Node → Input → Entry
  End : Node → Option Note → List (Node × Packet) → ℕ → Entry
  Stop : Node → Option Note → Entry

-- a node once its turn begins, ends with a note and a next state, or is stopped
abbrev pub begun : {K L : Type 0} → Cell K L → Input → Cell K L
begun c i = record c { opened = Some i }

abbrev pub ended : {K L : Type 0} → (Note → K → K) → Cell K L → Option Note → L → Cell K L
ended f c note l = record { kept = land f note c.kept; live = Some l; opened = None }

abbrev pub stopped : {K L : Type 0} → (Note → K → K) → Cell K L → Option Note → Cell K L
stopped f c landed = record { kept = land f landed c.kept; live = None; opened = None }

-- the row of an open turn; a node that is down starts
abbrev pub row : {K L : Type 0} → (K → Out L) → (K → L → Input → Out L) → K → Option L → Option Input → Out L
row start turn k None i = start k
row start turn k (Some l) None = turn k l Own
row start turn k (Some l) (Some i) = turn k l i

abbrev pub dispatcher_row : Setting → ℕ → Cell DispatcherKept DispatcherLive → Out DispatcherLive
dispatcher_row g s c = row dispatcher_start (dispatcher_turn g s) c.kept c.live c.opened

abbrev pub server_row : Setting → ℕ → Cell ServerKept ServerLive → Out ServerLive
server_row g s c = row server_start (server_turn g s) c.kept c.live c.opened

abbrev pub replica_row : Cell ReplicaKept (Unit {0}) → Out (Unit {0})
replica_row c = row replica_start (λ k l i. replica_turn k i) c.kept c.live c.opened

abbrev pub joiner_row : Setting → ℕ → Cell JoinerKept JoinerLive → Out JoinerLive
joiner_row g n c = row joiner_start (joiner_turn g n) c.kept c.live c.opened

-- the same of a node of any kind: what it keeps and knows, its cell, how its notes land, and its rows
abbrev pub KeptOf : Node → Type 0
KeptOf (Dispatcher s) = DispatcherKept
KeptOf (Server s) = ServerKept
KeptOf (Replica r) = ReplicaKept
KeptOf (Joiner j) = JoinerKept

abbrev pub LiveOf : Node → Type 0
LiveOf (Dispatcher s) = DispatcherLive
LiveOf (Server s) = ServerLive
LiveOf (Replica r) = Unit {0}
LiveOf (Joiner j) = JoinerLive

abbrev pub at_node : World → (n : Node) → Cell (KeptOf n) (LiveOf n)
at_node w (Dispatcher s) = w.dispatchers s
at_node w (Server s) = w.servers s
at_node w (Replica r) = w.replicas r
at_node w (Joiner j) = w.joiners j

abbrev pub land_at : (n : Node) → Note → KeptOf n → KeptOf n
land_at (Dispatcher s) = land_dispatcher
land_at (Server s) = land_server
land_at (Replica r) = land_replica
land_at (Joiner j) = land_joiner

abbrev pub start_at : (n : Node) → KeptOf n → Out (LiveOf n)
start_at (Dispatcher s) = dispatcher_start
start_at (Server s) = server_start
start_at (Replica r) = replica_start
start_at (Joiner j) = joiner_start

abbrev pub turn_at : Setting → (n : Node) → KeptOf n → LiveOf n → Input → Out (LiveOf n)
turn_at g (Dispatcher s) = dispatcher_turn g s
turn_at g (Server s) = server_turn g s
turn_at g (Replica r) = λ k l i. replica_turn k i
turn_at g (Joiner j) = joiner_turn g j

abbrev pub row_of : Setting → (n : Node) → Cell (KeptOf n) (LiveOf n) → Out (LiveOf n)
row_of g n c = row (start_at n) (turn_at g n) c.kept c.live c.opened

-- a node once its turn ends with a note, and the row's next state
abbrev pub dispatcher_ended : Setting → ℕ → Cell DispatcherKept DispatcherLive → Option Note → Cell DispatcherKept DispatcherLive
dispatcher_ended g s c note = ended land_dispatcher c note (dispatcher_row g s c).live

abbrev pub server_ended : Setting → ℕ → Cell ServerKept ServerLive → Option Note → Cell ServerKept ServerLive
server_ended g s c note = ended land_server c note (server_row g s c).live

abbrev pub replica_ended : Cell ReplicaKept (Unit {0}) → Option Note → Cell ReplicaKept (Unit {0})
replica_ended c note = ended land_replica c note (replica_row c).live

abbrev pub joiner_ended : Setting → ℕ → Cell JoinerKept JoinerLive → Option Note → Cell JoinerKept JoinerLive
joiner_ended g n c note = ended land_joiner c note (joiner_row g n c).live

-- the packets of a node's turn, with their sender
abbrev pub sends : Node → List (Node × Packet) → List Sent
sends n ps = map (λ (p : Node × Packet). record { from = n; to = p.0; packet = p.1 }) ps

-- the nodes and what was sent after one more entry
abbrev pub after : Setting → World → Entry → World
after g w (Begin (Dispatcher s) i) = record w { dispatchers = set_at w.dispatchers s (begun (w.dispatchers s) i) }
after g w (Begin (Server s) i) = record w { servers = set_at w.servers s (begun (w.servers s) i) }
after g w (Begin (Replica r) i) = record w { replicas = set_at w.replicas r (begun (w.replicas r) i) }
after g w (Begin (Joiner j) i) = record w { joiners = set_at w.joiners j (begun (w.joiners j) i) }
after g w (End (Dispatcher s) note ps kept) = record w { dispatchers = set_at w.dispatchers s (dispatcher_ended g s (w.dispatchers s) note); sent = sends (Dispatcher s) ps ++ w.sent }
after g w (End (Server s) note ps kept) = record w { servers = set_at w.servers s (server_ended g s (w.servers s) note); sent = sends (Server s) ps ++ w.sent }
after g w (End (Replica r) note ps kept) = record w { replicas = set_at w.replicas r (replica_ended (w.replicas r) note); sent = sends (Replica r) ps ++ w.sent }
after g w (End (Joiner j) note ps kept) = record w { joiners = set_at w.joiners j (joiner_ended g j (w.joiners j) note); sent = sends (Joiner j) ps ++ w.sent }
after g w (Stop (Dispatcher s) landed) = record w { dispatchers = set_at w.dispatchers s (stopped land_dispatcher (w.dispatchers s) landed) }
after g w (Stop (Server s) landed) = record w { servers = set_at w.servers s (stopped land_server (w.servers s) landed) }
after g w (Stop (Replica r) landed) = record w { replicas = set_at w.replicas r (stopped land_replica (w.replicas r) landed) }
after g w (Stop (Joiner j) landed) = record w { joiners = set_at w.joiners j (stopped land_joiner (w.joiners j) landed) }

abbrev pub world_after : Setting → World → List Entry → World
world_after g w [] = w
world_after g w (e ∷ es) = world_after g (after g w e) es

-- the input is Start exactly where the node is down
abbrev pub Fits : {L : Type 0} → Option L → Input → Type 0
Fits None Start = ⊤
Fits None Own = ⊥
Fits None Tick = ⊥
Fits None (Deliver n p) = ⊥
Fits (Some l) Start = ⊥
Fits (Some l) Own = ⊤
Fits (Some l) Tick = ⊤
Fits (Some l) (Deliver n p) = ⊤

-- a delivered packet was sent to this node
abbrev pub WasSent : List Sent → Node → Input → Type 0
WasSent sent n (Deliver from p) = Mem (record { from = from; to = n; packet = p }) sent
WasSent sent n Start = ⊤
WasSent sent n Own = ⊤
WasSent sent n Tick = ⊤

-- no turn is open, and the input may come
abbrev pub MayBegin : {K L : Type 0} → Cell K L → List Sent → Node → Input → Type 0
MayBegin c sent n i = (c.opened ≡ None) × Fits c.live i × WasSent sent n i

-- the turn is open, and its note and packets are those of the row that applies
abbrev pub IsTurn : {K L : Type 0} → Setting → Cell K L → Out L → Option Note → List (Node × Packet) → Type 0
IsTurn g c out note ps = ((i : Input) × (c.opened ≡ Some i)) × (note ≡ out.note) × Addressed g out.packets ps

-- the turn is open, and nothing has landed, or its note has
abbrev pub MayStop : {K L : Type 0} → Cell K L → Out L → Option Note → Type 0
MayStop c out landed = ((i : Input) × (c.opened ≡ Some i)) × ((landed ≡ None) ⊎ (landed ≡ out.note))

-- the entry may come next
abbrev pub May : Setting → World → Entry → Type 0
May g w (Begin n i) = IsNode g n × MayBegin (at_node w n) w.sent n i
May g w (End n note ps kept) = IsNode g n × IsTurn g (at_node w n) (row_of g n (at_node w n)) note ps × (kept ≤ length ps)
May g w (Stop n landed) = IsNode g n × MayStop (at_node w n) (row_of g n (at_node w n)) landed

-- each front of the history may be followed by its next entry
abbrev pub IsRun : Setting → World → List Entry → Type 0
IsRun g w [] = ⊤
IsRun g w (e ∷ es) = May g w e × IsRun g (after g w e) es

-- all nodes down, nothing sent
abbrev pub down : {K L : Type 0} → K → Cell K L
down k = record { kept = k; live = None; opened = None }

-- the records of all disks
pub record Disks : Type 0 where
  pub dispatchers : ℕ → DispatcherKept
  pub servers : ℕ → ServerKept
  pub replicas : ℕ → ReplicaKept
  pub joiners : ℕ → JoinerKept

abbrev pub opening : Disks → World
opening d = record { dispatchers = λ s. down (d.dispatchers s); servers = λ s. down (d.servers s); replicas = λ r. down (d.replicas r); joiners = λ j. down (d.joiners j); sent = [] }

abbrev pub disks : World → Disks
disks w = record { dispatchers = λ s. (w.dispatchers s).kept; servers = λ s. (w.servers s).kept; replicas = λ r. (w.replicas r).kept; joiners = λ j. (w.joiners j).kept }
