-- What a voter knows, and the rows of its turns.
use Rattle.std.proofs.Common.{◌≡◌, ◌⊎◌, Bool, true, false, List, [], Option, Some, None, refl, sym, ap, subst, arith, IfSome, option_map}
use Rattle.std.specs.Prelude.{⊤}
use Rattle.replica_node.proofs.Words.{ReplicaNote, Packet, Node, Input, Start, Own, Tick, Stays, Deliver, IsPacket, Setting, IsInput, ReplicaKept, replica_start, replica_gets, IsRow, Stands, ReplicaCore, Turn, VoterView, KnowsAs, Fits, replica_rows, note_view, Note, Voted, land, land_replica, GoesOn, Makes, kept_of, IsTaken, row_of}
use Rattle.replica_node.specs.Node.{Knows}

pub start_row : (i : Input) (g : Setting) (k : ReplicaKept) (live : Option (Unit {0})) (turn : Turn) → i ≡ Start → Fits live i → IsRow g (replica_start k) turn → IsRow g (row_of replica_rows g k live i) turn
start_row i g k live turn e fits row = grind arith

-- a replica that is down starts from its notes
pub down_at : (v : VoterView) (i : Input) (k : ReplicaKept) (live : Option (Unit {0})) → i ≡ Start → Fits live i → Knows v k live → kept_of v.notes ≡ k
down_at v i k live e fits knows = grind arith

-- by itself it does nothing
pub idle_turn : (v : VoterView) (i : Input) (g : Setting) (k : ReplicaKept) (live : Option (Unit {0})) (turn : Turn) → (i ≡ Own) ⊎ (i ≡ Tick) → Fits live i → Knows v k live → turn.note ≡ None → turn.packets.items ≡ [] → turn.change ≡ Stays
    → IsRow g (row_of replica_rows g k live i) turn × GoesOn v.core turn.change k
idle_turn v i g k live turn e fits knows note packets change = grind arith

up_by : (u : Bool) (core : ReplicaCore) (notes : List ReplicaNote) (k : ReplicaKept) (l : Unit {0}) → KnowsAs u core notes k (Some l) → Stands core k
up_by true core notes k l knows = knows
up_by false core notes k l knows = absurd knows

down_by : (u : Bool) (core : ReplicaCore) (notes : List ReplicaNote) (k : ReplicaKept) → u ≡ false → kept_of notes ≡ k → KnowsAs u core notes k None
down_by true core notes k e is = absurd (cc e)
down_by false core notes k e is = is

-- a replica that is down knows its notes
pub knows_down : (v : VoterView) (k : ReplicaKept) → v.up ≡ false → kept_of v.notes ≡ k → Knows v k None
knows_down v k down is = down_by v.up v.core v.notes k down is

-- a packet comes to a replica that is up
pub up_at : (v : VoterView) (i : Input) (from : Node) (p : Packet) (k : ReplicaKept) (live : Option (Unit {0})) → i ≡ Deliver from p → Fits live i → Knows v k live → Stands v.core k
up_at v i from p k live e fits knows = grind arith

pub gets_row : (i : Input) (from : Node) (p : Packet) (g : Setting) (k : ReplicaKept) (live : Option (Unit {0})) (turn : Turn) → i ≡ Deliver from p → Fits live i → IsRow g (replica_gets k from p) turn → IsRow g (row_of replica_rows g k live i) turn
gets_row i from p g k live turn e fits row = grind arith

pub is_packet : (i : Input) (from : Node) (p : Packet) → i ≡ Deliver from p → IsInput i → IsPacket p
is_packet i from p e is = subst IsInput e is

any_taken : (o : Option Note) → IfSome o (λ n. true ≡ true)
any_taken None = tt
any_taken (Some n) = refl

-- a decided turn is the row's
pub taken : (g : Setting) (i : Input) (k : ReplicaKept) (live : Option (Unit {0})) (core : ReplicaCore) (turn : Turn) → IsRow g (row_of replica_rows g k live i) turn → GoesOn core turn.change k
    → IsTaken land_replica (λ x n. true) (λ x. ⊤) (λ x l. Makes core turn.note turn.change x) g k (row_of replica_rows g k live i) (option_map (λ n. Voted (note_view n)) turn.note) turn.packets.items
taken g i k live core turn row goes =
    let out = row_of replica_rows g k live i in
    record { noted = row.note; sent = row.packets; taken = any_taken out.note; served = tt; next = record { was = k; goes_on = goes; is = ap (λ (o : Option Note). land land_replica o k) (sym row.note) } }
