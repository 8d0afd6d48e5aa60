-- A history taken apart: what each node does by itself, what is delivered, and who takes part. Where each node's own entries
-- are turns of its own state, what is delivered was sent, and all are nodes of the setting, it is a run.
use Rattle.std.specs.Prelude.{◌≡◌, ℕ, ◌≤◌, List, [], ◌∷◌, ◌++◌, length, Option, None, ⊤}
use Rattle.photon_model.specs.Terms.{Input, IsNode, Node, Note, Out, Packet, Sent, Setting}
use Rattle.photon_model.specs.Runs.{Cell, World, Entry, Begin, End, Stop, sends, Fits, WasSent, IsTurn, MayStop, IsRun, KeptOf, LiveOf, at_node, row_of}
use Rattle.photon_model.specs.Local.{own_entry}

-- ---- by itself

-- a turn begins, ends or stops, whoever sent what it takes
abbrev pub BeginsOwn : {K L : Type 0} → Cell K L → Input → Type 0
BeginsOwn c i = (c.opened ≡ None) × Fits c.live i

abbrev pub EndsOwn : {K L : Type 0} → Setting → Cell K L → Out L → Option Note → List (Node × Packet) → ℕ → Type 0
EndsOwn g c out o ps kept = IsTurn g c out o ps × (kept ≤ length ps)

-- the entry, if it is one of this node
abbrev pub Does : Setting → (n : Node) → Cell (KeptOf n) (LiveOf n) → Entry → Type 0
Does g n c (Begin m i) = m ≡ n → BeginsOwn c i
Does g n c (End m o ps kept) = m ≡ n → EndsOwn g c (row_of g n c) o ps kept
Does g n c (Stop m landed) = m ≡ n → MayStop c (row_of g n c) landed

-- from a state on, the node's entries are turns of its own states
abbrev pub Turns : Setting → (n : Node) → Cell (KeptOf n) (LiveOf n) → List Entry → Type 0
Turns g n c [] = ⊤
Turns g n c (e ∷ es) = Does g n c e × Turns g n (own_entry g n c e) es

-- ---- together

-- what an entry sends
abbrev pub sent_by : Entry → List Sent
sent_by (End n o ps kept) = sends n ps
sent_by (Begin n i) = []
sent_by (Stop n landed) = []

-- what an entry delivers was sent
abbrev pub Delivers : List Sent → Entry → Type 0
Delivers sent (Begin n i) = WasSent sent n i
Delivers sent (End n o ps kept) = ⊤
Delivers sent (Stop n landed) = ⊤

abbrev pub IsAired : List Sent → List Entry → Type 0
IsAired sent [] = ⊤
IsAired sent (e ∷ es) = Delivers sent e × IsAired (sent_by e ++ sent) es

-- the node of an entry
abbrev pub node_in : Entry → Node
node_in (Begin n i) = n
node_in (End n o ps kept) = n
node_in (Stop n landed) = n

abbrev pub AreOfNodes : Setting → List Entry → Type 0
AreOfNodes g [] = ⊤
AreOfNodes g (e ∷ es) = IsNode g (node_in e) × AreOfNodes g es

pub record TakenApart (g : Setting) (w : World) (es : List Entry) : Type 0 where
  pub turns : (n : Node) → Turns g n (at_node w n) es
  pub aired : IsAired w.sent es
  pub nodes : AreOfNodes g es

abbrev pub ApartIsRun : Type 0
ApartIsRun = (g : Setting) (w : World) (es : List Entry) → TakenApart g w es → IsRun g w es
