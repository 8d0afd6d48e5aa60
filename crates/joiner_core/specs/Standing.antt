-- What a joiner's core stands for, and what a turn of it answers.
use Rattle.std.specs.Prelude.{◌≡◌, ℕ, suc, ◌-◌, ◌^◌, ◌<◌, ◌≤◌, Bool, true, false, not, ◌&&◌, nat_lt, List, ◌++◌, [], ◌∷◌, length, Option, Some, None, option_map}
use Rattle.joiner_core.specs.Terms.{MOST_FLIGHTS, LAST_EPOCH, EventId, Token, Click, Packet, Node, Input, Start, Own, Tick, Deliver, Setting, site_of_joiner, Note, Epoch, Output, Out, land, JoinerKept, JoinerLive, land_joiner, in_flight, landed, joiner_start, joiner_turn}
use Rattle.log_records.specs.Log.{first}
use Rattle.turn_defs.specs.declared.packet.Packet.TheVariants as packet
use Rattle.turn_defs.specs.Nodes.{Addressed}
use Rattle.joiner_core.specs.Flying.{flights, flight_of, room}
use Rattle.joiner_core.specs.Held.{IsHeld}
use Rattle.joiner_core.specs.declared.input.Looked.{Looked}
use Rattle.joiner_core.specs.declared.input.Looked.TheVariants.{Found, Lines}
use Rattle.joiner_core.specs.declared.input.JoinerInput.{JoinerInput}
use Rattle.joiner_core.specs.declared.input.JoinerInput.TheVariants as input
use Rattle.joiner_core.specs.declared.turn.JoinerNote.{JoinerNote}
use Rattle.joiner_core.specs.declared.turn.JoinerNote.TheVariants as notes
use Rattle.joiner_core.specs.declared.turn.Change.{Change}
use Rattle.joiner_core.specs.declared.turn.Change.TheVariants.{Stay, Begin, Fly, Land}
use Rattle.site_node.specs.declared.deciding.Turn.{Turn as Decision}
use Rattle.joiner_core.specs.declared.node_core.JoinerCore.{JoinerCore}

abbrev pub Turn : Type 0
Turn = Decision JoinerNote Change

-- its numbers are those of the setting's joiner n
pub record Serves (core : JoinerCore) (g : Setting) (n : ℕ) : Type 0 where
  pub node : core.node ≡ n
  pub site : core.site ≡ site_of_joiner g n

-- what it knows while it is up
abbrev pub known : JoinerCore → JoinerLive
known core = record { number = core.number; flight = flights core.flights }

-- it stands for the joiner n that keeps k and knows l
pub record Stands (core : JoinerCore) (g : Setting) (n : ℕ) (k : JoinerKept) (l : JoinerLive) : Type 0 where
  pub serves : Serves core g n
  pub epoch : core.epoch ≡ k.epoch
  pub live : known core ≡ l

-- whatever it stood for it stands for
pub record IsSame (old new : JoinerCore) : Type 0 where
  pub node : new.node ≡ old.node
  pub site : new.site ≡ old.site
  pub epoch : new.epoch ≡ old.epoch
  pub live : known new ≡ known old

-- It takes the input as the joiner n that keeps k and knows l. Before a Start it may stand for anything.
abbrev pub IsReady : JoinerCore → Setting → ℕ → JoinerKept → JoinerLive → JoinerInput → Type 0
IsReady core g n k l (input.Start e) = Serves core g n
IsReady core g n k l _ = Stands core g n k l

-- a Join of a click with this id needs the click's query to be looked for
abbrev pub needs_look_up : JoinerLive → EventId → Bool
needs_look_up l i = not (in_flight l.flight i) && nat_lt (length l.flight) MOST_FLIGHTS

-- the query log says so of the click's query
abbrev pub Tells : Setting → Click → Looked → Type 0
Tells g c (Found q) = first g.queries c.query ≡ Some q
Tells g c (Lines n) = (first g.queries c.query ≡ None) × (length g.queries ≡ n)

abbrev pub IsJoin : Packet → Type 0
IsJoin (packet.Join p c) = Unit {0}
IsJoin _ = ⊥

-- the input stands for i, and says what k and the query log say
abbrev pub Carries : Setting → JoinerKept → JoinerLive → JoinerInput → Input → Type 0
Carries g k l (input.Start e) i = (i ≡ Start) × (k.epoch ≡ e)
Carries g k l input.Own i = i ≡ Own
Carries g k l input.Tick i = i ≡ Tick
Carries g k l (input.Join p c looked) i =
    ((from : Node) × (i ≡ Deliver from (packet.Join p c))) × (needs_look_up l c.id ≡ true → Tells g c looked)
Carries g k l (input.Packet from p) i = (i ≡ Deliver from p) × (IsJoin p → ⊥)

-- a Start carries an epoch below the greatest that a disk may keep
abbrev pub CanStart : JoinerInput → Type 0
CanStart (input.Start e) = e < LAST_EPOCH
CanStart _ = Unit {0}

-- the row for an input
abbrev pub row : Setting → ℕ → JoinerKept → JoinerLive → Input → Out JoinerLive
row g n k l Start = joiner_start k
row g n k l i = joiner_turn g n k l i

-- the note as a disk has it
abbrev pub note_of : JoinerNote → Note
note_of (notes.Epoch e) = Epoch e
note_of (notes.Pair p) = Output p

-- what a change makes of what is known, and of the epoch
abbrev pub changed : Change → JoinerLive → JoinerLive
changed Stay l = l
changed (Begin e) l = record { number = 0; flight = [] }
changed (Fly id w) l = record { number = suc l.number; flight = l.flight ++ flight_of id w ∷ [] }
changed (Land x) l = record l { flight = landed l.flight x }

abbrev pub epoch_after : Change → ℕ → ℕ
epoch_after (Begin e) old = e
epoch_after _ old = old

-- the core can make the change: there are room, a place and a number for a new flight, whose parts have spellings
abbrev pub CanChange : JoinerCore → Change → Type 0
CanChange core (Fly id w) =
    (0 < room core.flights) × (length (flights core.flights) < MOST_FLIGHTS) × (in_flight (flights core.flights) id ≡ false)
    × (core.number < 2 ^ 64 - 1) × IsHeld (id, w)
CanChange core (Begin e) = e ≤ LAST_EPOCH
CanChange core _ = Unit {0}

-- once the change is made, the core stands for the joiner n that keeps k and knows l
pub record Leads (core : JoinerCore) (change : Change) (g : Setting) (n : ℕ) (k : JoinerKept) (l : JoinerLive) : Type 0 where
  pub serves : Serves core g n
  pub epoch : epoch_after change core.epoch ≡ k.epoch
  pub live : changed change (known core) ≡ l

-- the turn is the row: its note and its packets, and once its note is written and it is kept, what is kept and known then
pub record Answers (core : JoinerCore) (g : Setting) (n : ℕ) (k : JoinerKept) (out : Out JoinerLive) (t : Turn) : Type 0 where
  pub note : option_map note_of t.note ≡ out.note
  pub packets : Addressed g out.packets t.packets.items
  pub next : Leads core t.change g n (land land_joiner out.note k) out.live

-- the turn has this note, these packets and this change
pub record Does (t : Turn) (written : Option JoinerNote) (sent : List (Node × Packet)) (made : Change) : Type 0 where
  pub note : t.note ≡ written
  pub packets : t.packets.items ≡ sent
  pub change : t.change ≡ made

abbrev pub own_token : JoinerCore → Token
own_token core = record { joiner = core.node; epoch = core.epoch; number = core.number }
