-- A turn as a core decides it, beside the row of a turn table.
use Rattle.std.specs.Prelude.{◌≡◌, ℕ, List, Bool, true, Option, None, IfSome, ⊤}
use Rattle.turn_defs.specs.declared.packet.Packet.{Packet}
use Rattle.turn_defs.specs.declared.node.Node.{Node}
use Rattle.turn_defs.specs.declared.node.Input.{Input}
use Rattle.turn_defs.specs.declared.node.Input.TheVariants.{Start}
use Rattle.turn_defs.specs.Setting.{Setting}
use Rattle.turn_defs.specs.Nodes.{Addressed}
use Rattle.turn_defs.specs.Turns.{Note, Out, land}
use Rattle.site_node.specs.declared.kind.NodeFault.{NodeFault}
use Rattle.site_node.specs.declared.kind.NodeFault.TheVariants.{Read, Spent, Memory}

-- why nothing was decided
abbrev pub IsUndecided : NodeFault → Type 0
IsUndecided Read = ⊤
IsUndecided (Spent last) = ⊤
IsUndecided Memory = ⊤
IsUndecided _ = ⊥

-- the kept epoch where the input would raise it past the last one
abbrev pub spent_at : {K : Type 0} → (K → Option ℕ) → K → Input → Option ℕ
spent_at spent k Start = spent k
spent_at spent k _ = None

-- The turn is the row's: it writes the row's note, which the records take, and sends the row's packets. Once the note is
-- written the core serves the records as they are then, and keeping the turn makes what the row says.
pub record IsTurn {K L : Type 0} (lands : Note → K → K) (takes : K → Note → Bool) (serves : K → Type 0) (goes_on : K → L → Type 0) (g : Setting) (k : K) (out : Out L) (note : Option Note) (packets : List (Node × Packet)) : Type 0 where
  pub noted : note ≡ out.note
  pub sent : Addressed g out.packets packets
  pub taken : IfSome out.note (λ n. takes k n ≡ true)
  pub served : serves (land lands out.note k)
  pub next : goes_on (land lands out.note k) out.live
