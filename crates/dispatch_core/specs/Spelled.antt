-- What has spellings: the clicks that a turn takes, and the packets that it sends.
use Rattle.std.specs.Prelude.{ℕ, List, All, IfSome}
use Rattle.dispatch_core.specs.Terms.{IsClick, Click, Packet, Join, Node, IsPacket}
use Rattle.dispatch_core.specs.declared.input.DispatchInput.{DispatchInput}
use Rattle.dispatch_core.specs.declared.input.DispatchInput.TheVariants as input
use Rattle.dispatch_core.specs.declared.input.TakenLine.{TakenLine}

-- a Join of the click at the position
abbrev pub IsJoin : ℕ × Click → Type 0
IsJoin j = IsPacket (Join j.0 j.1)

-- the clicks that were looked up are clicks of a log
abbrev pub IsTaken : DispatchInput → Type 0
IsTaken (input.Own line due) = IfSome line (λ (t : TakenLine). IsClick t.click) × IfSome due IsClick
IsTaken (input.Tick clicks) = All IsClick clicks.items
IsTaken _ = Unit {0}

abbrev pub ArePackets : List (Node × Packet) → Type 0
ArePackets ps = All (λ (p : Node × Packet). IsPacket p.1) ps
