-- An Air may go to another thread. The prover shows this by itself of a struct whose fields' types it knows, but not of a type that leads back to itself.
use Rattle.std.proofs.Common.{arith}
use Rattle.air_bus.proofs.Words.{RattleType, IsSend, sendable, crosses}
use Rattle.air_bus.specs.contracts.air.Air as air
use Rattle.air_bus.specs.contracts.history.History as history
use Rattle.air_bus.specs.contracts.trail.Trail as trail
use Rattle.air_bus.proofs.entry.Entry.TheSendSync as entry
use Rattle.air_bus.proofs.entry.Phase.TheSendSync as phase
use Rattle.air_bus.proofs.inbox.Inbox.TheSendSync as inbox
use Rattle.air_bus.proofs.links.Links.TheSendSync as links

trail_send : (T : RattleType) → IsSend (trail.the_row T)
trail_send T = grind arith

history_send : IsSend history.the_row
history_send = search (sendable, crosses, trail_send, entry.the_send) depth 20

pub air_send : IsSend air.the_row
air_send = search (sendable, crosses, phase.the_send, inbox.the_send, links.the_field_send, history_send) depth 20
