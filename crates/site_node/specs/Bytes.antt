-- Inputs, notes and packets as the bytes that carry them.
use Rattle.std.specs.Prelude.{◌≡◌, ℕ, List, map, Option, option_map, Some}
use Rattle.std.specs.List.{All}
use Rattle.paxos_defs.specs.Notes.Note.{Promised, Accepted}
use Rattle.paxos_acceptor.specs.declared.notes.ReplicaNote.TheVariants as replica
use Rattle.packet_codec.specs.Notes.{note, pair}
use Rattle.offset_journal.specs.Offsets.{offset_record}
use Rattle.epoch_journal.specs.Epochs.{epoch_record}
use Rattle.retry_log.specs.declared.changing.Change.TheVariants as change
use Rattle.retry_log.specs.Pending as pending
use Rattle.turn_defs.specs.declared.packet.Packet.{Packet}
use Rattle.turn_defs.specs.declared.node.Node.{Node}
use Rattle.turn_defs.specs.declared.node.Input.{Input}
use Rattle.turn_defs.specs.declared.node.Input.TheVariants.{Start, Own, Tick, Deliver}
use Rattle.turn_defs.specs.Packets.{packet, IsPacket}
use Rattle.air_bus.specs.declared.entry.Input.{Input as Bytes}
use Rattle.air_bus.specs.declared.entry.Input.TheVariants as bytes
use Rattle.turn_defs.specs.Setting.{Setting}
use Rattle.turn_defs.specs.Nodes.{node_number, node_of}
use Rattle.turn_defs.specs.Turns.{Note, Advance, Park, Settle, Epoch, Output, Voted}

-- the record of a note on its disk
abbrev pub record_of : Note → List ℕ
record_of (Advance e) = offset_record e
record_of (Park p) = pending.record_of (change.Park p)
record_of (Settle p) = pending.record_of (change.Settle p)
record_of (Epoch e) = epoch_record e
record_of (Output p) = pair p
record_of (Voted (Promised at b)) = note (replica.Promised at.shard at.slot b)
record_of (Voted (Accepted at b v)) = note (replica.Accepted at.shard at.slot b v)

-- the bytes are the note's record, where there is a note
abbrev pub IsNoted : Option Note → Option (List ℕ) → Type 0
IsNoted n b = b ≡ option_map record_of n

-- a packet with its receiver, as it is handed to the bus
abbrev pub addressed : Node × Packet → ℕ × List ℕ
addressed p = (node_number p.0, packet p.1)

-- the packets have spellings, and these are they
pub record AreSpelled (ps : List (Node × Packet)) (bs : List (ℕ × List ℕ)) : Type 0 where
  pub packets : All (λ (p : Node × Packet). IsPacket p.1) ps
  pub bytes : bs ≡ map addressed ps

-- what a turn begins with is this input: a packet by its one spelling, its sender by its number
abbrev pub Reads : Setting → Bytes → Input → Type 0
Reads g bytes.Start i = i ≡ Start
Reads g bytes.Own i = i ≡ Own
Reads g bytes.Tick i = i ≡ Tick
Reads g (bytes.Packet from b) i = (n : Node) × (p : Packet) × (node_of g from ≡ Some n) × IsPacket p × (b ≡ packet p) × (i ≡ Deliver n p)

-- no input is spelled so, or no node has the sender's number
abbrev pub IsJunk : Setting → Bytes → Type 0
IsJunk g b = (i : Input) → Reads g b i → ⊥

-- a delivered packet has a spelling
abbrev pub IsInput : Input → Type 0
IsInput Start = Unit {0}
IsInput Own = Unit {0}
IsInput Tick = Unit {0}
IsInput (Deliver n p) = IsPacket p
