-- A replica's core beside the rows of its turns: what it stands for, and what a turn says and does.
use Rattle.std.specs.Prelude.{◌≡◌, ◌<◌, Option, option_map}
use Rattle.replica_node.specs.Terms.{Acceptor, Note, Out, Place, ReplicaKept, ReplicaNote, Setting, Voted, cell_at, note_view, room}
use Rattle.paxos_acceptor.specs.Cells as cells
use Rattle.turn_defs.specs.Nodes.{Addressed}
use Rattle.replica_node.specs.declared.turn.Change.{Change}
use Rattle.replica_node.specs.declared.turn.Change.TheVariants.{Stays, Starts}
use Rattle.site_node.specs.declared.deciding.Turn.{Turn as Decision}
use Rattle.replica_node.specs.declared.replica_core.ReplicaCore.{ReplicaCore}

abbrev pub Turn : Type 0
Turn = Decision ReplicaNote Change

-- the acceptor knows of each place what the kept notes say
abbrev pub Knows : Acceptor → ReplicaKept → Type 0
Knows acceptor k = (p : Place) → cells.cell_at acceptor p ≡ cell_at k p

-- the core stands for what the disk holds
abbrev pub Stands : ReplicaCore → ReplicaKept → Type 0
Stands core k = Knows core.acceptor k

-- a turn's note in the terms of the turn table
abbrev pub noted : Option ReplicaNote → Option Note
noted note = option_map (λ n. Voted (note_view n)) note

-- the turn writes the row's note, and sends the row's packets
pub record IsRow (g : Setting) (out : Out (Unit {0})) (turn : Turn) : Type 0 where
  pub note : noted turn.note ≡ out.note
  pub packets : Addressed g out.packets turn.packets.items

-- what the turn goes on from stands for what the disk held before its note
abbrev pub GoesOn : ReplicaCore → Change → ReplicaKept → Type 0
GoesOn core Stays k = Stands core k
GoesOn core (Starts acceptor) k = Knows acceptor k

abbrev pub HasRoomIn : ReplicaCore → Change → Type 0
HasRoomIn core Stays = 0 < room core.acceptor
HasRoomIn core (Starts acceptor) = 0 < room acceptor
