-- Worked turns of a replica.
use Rattle.std.specs.Prelude.{◌≡◌, ℕ, List, [], ◌∷◌, Some, None}
use Rattle.replica_node.specs.Terms.{Ballot, BallotNote, Batch, Deliver, Out, Own, Packet, Place, ReplicaKept, Tick, Voted, replica_start, replica_turn, idle, one_batch}
use Rattle.paxos_defs.specs.Notes.Note.{Promised, Accepted}
use Rattle.turn_defs.specs.declared.packet.Packet.TheVariants as packet
use Rattle.turn_defs.specs.declared.node.Node.TheVariants.{Server}
use Rattle.turn_defs.specs.declared.node.To.TheVariants.{Only}

abbrev pub place : Place
place = record { shard = 3; slot = 0 }

abbrev pub ballot : ℕ → Ballot
ballot round = record { round = round; epoch = 1; site = 0 }

abbrev pub kept : List BallotNote → ReplicaKept
kept notes = record { notes = notes }

abbrev pub promised : ℕ → BallotNote
promised round = Promised place (ballot round)

abbrev pub accepted : ℕ → BallotNote
accepted round = Accepted place (ballot round) one_batch

-- a batch without inserts
abbrev pub no_inserts : Batch
no_inserts = record { bound = 0; inserts = [] }

-- a turn on the server's packet, after these notes
abbrev pub turn : List BallotNote → Packet → Out (Unit {0})
turn notes p = replica_turn (kept notes) (Deliver (Server 0) p)

-- the packet is answered without a note
abbrev pub answering : Packet → Out (Unit {0})
answering p = record { note = None; packets = (Only (Server 0), p) ∷ []; live = tt }

-- the note is written, and the packet is answered
abbrev pub noting : BallotNote → Packet → Out (Unit {0})
noting n p = record { note = Some (Voted n); packets = (Only (Server 0), p) ∷ []; live = tt }

pub record WorkedTurns : Type 0 where
  pub starts : replica_start (kept (accepted 1 ∷ [])) ≡ idle tt
  -- Prepare, row by row
  pub refuses : turn (promised 2 ∷ []) (packet.Prepare place (ballot 1)) ≡ answering (packet.Nack place (ballot 1) (ballot 2))
  pub refuses_after_acceptance : turn (accepted 2 ∷ []) (packet.Prepare place (ballot 1)) ≡ answering (packet.Nack place (ballot 1) (ballot 2))
  pub promises_again : turn (promised 1 ∷ []) (packet.Prepare place (ballot 1)) ≡ answering (packet.Promise place (ballot 1) None)
  pub promises : turn [] (packet.Prepare place (ballot 1)) ≡ noting (promised 1) (packet.Promise place (ballot 1) None)
  pub tells_prior : turn (accepted 1 ∷ []) (packet.Prepare place (ballot 2)) ≡ noting (promised 2) (packet.Promise place (ballot 2) (Some (ballot 1, one_batch)))
  pub tells_prior_again : turn (accepted 1 ∷ promised 2 ∷ []) (packet.Prepare place (ballot 2)) ≡ answering (packet.Promise place (ballot 2) (Some (ballot 1, one_batch)))
  pub other_place : turn (promised 2 ∷ []) (packet.Prepare (record place { slot = 1 }) (ballot 1)) ≡ noting (Promised (record place { slot = 1 }) (ballot 1)) (packet.Promise (record place { slot = 1 }) (ballot 1) None)
  -- Accept, row by row
  pub declines : turn (promised 2 ∷ []) (packet.Accept place (ballot 1) one_batch) ≡ answering (packet.Nack place (ballot 1) (ballot 2))
  pub accepts_again : turn (accepted 1 ∷ []) (packet.Accept place (ballot 1) one_batch) ≡ answering (packet.Accepted place (ballot 1))
  pub accepts : turn (promised 1 ∷ []) (packet.Accept place (ballot 1) one_batch) ≡ noting (accepted 1) (packet.Accepted place (ballot 1))
  pub accepts_unasked : turn [] (packet.Accept place (ballot 1) one_batch) ≡ noting (accepted 1) (packet.Accepted place (ballot 1))
  pub accepts_later : turn (accepted 1 ∷ []) (packet.Accept place (ballot 2) no_inserts) ≡ noting (Accepted place (ballot 2) no_inserts) (packet.Accepted place (ballot 2))
  -- nothing else is answered
  pub own : replica_turn (kept []) Own ≡ idle tt
  pub tick : replica_turn (kept (accepted 1 ∷ [])) Tick ≡ idle tt
  pub other_packet : turn [] (packet.Chosen place one_batch) ≡ idle tt
