-- Replicas and every packet that was ever sent, and what may happen to them.
use Rattle.std.specs.Prelude.{ℕ, Bool, if◌then◌else◌, ◌&&◌, ◌==◌, nat_lt, List, [], ◌∷◌, ◌++◌, length, get_or, set, slice_get, Option, Some, None}
use Rattle.paxos_world.specs.Terms.{Ballot, Cell, Note, Place, Prepared, Taken, Vote, cell_after, cell_of, is_place, note_of, on_accept, on_prepare, votes}
use Rattle.paxos_defs.specs.Turns.Prepared.{Grant, Refuse}
use Rattle.paxos_defs.specs.Turns.Taken.{Take, Decline}

-- Promise, Nack and Accepted name the replica that sent them. A Promise has what it accepted before, a Nack the ballot
-- that it promised. A Chosen tells another server what was learned.
pub data Packet (V : Type 0) : Type 0 where
  Prepare : Place → Ballot → Packet V
  Promise : ℕ → Place → Ballot → Option (Ballot × V) → Packet V
  Nack : ℕ → Place → Ballot → Ballot → Packet V
  Accept : Place → Ballot → V → Packet V
  Accepted : ℕ → Place → Ballot → Packet V
  Chosen : Place → V → Packet V

pub record Replicas (V : Type 0) : Type 0 where
  -- the notes of each replica, which outlive a restart
  pub journals : List (List (Note V))
  -- what each replica keeps in memory of a place
  pub cells : ℕ → Place → Cell V
  -- every packet that was ever sent
  pub packets : List (Packet V)

-- The journals that earlier runs left, all of whose packets are lost.
abbrev pub restored : {V : Type 0} → List (List (Note V)) → Replicas V
restored journals = record { journals = journals; cells = λ r p. cell_of (votes journals p r); packets = [] }

abbrev pub sent : {V : Type 0} → Replicas V → Packet V → Replicas V
sent a x = record a { packets = x ∷ a.packets }

-- replica r casts a vote at p: the note is written, and remembered
abbrev pub casts : {V : Type 0} → Replicas V → ℕ → Place → Option (Vote V) → Replicas V
casts a r p None = a
casts a r p (Some x) =
    record a {
      journals = set a.journals r (get_or a.journals r [] ++ note_of p x ∷ []);
      cells = λ k q. if k == r && is_place p q then cell_after (a.cells r p) x else a.cells k q;
    }

abbrev pub prepared : {V : Type 0} → ℕ → Place → Ballot → Prepared V → Packet V
prepared r p b (Grant prior) = Promise r p b prior
prepared r p b (Refuse promised) = Nack r p b promised

abbrev pub taken : {V : Type 0} → ℕ → Place → Ballot → Taken → Packet V
taken r p b Take = Accepted r p b
taken r p b (Decline promised) = Nack r p b promised

-- a packet comes to replica r: the note first, then the answer
abbrev pub comes : {V : Type 0} → (V → V → Bool) → Replicas V → ℕ → Option (Packet V) → Replicas V
comes same a r (Some (Prepare p b)) = let turn = on_prepare (a.cells r p) b in sent (casts a r p turn.0) (prepared r p b turn.1)
comes same a r (Some (Accept p b v)) = let turn = on_accept same (a.cells r p) b v in sent (casts a r p turn.0) (taken r p b turn.1)
comes same a r _ = a

-- one of the packets that were sent
abbrev pub arrives : {V : Type 0} → (V → V → Bool) → Replicas V → ℕ → ℕ → Replicas V
arrives same a r which = if nat_lt r (length a.journals) then comes same a r (slice_get a.packets which) else a

-- memory is made from the journal
abbrev pub restarts : {V : Type 0} → Replicas V → ℕ → Replicas V
restarts a r = record a { cells = λ k p. if k == r then cell_of (votes a.journals p r) else a.cells k p }
