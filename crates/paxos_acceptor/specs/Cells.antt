-- An acceptor as what it knows of each place, and its turns in the terms of the code.
use Rattle.std.specs.Prelude.{◌≡◌, ℕ, if◌then◌else◌, Option, Some, None, option_map}
use Rattle.std.specs.HashMap.{get, spare}
use Rattle.ballot_core.specs.declared.Ballot.{Ballot}
use Rattle.ballot_core.specs.Ballots.{IsBelow}
use Rattle.registry_state.specs.declared.Batch.{Batch}
use Rattle.paxos_defs.specs.declared.Place.{Place}
use Rattle.paxos_defs.specs.Notes.{Note, note_of, Vote, promise, acceptance, Cell, blank, cell_after, is_place}
use Rattle.paxos_defs.specs.Turns as turns
use Rattle.paxos_defs.specs.Turns.Prepared.{Grant, Refuse}
use Rattle.paxos_defs.specs.Turns.Taken.{Take, Decline}
use Rattle.paxos_acceptor.specs.declared.acceptor.Known.{Known}
use Rattle.paxos_acceptor.specs.declared.acceptor.Acceptor.{Acceptor}
use Rattle.paxos_acceptor.specs.declared.notes.ReplicaNote.{ReplicaNote}
use Rattle.paxos_acceptor.specs.declared.notes.ReplicaNote.TheVariants.{Promised, Accepted}
use Rattle.paxos_acceptor.specs.declared.notes.Prepared.{Prepared}
use Rattle.paxos_acceptor.specs.declared.notes.Prepared.TheVariants as prepared
use Rattle.paxos_acceptor.specs.declared.notes.Taken.{Taken}
use Rattle.paxos_acceptor.specs.declared.notes.Taken.TheVariants as taken

abbrev pub cell_of_known : Option Known → Cell Batch
cell_of_known None = blank
cell_of_known (Some k) = record { promised = Some k.promised; accepted = k.accepted }

-- what the acceptor knows of a place
abbrev pub cell_at : Acceptor → Place → Cell Batch
cell_at a p = cell_of_known (get is_place a.places p)

-- how many places it can take without memory
abbrev pub room : Acceptor → ℕ
room a = spare a.places

abbrev pub place_of : ℕ → ℕ → Place
place_of shard slot = record { shard = shard; slot = slot }

-- what it knows of a slot of a shard
abbrev pub cell_in : Acceptor → ℕ → ℕ → Cell Batch
cell_in a shard slot = cell_at a (place_of shard slot)

-- it promised this ballot, which is above b
pub record HasPromisedAbove (c : Cell Batch) (promised b : Ballot) : Type 0 where
  pub at : c.promised ≡ Some promised
  pub above : IsBelow b promised

abbrev pub note_place : ReplicaNote → Place
note_place (Promised shard slot b) = place_of shard slot
note_place (Accepted shard slot b v) = place_of shard slot

abbrev pub vote_of : ReplicaNote → Vote Batch
vote_of (Promised shard slot b) = promise b
vote_of (Accepted shard slot b v) = acceptance b v

-- what is known of a place after the note
abbrev pub cell_with : ReplicaNote → Place → Cell Batch → Cell Batch
cell_with note p c = if is_place (note_place note) p then cell_after c (vote_of note) else c

-- the note in the terms of the definitions
abbrev pub note_view : ReplicaNote → Note Batch
note_view note = note_of (note_place note) (vote_of note)

-- the note of a vote in a slot of a shard
abbrev pub note_by : ℕ → ℕ → Ballot → Option Batch → ReplicaNote
note_by shard slot b None = Promised shard slot b
note_by shard slot b (Some v) = Accepted shard slot b v

abbrev pub note_for : ℕ → ℕ → Vote Batch → ReplicaNote
note_for shard slot x = note_by shard slot x.ballot x.value

-- the answers as the code gives them
abbrev pub prepared_as : turns.Prepared Batch → Prepared
prepared_as (Grant prior) = prepared.Promise prior
prepared_as (Refuse b) = prepared.Nack b

abbrev pub taken_as : turns.Taken → Taken
taken_as Take = taken.Accepted
taken_as (Decline b) = taken.Nack b

-- a turn as the code gives it: the note of its vote, if any, and the answer
abbrev pub prepare_turn : ℕ → ℕ → Option (Vote Batch) × turns.Prepared Batch → Option ReplicaNote × Prepared
prepare_turn shard slot t = (option_map (note_for shard slot) t.0, prepared_as t.1)

abbrev pub accept_turn : ℕ → ℕ → Option (Vote Batch) × turns.Taken → Option ReplicaNote × Taken
accept_turn shard slot t = (option_map (note_for shard slot) t.0, taken_as t.1)
