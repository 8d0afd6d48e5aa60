-- Worked rows of packets' spellings.
use Rattle.std.specs.Prelude.{◌≡◌, ℕ, [], ◌∷◌, Some}
use Rattle.event_id.specs.declared.id.EventId.{EventId}
use Rattle.registry_state.specs.declared.Token.{Token}
use Rattle.registry_state.specs.declared.Insert as inserts
use Rattle.registry_state.specs.declared.Answer.TheVariants as answers
use Rattle.ballot_core.specs.declared.Ballot.{Ballot}
use Rattle.paxos_defs.specs.declared.Place.{Place}
use Rattle.turn_defs.specs.declared.packet.Outcome.TheVariants.{NoQuery}
use Rattle.turn_defs.specs.declared.packet.Packet.TheVariants.{Join, Joined, Insert, Reply, Promise, Nack, Chosen}
use Rattle.turn_defs.specs.Packets.{packet}

abbrev pub some_id : EventId
some_id = record { ip = 167772162; pid = 9; micros = 2000 }

abbrev pub some_token : Token
some_token = record { joiner = 7; epoch = 1; number = 0 }

abbrev pub some_insert : inserts.Insert
some_insert = record { id = some_id; token = some_token }

abbrev pub some_place : Place
some_place = record { shard = 15; slot = 3 }

abbrev pub ballot_of : ℕ → Ballot
ballot_of round = record { round = round; epoch = 4; site = 1 }

abbrev pub InsertRow : Type 0
InsertRow = packet (Insert some_insert) ≡ 19 ∷ 10 ∷ 0 ∷ 0 ∷ 2 ∷ 0 ∷ 0 ∷ 0 ∷ 9 ∷ 0 ∷ 0 ∷ 0 ∷ 0 ∷ 0 ∷ 0 ∷ 7 ∷ 208 ∷ 0 ∷ 7 ∷ 0 ∷ 0 ∷ 0 ∷ 1 ∷ 0 ∷ 0 ∷ 0 ∷ 0 ∷ 0 ∷ 0 ∷ 0 ∷ 0 ∷ []

abbrev pub JoinRow : Type 0
JoinRow = packet (Join 5 (record { id = some_id; query = some_id; text = 104 ∷ 105 ∷ [] }))
    ≡ 17 ∷ 0 ∷ 0 ∷ 0 ∷ 0 ∷ 0 ∷ 0 ∷ 0 ∷ 5 ∷ 10 ∷ 0 ∷ 0 ∷ 2 ∷ 0 ∷ 0 ∷ 0 ∷ 9 ∷ 0 ∷ 0 ∷ 0 ∷ 0 ∷ 0 ∷ 0 ∷ 7 ∷ 208 ∷ 10 ∷ 0 ∷ 0 ∷ 2 ∷ 0 ∷ 0 ∷ 0 ∷ 9 ∷ 0 ∷ 0 ∷ 0 ∷ 0 ∷ 0 ∷ 0 ∷ 7 ∷ 208 ∷ 2 ∷ 104 ∷ 105 ∷ []

abbrev pub JoinedRow : Type 0
JoinedRow = packet (Joined 5 (NoQuery 258)) ≡ 18 ∷ 0 ∷ 0 ∷ 0 ∷ 0 ∷ 0 ∷ 0 ∷ 0 ∷ 5 ∷ 3 ∷ 0 ∷ 0 ∷ 0 ∷ 0 ∷ 0 ∷ 0 ∷ 1 ∷ 2 ∷ []

abbrev pub ReplyRow : Type 0
ReplyRow = packet (Reply some_insert answers.Granted) ≡ 20 ∷ 10 ∷ 0 ∷ 0 ∷ 2 ∷ 0 ∷ 0 ∷ 0 ∷ 9 ∷ 0 ∷ 0 ∷ 0 ∷ 0 ∷ 0 ∷ 0 ∷ 7 ∷ 208 ∷ 0 ∷ 7 ∷ 0 ∷ 0 ∷ 0 ∷ 1 ∷ 0 ∷ 0 ∷ 0 ∷ 0 ∷ 0 ∷ 0 ∷ 0 ∷ 0 ∷ 0 ∷ []

-- with what was accepted at a lower ballot
abbrev pub PromiseRow : Type 0
PromiseRow = packet (Promise some_place (ballot_of 2) (Some (ballot_of 1, record { bound = 6; inserts = [] })))
    ≡ 22 ∷ 15 ∷ 0 ∷ 0 ∷ 0 ∷ 0 ∷ 0 ∷ 0 ∷ 0 ∷ 3 ∷ 0 ∷ 0 ∷ 0 ∷ 0 ∷ 0 ∷ 0 ∷ 0 ∷ 2 ∷ 0 ∷ 0 ∷ 0 ∷ 4 ∷ 1 ∷ 1 ∷ 0 ∷ 0 ∷ 0 ∷ 0 ∷ 0 ∷ 0 ∷ 0 ∷ 1 ∷ 0 ∷ 0 ∷ 0 ∷ 4 ∷ 1 ∷ 0 ∷ 0 ∷ 0 ∷ 0 ∷ 0 ∷ 0 ∷ 0 ∷ 6 ∷ 0 ∷ []

-- the ballot that is refused stands before the one that was promised
abbrev pub NackRow : Type 0
NackRow = packet (Nack some_place (ballot_of 1) (ballot_of 2)) ≡ 23 ∷ 15 ∷ 0 ∷ 0 ∷ 0 ∷ 0 ∷ 0 ∷ 0 ∷ 0 ∷ 3 ∷ 0 ∷ 0 ∷ 0 ∷ 0 ∷ 0 ∷ 0 ∷ 0 ∷ 1 ∷ 0 ∷ 0 ∷ 0 ∷ 4 ∷ 1 ∷ 0 ∷ 0 ∷ 0 ∷ 0 ∷ 0 ∷ 0 ∷ 0 ∷ 2 ∷ 0 ∷ 0 ∷ 0 ∷ 4 ∷ 1 ∷ []

abbrev pub ChosenRow : Type 0
ChosenRow = packet (Chosen some_place (record { bound = 6; inserts = some_insert ∷ [] }))
    ≡ 26 ∷ 15 ∷ 0 ∷ 0 ∷ 0 ∷ 0 ∷ 0 ∷ 0 ∷ 0 ∷ 3 ∷ 0 ∷ 0 ∷ 0 ∷ 0 ∷ 0 ∷ 0 ∷ 0 ∷ 6 ∷ 1 ∷ 10 ∷ 0 ∷ 0 ∷ 2 ∷ 0 ∷ 0 ∷ 0 ∷ 9 ∷ 0 ∷ 0 ∷ 0 ∷ 0 ∷ 0 ∷ 0 ∷ 7 ∷ 208 ∷ 0 ∷ 7 ∷ 0 ∷ 0 ∷ 0 ∷ 1 ∷ 0 ∷ 0 ∷ 0 ∷ 0 ∷ 0 ∷ 0 ∷ 0 ∷ 0 ∷ []
