-- Fields that are made of two or three others.
use Rattle.std.proofs.Common.{◌≡◌, ℕ, List, [], ◌∷◌, ◌++◌, ◌<◌, ◌≤◌, length, refl, arith}
use Rattle.packet_codec.proofs.Words.{AreCounted, Batch, Each, Insert, IsBallot, IsBatch, IsInsert, IsNumber, IsPlace, IsToken, MOST_INSERTS, Run, Spelled, Stop, Stops, ballot, batch, click, counted, insert, inserts, number, place, query, text, token}
use Rattle.packet_codec.proofs.BadPlaces.{stops_on}
use Rattle.event_id.specs.declared.id.EventId.{EventId}
use Rattle.event_id.specs.EventId.{packed, IsId}
use Rattle.registry_state.specs.declared.Token.{Token}
use Rattle.packet_codec.specs.declared.fields.numbers.Small.{Small}
use Rattle.packet_codec.specs.declared.fields.numbers.Capped.{Capped}
use Rattle.ballot_core.specs.declared.Ballot.{Ballot}
use Rattle.paxos_defs.specs.declared.Place.{Place}
use Rattle.log_records.specs.declared.records.QueryRec.{QueryRec}
use Rattle.log_records.specs.declared.records.ClickRec.{ClickRec}
use Rattle.log_records.specs.Text.{IsText}
use Rattle.log_records.specs.Line.{IsQuery, IsClick}
use Rattle.packet_codec.proofs.Counts.{text_apart, counted_apart, counted_sum, inserts_bad, some_text}
use Rattle.packet_codec.proofs.PartLaws.{IsApart, Two, Three, IsPair, IsTriple, pair_bad, triple_bad, pair_apart, triple_apart, tag_bad, next_whole}
use Rattle.packet_codec.specs.Numbers.{half, IsHalf, word, IsWord, small, IsSmall, capped, IsCapped}
use Rattle.packet_codec.proofs.Numbers.{half_apart, word_apart, number_apart, small_apart, capped_apart}

pub id_made : IsTriple word IsWord word IsWord number IsNumber packed IsId (λ ip pid micros. record { ip = ip; pid = pid; micros = micros })
id_made = record {
  is = λ a b c p q r. record { ip = p; pid = q; micros = r };
  parts = λ t h. (t.ip, t.pid, t.micros, h.ip, h.pid, h.micros, refl);
  spelled = λ a b c. refl;
}

pub id_bad : (bytes : List ℕ) (stop : Stop) → Stops (Three word IsWord word IsWord number IsNumber) bytes stop → Stops (Spelled packed IsId) bytes stop
id_bad bytes stop = triple_bad _ _ _ _ _ _ _ _ _ bytes stop id_made

pub id_apart : IsApart packed IsId
id_apart = triple_apart _ _ _ _ _ _ _ _ _ id_made word_apart word_apart number_apart

pub token_made : IsTriple half IsHalf word IsWord number IsNumber token IsToken (λ joiner epoch n. record { joiner = joiner; epoch = epoch; number = n })
token_made = record {
  is = λ a b c p q r. record { joiner = p; epoch = q; number = r };
  parts = λ t h. (t.joiner, t.epoch, t.number, h.joiner, h.epoch, h.number, refl);
  spelled = λ a b c. refl;
}

pub token_bad : (bytes : List ℕ) (stop : Stop) → Stops (Three half IsHalf word IsWord number IsNumber) bytes stop → Stops (Spelled token IsToken) bytes stop
token_bad bytes stop = triple_bad _ _ _ _ _ _ _ _ _ bytes stop token_made

pub token_apart : IsApart token IsToken
token_apart = triple_apart _ _ _ _ _ _ _ _ _ token_made half_apart word_apart number_apart

pub insert_made : IsPair packed IsId token IsToken insert IsInsert (λ id token. record { id = id; token = token })
insert_made = grind arith

pub insert_bad : (bytes : List ℕ) (stop : Stop) → Stops (Two packed IsId token IsToken) bytes stop → Stops (Spelled insert IsInsert) bytes stop
insert_bad bytes stop = pair_bad _ _ _ _ _ _ _ bytes stop insert_made

pub insert_apart : IsApart insert IsInsert
insert_apart = pair_apart _ _ _ _ _ _ _ insert_made id_apart token_apart

pub ballot_made : IsTriple small IsSmall word IsWord (capped 1) (IsCapped 1) ballot IsBallot (λ round epoch site. record { round = round.number; epoch = epoch; site = site.byte })
ballot_made = record {
  is = λ a b c p q r. record { round = p; epoch = q; site = omega (arith, r) };
  parts = λ t h. (record { number = t.round }, t.epoch, record { byte = t.site }, h.round, h.epoch, omega (arith, h.site), refl);
  spelled = λ a b c. refl;
}

pub ballot_bad : (bytes : List ℕ) (stop : Stop) → Stops (Three small IsSmall word IsWord (capped 1) (IsCapped 1)) bytes stop → Stops (Spelled ballot IsBallot) bytes stop
ballot_bad bytes stop = triple_bad _ _ _ _ _ _ _ _ _ bytes stop ballot_made

pub ballot_apart : IsApart ballot IsBallot
ballot_apart = triple_apart _ _ _ _ _ _ _ _ _ ballot_made small_apart word_apart (capped_apart 1)

pub place_made : IsPair (capped 15) (IsCapped 15) small IsSmall place IsPlace (λ shard slot. record { shard = shard.byte; slot = slot.number })
place_made = record {
  is = λ a b p q. record { shard = omega (arith, p); slot = q };
  parts = λ t h. (record { byte = t.shard }, record { number = t.slot }, omega (arith, h.shard), h.slot, refl);
  spelled = λ a b. refl;
}

pub place_bad : (bytes : List ℕ) (stop : Stop) → Stops (Two (capped 15) (IsCapped 15) small IsSmall) bytes stop → Stops (Spelled place IsPlace) bytes stop
place_bad bytes stop = pair_bad _ _ _ _ _ _ _ bytes stop place_made

pub place_apart : IsApart place IsPlace
place_apart = pair_apart _ _ _ _ _ _ _ place_made (capped_apart 15) small_apart

pub inserts_apart : IsApart counted AreCounted
inserts_apart = counted_apart insert_apart

pub batch_made : IsPair number IsNumber counted AreCounted batch IsBatch (λ bound xs. record { bound = bound; inserts = xs })
batch_made = record {
  is = λ a b p q. record { bound = p; count = q.count; inserts = q.each };
  parts = λ t h. (t.bound, t.inserts, h.bound, record { count = h.count; each = h.inserts }, refl);
  spelled = λ a b. refl;
}

pub batch_bad : (bytes : List ℕ) (stop : Stop) → Stops (Two number IsNumber counted AreCounted) bytes stop → Stops (Spelled batch IsBatch) bytes stop
batch_bad bytes stop = pair_bad _ _ _ _ _ _ _ bytes stop batch_made

pub batch_apart : IsApart batch IsBatch
batch_apart = pair_apart _ _ _ _ _ _ _ batch_made number_apart inserts_apart

pub query_made : IsPair packed IsId text IsText query IsQuery (λ id t. record { id = id; text = t })
query_made = grind arith

pub query_bad : (bytes : List ℕ) (stop : Stop) → Stops (Two packed IsId text IsText) bytes stop → Stops (Spelled query IsQuery) bytes stop
query_bad bytes stop = pair_bad _ _ _ _ _ _ _ bytes stop query_made

pub query_apart : IsApart query IsQuery
query_apart = pair_apart _ _ _ _ _ _ _ query_made id_apart text_apart

pub click_made : IsTriple packed IsId packed IsId text IsText click IsClick (λ id of t. record { id = id; query = of; text = t })
click_made = grind arith

pub click_bad : (bytes : List ℕ) (stop : Stop) → Stops (Three packed IsId packed IsId text IsText) bytes stop → Stops (Spelled click IsClick) bytes stop
click_bad bytes stop = triple_bad _ _ _ _ _ _ _ _ _ bytes stop click_made

pub click_apart : IsApart click IsClick
click_apart = triple_apart _ _ _ _ _ _ _ _ _ click_made id_apart id_apart text_apart

-- ---- a value of each kind

pub some_half : (n : ℕ) × IsHalf n
some_half = (0, omega arith)

pub some_word : (n : ℕ) × IsWord n
some_word = (0, omega arith)

pub some_small : (x : Small) × IsSmall x
some_small = (record { number = 0 }, omega arith)

pub some_capped : (most : ℕ) → (x : Capped most) × IsCapped most x
some_capped most = (record { byte = 0 }, omega arith)

pub some_counted : (xs : List Insert) × AreCounted xs
some_counted = ([], record { count = omega arith; each = tt })

pub some_number : (n : ℕ) × IsNumber n
some_number = (0, omega arith)

pub some_id : (x : EventId) × IsId x
some_id = (record { ip = 0; pid = 0; micros = 0 }, record { ip = omega arith; pid = omega arith; micros = omega arith })

pub some_token : (x : Token) × IsToken x
some_token = (record { joiner = 0; epoch = 0; number = 0 }, record { joiner = omega arith; epoch = omega arith; number = omega arith })

pub some_insert : (x : Insert) × IsInsert x
some_insert = (record { id = some_id.0; token = some_token.0 }, record { id = some_id.1; token = some_token.1 })

pub some_ballot : (x : Ballot) × IsBallot x
some_ballot = (record { round = 0; epoch = 0; site = 0 }, record { round = omega arith; epoch = omega arith; site = omega arith })

pub some_place : (x : Place) × IsPlace x
some_place = (record { shard = 0; slot = 0 }, record { shard = omega arith; slot = omega arith })

pub some_batch : (x : Batch) × IsBatch x
some_batch = (record { bound = 0; inserts = [] }, record { bound = omega arith; count = omega arith; inserts = tt })

pub some_query : (x : QueryRec) × IsQuery x
some_query = (record { id = some_id.0; text = some_text.0 }, record { id = some_id.1; text = some_text.1 })

pub some_click : (x : ClickRec) × IsClick x
some_click = (record { id = some_id.0; query = some_id.0; text = some_text.0 }, record { id = some_id.1; query = some_id.1; text = some_text.1 })

-- ---- a list of inserts that can't be read

pub counted_tag : (bytes : List ℕ) (stop : Stop) → Stops (Run 1 0 MOST_INSERTS) bytes stop → Stops (Spelled counted AreCounted) bytes stop
counted_tag bytes stop = tag_bad 0 _ _ _ _ bytes stop (counted_sum some_insert)

-- bad in an insert behind others
pub counted_bad : (xs : List Insert) (count : ℕ) (bytes rest : List ℕ) (stop : Stop) → count ≤ MOST_INSERTS → length xs < count → Each IsInsert xs → bytes ≡ count ∷ (inserts xs ++ rest) → Stops (Spelled insert IsInsert) rest stop → Stops (Spelled counted AreCounted) bytes stop
counted_bad xs count bytes rest stop few lt each e = stops_on (Spelled insert IsInsert) (Spelled counted AreCounted) rest bytes stop
    (λ left bad. next_whole 0 _ _ _ _ count count bytes (inserts xs ++ rest) left (counted_sum some_insert) few (omega arith) e (inserts_bad insert_apart some_insert xs count (inserts xs ++ rest) rest left lt each refl bad))
