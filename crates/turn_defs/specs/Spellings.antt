-- The one spelling of each kind of field, and which values have one. Numbers stand high byte first.
use Rattle.std.specs.Prelude.{ℕ, ◌^◌, ◌<◌, ◌≤◌, List, [], ◌∷◌, ◌++◌, length, Option, Some, None}
use Rattle.time_shards.specs.declared.TheConstants.{MAX_SHARDS}
use Rattle.registry_state.specs.declared.TheConstants.{MOST_INSERTS}
use Rattle.std.specs.Int.{w16, w32, w64, to_be_bytes}
use Rattle.event_id.specs.EventId.{packed, IsId}
use Rattle.registry_state.specs.declared.Token.{Token}
use Rattle.registry_state.specs.declared.Insert.{Insert}
use Rattle.registry_state.specs.declared.Batch.{Batch}
use Rattle.ballot_core.specs.declared.Ballot.{Ballot}
use Rattle.paxos_defs.specs.declared.Place.{Place}
use Rattle.registry_state.specs.declared.Answer.{Answer}
use Rattle.registry_state.specs.declared.Answer.TheVariants.{Granted, Duplicate, TooOld}
use Rattle.log_records.specs.declared.records.QueryRec.{QueryRec}
use Rattle.log_records.specs.declared.records.ClickRec.{ClickRec}
use Rattle.log_records.specs.Line.{IsClick, IsQuery}
use Rattle.list_words.specs.Lists.{Each}
use Rattle.turn_defs.specs.declared.pair.PairRec.{PairRec}

-- 8 bytes
abbrev pub number : ℕ → List ℕ
number n = to_be_bytes w64 n

abbrev pub IsNumber : ℕ → Type 0
IsNumber n = n < 2 ^ 64

-- 14 bytes
abbrev pub token : Token → List ℕ
token t = to_be_bytes w16 t.joiner ++ to_be_bytes w32 t.epoch ++ to_be_bytes w64 t.number

pub record IsToken (t : Token) : Type 0 where
  pub joiner : t.joiner < 2 ^ 16
  pub epoch : t.epoch < 2 ^ 32
  pub number : t.number < 2 ^ 64

-- 30 bytes
abbrev pub insert : Insert → List ℕ
insert x = packed x.id ++ token x.token

pub record IsInsert (x : Insert) : Type 0 where
  pub id : IsId x.id
  pub token : IsToken x.token

-- 13 bytes
abbrev pub ballot : Ballot → List ℕ
ballot b = to_be_bytes w64 b.round ++ to_be_bytes w32 b.epoch ++ b.site ∷ []

pub record IsBallot (b : Ballot) : Type 0 where
  pub round : b.round < 2 ^ 48
  pub epoch : b.epoch < 2 ^ 32
  pub site : b.site < 2

-- 9 bytes
abbrev pub place : Place → List ℕ
place p = p.shard ∷ to_be_bytes w64 p.slot

pub record IsPlace (p : Place) : Type 0 where
  pub shard : p.shard < MAX_SHARDS
  pub slot : p.slot < 2 ^ 48

-- one behind the other
abbrev pub inserts : List Insert → List ℕ
inserts [] = []
inserts (x ∷ xs) = insert x ++ inserts xs

-- 9 bytes, and 30 for each insert
abbrev pub batch_head : ℕ → ℕ → List ℕ
batch_head bound count = to_be_bytes w64 bound ++ count ∷ []

abbrev pub batch : Batch → List ℕ
batch b = batch_head b.bound (length b.inserts) ++ inserts b.inserts

pub record IsBatch (b : Batch) : Type 0 where
  pub bound : b.bound < 2 ^ 64
  pub count : length b.inserts ≤ MOST_INSERTS
  pub inserts : Each IsInsert b.inserts

-- a flag, and of something accepted the ballot and the batch
abbrev pub prior : Option (Ballot × Batch) → List ℕ
prior None = 0 ∷ []
prior (Some x) = 1 ∷ (ballot x.0 ++ batch x.1)

abbrev pub IsPrior : Option (Ballot × Batch) → Type 0
IsPrior None = Unit {0}
IsPrior (Some x) = IsBallot x.0 × IsBatch x.1

-- a tag, and what the answer tells
abbrev pub answer : Answer → List ℕ
answer Granted = 0 ∷ []
answer (Duplicate t) = 1 ∷ token t
answer (TooOld bound) = 2 ∷ to_be_bytes w64 bound

abbrev pub IsAnswer : Answer → Type 0
IsAnswer Granted = Unit {0}
IsAnswer (Duplicate t) = IsToken t
IsAnswer (TooOld bound) = bound < 2 ^ 64

-- the length in a byte, and the text
abbrev pub text : List ℕ → List ℕ
text t = length t ∷ t

abbrev pub query : QueryRec → List ℕ
query q = packed q.id ++ text q.text

abbrev pub click : ClickRec → List ℕ
click c = packed c.id ++ packed c.query ++ text c.text

-- the three fields of a pair have spellings
pub record IsPair (p : PairRec) : Type 0 where
  pub click : IsClick p.click
  pub query : IsQuery p.query
  pub token : IsToken p.token
