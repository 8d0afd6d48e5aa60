-- What the bytes of a journal file stand for.
use Rattle.std.specs.Prelude.{◌≡◌, ◌⊎◌, ℕ, zero, suc, ◌+◌, ◌-◌, List, [], ◌∷◌, ◌++◌, length, get_or, take, drop, Bool, true, false, ◌&&◌, ◌==◌, nat_le, nat_lt, if◌then◌else◌, Result, Ok, Err}
use Rattle.std.specs.Result.{result_unwrap_or}
use Rattle.std.specs.Int.{from_be_bytes, to_be_bytes, w32}
use Rattle.gate_journal.specs.declared.frame.TheConstants.{MAX_PAYLOAD}

-- the length that a record's first four bytes say
abbrev pub record_size : List ℕ → ℕ
record_size bytes = from_be_bytes w32 (take 4 bytes)

-- the bytes begin with a whole record and the gate behind it
abbrev pub is_whole : List ℕ → Bool
is_whole bytes = nat_le (record_size bytes) MAX_PAYLOAD && nat_lt (4 + record_size bytes) (length bytes)

-- The payloads of the whole records that the bytes behind the first `skip` begin with, each with an open gate before it.
abbrev pub payloads_behind : (skip : ℕ) → List ℕ → List (List ℕ)
payloads_behind (suc skip) (byte ∷ bytes) = payloads_behind skip bytes
payloads_behind zero (gate ∷ bytes) = if gate == 165 && is_whole bytes then take (record_size bytes) (drop 4 bytes) ∷ payloads_behind (4 + record_size bytes) bytes else []
payloads_behind skip [] = []

abbrev pub payloads_in : List ℕ → List (List ℕ)
payloads_in bytes = payloads_behind 0 bytes

-- how many bytes the records take with the gates before them
abbrev pub spans : List (List ℕ) → ℕ
spans [] = 0
spans (p ∷ ps) = 5 + length p + spans ps

-- what a gate behind records says: the records and its place where it is closed, else the place behind it
abbrev pub gate_behind : List (List ℕ) → (is_open : Bool) → Result (List (List ℕ) × ℕ) ℕ
gate_behind ps true = Err (spans ps + 1)
gate_behind ps false = Ok (ps, spans ps)

-- what a file is read as: the records that it begins with, and what the gate behind them says
unfoldable pub reading : List ℕ → Result (List (List ℕ) × ℕ) ℕ
reading bytes = gate_behind (payloads_in bytes) (get_or bytes (spans (payloads_in bytes)) 165 == 165)

abbrev pub only_records : Result (List (List ℕ) × ℕ) ℕ → Result (List (List ℕ)) ℕ
only_records (Ok r) = Ok r.0
only_records (Err at) = Err at

-- The records of a file, or the place of its damage. A file of no byte or one is fresh.
abbrev pub gate_rule : List ℕ → Result (List (List ℕ)) ℕ
gate_rule bytes = if nat_le (length bytes) 1 then Ok [] else only_records (reading bytes)

abbrev pub StandsFor : List (List ℕ) → List ℕ → Type 0
StandsFor records bytes = gate_rule bytes ≡ Ok records

-- the file stands for the records, or for them and the new one
abbrev pub IsOldOrNew : List (List ℕ) → List ℕ → List ℕ → Type 0
IsOldOrNew records new bytes = StandsFor records bytes ⊎ StandsFor (records ++ new ∷ []) bytes

-- the records of a file that isn't damaged
abbrev pub records : List ℕ → List (List ℕ)
records bytes = result_unwrap_or (gate_rule bytes) []

-- a record as it is written behind a gate: its length, its payload and a closed gate
abbrev pub framed : List ℕ → List ℕ
framed payload = to_be_bytes w32 (length payload) ++ payload ++ 0 ∷ []

-- and the payload of such bytes with a gate before them
abbrev pub payload_of : List ℕ → List ℕ
payload_of bytes = take (length bytes - 6) (drop 5 bytes)
