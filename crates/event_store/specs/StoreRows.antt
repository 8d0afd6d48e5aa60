-- Worked rows of what a store has read, and of how many entries its index has.
use Rattle.std.specs.Prelude.{◌≡◌, ℕ, zero, suc, ◌+◌, List, [], ◌∷◌, ◌++◌, Option, Some, None, codes}
use Rattle.log_records.specs.declared.records.QueryRec.{QueryRec}
use Rattle.log_records.specs.Rows.{one_query}
use Rattle.event_store.specs.Read.{AreRead}
use Rattle.event_store.specs.Order.{entries_of}

-- a line of a process
abbrev pub line : ℕ → ℕ → Option QueryRec
line pid micros = Some (record { id = record { ip = 0x0A000001; pid = pid; micros = micros }; text = [] })

-- so many lines of process 7, each above the one before
abbrev pub rising : ℕ → List (Option QueryRec)
rising zero = []
rising (suc n) = rising n ++ line 7 (1000 + n) ∷ []

pub record EntriesAreCounted : Type 0 where
  pub no_line : entries_of [] ≡ 0
  pub refused : entries_of (None ∷ []) ≡ 0
  pub one : entries_of (rising 1) ≡ 1
  pub sixteen : entries_of (rising 16) ≡ 1
  pub seventeen : entries_of (rising 17) ≡ 2
  pub forty : entries_of (rising 40) ≡ 3
  pub out_of_order : entries_of (rising 40 ++ line 7 999 ∷ []) ≡ 4
  pub that_again : entries_of (rising 40 ++ line 7 999 ∷ line 7 999 ∷ []) ≡ 4
  pub another : entries_of (rising 40 ++ line 7 999 ∷ line 7 998 ∷ []) ≡ 5
  pub last_again : entries_of (rising 40 ++ line 7 1039 ∷ []) ≡ 4
  pub other_process : entries_of (rising 40 ++ line 8 999 ∷ []) ≡ 4
  pub refused_between : entries_of (rising 16 ++ None ∷ line 7 1016 ∷ []) ≡ 2

-- a record, an empty line, and one that isn't whole
abbrev pub small_log : List ℕ
small_log = codes "10.0.0.1:7:1000 shoes\n\n10.0"

pub record LinesAreRead : Type 0 where
  pub none : AreRead small_log 0 []
  pub first : AreRead small_log 22 (Some one_query ∷ [])
  pub both : AreRead small_log 23 (Some one_query ∷ None ∷ [])
