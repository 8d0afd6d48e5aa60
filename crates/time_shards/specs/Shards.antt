-- Tables of shard counts over time, and the shard of an id.
use Rattle.std.specs.Prelude.{ℕ, ◌≡◌, ◌≤◌, ◌<◌, ◌^◌, ◌+◌, ◌%◌, Bool, true, false, ◌==◌, ◌&&◌, max, nat_lt, nat_le, ⊤, List, [], ◌∷◌, ◌++◌, length, if◌then◌else◌, Result, Ok, Err}
use Rattle.time_shards.specs.declared.TheConstants.{MAX_ROWS, MAX_SHARDS}
use Rattle.list_words.specs.Lists.{Each}
use Rattle.event_id.specs.declared.id.EventId.{EventId}
use Rattle.time_shards.specs.declared.ShardRow.{ShardRow}
use Rattle.time_shards.specs.declared.AddFault.{AddFault}
use Rattle.time_shards.specs.declared.AddFault.TheVariants.{Rows, Start}

-- a row by itself: the start is a timestamp, and the count is 1 to 16
pub record IsRow (row : ShardRow) : Type 0 where
  pub start : row.start < 2 ^ 64
  pub some : 1 ≤ row.count
  pub few : row.count ≤ MAX_SHARDS

-- the first row, if any, starts at 0
abbrev pub StartsAtZero : List ShardRow → Type 0
StartsAtZero [] = ⊤
StartsAtZero (r ∷ rs) = r.start ≡ 0

-- each row starts later than the row before it
abbrev pub Rises : List ShardRow → Type 0
Rises [] = ⊤
Rises (r ∷ []) = ⊤
Rises (r ∷ s ∷ rs) = (r.start < s.start) × Rises (s ∷ rs)

-- the rows are a table's first ones, or none
pub record BeginsTable (rows : List ShardRow) : Type 0 where
  pub few : length rows ≤ MAX_ROWS
  pub zero : StartsAtZero rows
  pub rising : Rises rows
  pub each : Each IsRow rows

-- the rows are a table: 1 to 4
pub record IsTable (rows : List ShardRow) : Type 0 where
  pub some : 1 ≤ length rows
  pub begins : BeginsTable rows

-- whether a row is one, whether rows may stand behind one of this start, and whether they are a table
abbrev pub is_row : ShardRow → Bool
is_row row = nat_lt row.start (2 ^ 64) && (nat_le 1 row.count && nat_le row.count MAX_SHARDS)

abbrev pub go_on : ℕ → List ShardRow → Bool
go_on start [] = true
go_on start (r ∷ rs) = nat_lt start r.start && (is_row r && go_on r.start rs)

abbrev pub is_table : List ShardRow → Bool
is_table [] = false
is_table (r ∷ rs) = (r.start == 0) && (is_row r && (go_on r.start rs && nat_le (length (r ∷ rs)) MAX_ROWS))

-- the count of the last row whose start is not above the timestamp
abbrev pub count_at : ℕ → List ShardRow → ℕ → ℕ
count_at count [] micros = count
count_at count (r ∷ rs) micros = if nat_le r.start micros then count_at r.count rs micros else count

-- the shard of an id: the sum of its three numbers, by the count at its timestamp
abbrev pub shard_of : List ShardRow → EventId → ℕ
shard_of table id = (id.ip + id.pid + id.micros) % count_at 1 table id.micros

-- how many shards a table has: the greatest count
abbrev pub shard_count : List ShardRow → ℕ
shard_count [] = 0
shard_count (r ∷ rs) = max r.count (shard_count rs)

-- the start of the last row
abbrev pub last_start : List ShardRow → ℕ
last_start [] = 0
last_start (r ∷ []) = r.start
last_start (r ∷ s ∷ rs) = last_start (s ∷ rs)

-- the rows with one more behind them, or why it can't stand there: there are four, or it doesn't start later than the last one
abbrev pub added : List ShardRow → ShardRow → Result (List ShardRow) AddFault
added rows row = if length rows == MAX_ROWS then Err Rows else if nat_le row.start (last_start rows) then Err (Start (last_start rows)) else Ok (rows ++ row ∷ [])
