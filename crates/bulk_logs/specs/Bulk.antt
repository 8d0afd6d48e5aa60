-- Logs made from two numbers: a seed, and how many clicks.
use Rattle.std.specs.Prelude.{ℕ, zero, suc, ◌+◌, ◌*◌, ◌-◌, ◌/◌, ◌%◌, ◌^◌, ◌==◌, List, [], ◌∷◌, ◌++◌, map, codes, decimal, if◌then◌else◌}
use Rattle.std.specs.List.{range_with_len, count_by}
use Rattle.event_id.specs.declared.id.EventId.{EventId}
use Rattle.log_records.specs.declared.records.QueryRec.{QueryRec}
use Rattle.log_records.specs.declared.records.ClickRec.{ClickRec}
use Rattle.log_records.specs.Line.{query_line, click_line}
use Rattle.log_records.specs.Log.{line_feed, whole}
use Rattle.log_records.specs.declared.report.ReportLine.{ReportLine}
use Rattle.log_records.specs.Report.{is_joined, is_missing, is_expired, is_unmatched, distinct, line_of}

-- ---- the numbers drawn

-- the generator's number after x
abbrev pub after : ℕ → ℕ
after x = (x * 6364136223846793005 + 1442695040888963407) % 2 ^ 64

-- its number after i steps
abbrev pub x_after : ℕ → ℕ → ℕ
x_after seed zero = seed
x_after seed (suc i) = after (x_after seed i)

-- the i-th number drawn, from 0: the upper 31 bits
abbrev pub drawn : ℕ → ℕ → ℕ
drawn seed i = x_after seed (suc i) / 2 ^ 33

-- ---- line k, from its two numbers

-- at one of 16 addresses from 10.0.0.0 on
abbrev pub query_id : ℕ → ℕ → ℕ → EventId
query_id k one other = record { ip = 167772160 + one % 16; pid = other % 64; micros = 1000000 + 10 * k }

-- one click in ten is older than the others
abbrev pub click_micros : ℕ → ℕ
click_micros k = if k % 10 == 4 then 500000 + k else 2000000 + 10 * k

-- at one of 16 addresses from 10.0.1.0 on
abbrev pub click_id : ℕ → ℕ → ℕ → EventId
click_id k one other = record { ip = 167772416 + other % 16; pid = one % 64; micros = click_micros k }

-- an id that no query has, at 9.9.9.9
abbrev pub nowhere : ℕ → EventId
nowhere k = record { ip = 151587081; pid = 9; micros = k }

-- the query that click k tells: that of its line, but for one click in ten
abbrev pub told_id : ℕ → ℕ → ℕ → EventId
told_id k one other = if k % 10 == 9 then nowhere k else query_id k one other

-- the text is `q` and a number
abbrev pub query_made : ℕ → ℕ → ℕ → QueryRec
query_made k one other = record { id = query_id k one other; text = 113 ∷ decimal one }

-- the text is `c` and a number
abbrev pub click_made : ℕ → ℕ → ℕ → ClickRec
click_made k one other = record { id = click_id k one other; query = told_id k one other; text = 99 ∷ decimal other }

-- ---- both logs

abbrev pub query_at : ℕ → ℕ → QueryRec
query_at seed k = query_made k (drawn seed (2 * k)) (drawn seed (2 * k + 1))

abbrev pub click_at : ℕ → ℕ → ClickRec
click_at seed k = click_made k (drawn seed (2 * k)) (drawn seed (2 * k + 1))

abbrev pub queries : ℕ → ℕ → List QueryRec
queries seed n = map (query_at seed) (range_with_len 0 n)

abbrev pub clicks : ℕ → ℕ → List ClickRec
clicks seed n = map (click_at seed) (range_with_len 0 n)

abbrev pub query_log : ℕ → ℕ → List ℕ
query_log seed n = whole (map query_line (queries seed n))

abbrev pub click_log : ℕ → ℕ → List ℕ
click_log seed n = whole (map click_line (clicks seed n))

-- ---- the report of both logs

abbrev pub horizon : ℕ
horizon = 1000000

abbrev pub lines : ℕ → ℕ → List ReportLine
lines seed n = map (line_of (queries seed n) horizon) (distinct (clicks seed n))

-- how many of these lines are of each kind: joined, missing, expired, unmatched
abbrev pub kinds : List ReportLine → List ℕ
kinds ls = count_by is_joined ls ∷ count_by is_missing ls ∷ count_by is_expired ls ∷ count_by is_unmatched ls ∷ []

-- the clicks whose number ends in 4
abbrev pub expired : ℕ → ℕ
expired n = (n + 5) / 10

-- the clicks whose number ends in 9
abbrev pub unmatched : ℕ → ℕ
unmatched n = n / 10

-- the others
abbrev pub joined : ℕ → ℕ
joined n = n - expired n - unmatched n

-- how many of n clicks are of each kind
abbrev pub kinds_made : ℕ → List ℕ
kinds_made n = joined n ∷ 0 ∷ expired n ∷ unmatched n ∷ []

-- the totals line of n clicks
abbrev pub totals_made : ℕ → List ℕ
totals_made n = codes "= " ++ decimal (joined n) ++ codes " " ++ decimal 0 ++ codes " " ++ decimal (expired n) ++ codes " " ++ decimal (unmatched n) ++ line_feed ∷ []
