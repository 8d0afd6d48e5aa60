-- The report: a line for each distinct click id, in the order of ids, and then how many of each kind there are.
use Rattle.std.specs.Prelude.{ℕ, List, [], ◌∷◌, ◌++◌, Option, Some, None, Bool, true, false, map, codes, decimal, nat_lt, if◌then◌else◌}
use Rattle.std.specs.List.{flat_map, count_by}
use Rattle.std.specs.FinMap as finite
use Rattle.event_id.specs.EventId.{spell, id_cmp}
use Rattle.log_records.specs.declared.records.QueryRec.{QueryRec}
use Rattle.log_records.specs.declared.records.ClickRec.{ClickRec}
use Rattle.log_records.specs.Log.{line_feed, first}
use Rattle.log_records.specs.declared.report.ReportLine.{ReportLine}
use Rattle.log_records.specs.declared.report.ReportLine.TheVariants.{J, M, X, U}

-- ---- bytes

abbrev pub tab : ℕ
tab = 9

abbrev pub line_text : ReportLine → List ℕ
line_text (J c q) = codes "J " ++ spell c.id ++ codes " " ++ spell c.query ++ codes " " ++ c.text ++ tab ∷ q.text ++ line_feed ∷ []
line_text (M id) = codes "M " ++ spell id ++ line_feed ∷ []
line_text (X id) = codes "X " ++ spell id ++ line_feed ∷ []
line_text (U id) = codes "U " ++ spell id ++ line_feed ∷ []

abbrev pub is_joined : ReportLine → Bool
is_joined (J c q) = true
is_joined (M id) = false
is_joined (X id) = false
is_joined (U id) = false

abbrev pub is_missing : ReportLine → Bool
is_missing (J c q) = false
is_missing (M id) = true
is_missing (X id) = false
is_missing (U id) = false

abbrev pub is_expired : ReportLine → Bool
is_expired (J c q) = false
is_expired (M id) = false
is_expired (X id) = true
is_expired (U id) = false

abbrev pub is_unmatched : ReportLine → Bool
is_unmatched (J c q) = false
is_unmatched (M id) = false
is_unmatched (X id) = false
is_unmatched (U id) = true

abbrev pub totals : List ReportLine → List ℕ
totals ls =
    codes "= " ++ decimal (count_by is_joined ls) ++ codes " " ++ decimal (count_by is_missing ls) ++ codes " " ++ decimal (count_by is_expired ls) ++ codes " " ++ decimal (count_by is_unmatched ls) ++ line_feed ∷ []

abbrev pub text_of : List ReportLine → List ℕ
text_of ls = flat_map line_text ls ++ totals ls

-- ---- of two logs, where nothing was kept before and no click is missing

-- the first click of each id, in the order of ids
abbrev pub distinct : List ClickRec → List ClickRec
distinct cs = finite.values (finite.from_entries {R = id_cmp} (map (λ c. (c.id, c)) cs))

abbrev pub pair_or_none : ClickRec → Option QueryRec → ReportLine
pair_or_none c None = U c.id
pair_or_none c (Some q) = J c q

abbrev pub line_of : List QueryRec → ℕ → ClickRec → ReportLine
line_of qs horizon c = if nat_lt c.id.micros horizon then X c.id else pair_or_none c (first qs c.query)

abbrev pub report : List QueryRec → List ClickRec → ℕ → List ℕ
report qs cs horizon = text_of (map (line_of qs horizon) (distinct cs))
