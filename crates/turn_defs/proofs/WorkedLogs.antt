-- The logs of the worked turns hold the records of the worked setting.
use Rattle.std.proofs.Common.{◌≡◌, [], ◌∷◌, ◌++◌, refl, sym, lit<, lit≤, arith}
use Rattle.std.specs.Prelude.{Contains}
use Rattle.std.specs.Fmt.{digits}
use Rattle.std.proofs.lemmas.List.Elements.{All-from_recursion}
use Rattle.event_id.specs.EventId.{spell, dotted}
use Rattle.log_records.specs.Text.{IsPrintable}
use Rattle.log_records.specs.Line.{query_line, click_line, IsQuery, IsClick}
use Rattle.log_records.specs.Log.{whole}
use Rattle.log_records.specs.Lines.{placed}
use Rattle.log_records.specs.Rows.{one_query, one_click}
use Rattle.turn_defs.specs.Setting.{IsOver}
use Rattle.turn_defs.specs.Rows.{worked, query_log, click_log, one_line}

query_whole : query_log ≡ whole (query_line one_query ∷ []) ++ []
unfolding spell dotted digits
query_whole = refl

click_whole : click_log ≡ whole (click_line one_click ∷ []) ++ []
unfolding spell dotted digits
click_whole = refl

is_query : IsQuery one_query
is_query = record { id = record { ip = lit< tt; pid = lit< tt; micros = lit< tt }; text = record { len = lit≤ tt; bytes = All-from_recursion IsPrintable one_query.text ((lit≤ tt, lit≤ tt), ((lit≤ tt, lit≤ tt), ((lit≤ tt, lit≤ tt), ((lit≤ tt, lit≤ tt), ((lit≤ tt, lit≤ tt), tt))))) } }

is_click : IsClick one_click
is_click = record { id = record { ip = lit< tt; pid = lit< tt; micros = lit< tt }; query = record { ip = lit< tt; pid = lit< tt; micros = lit< tt }; text = record { len = lit≤ tt; bytes = All-from_recursion IsPrintable one_click.text ((lit≤ tt, lit≤ tt), ((lit≤ tt, lit≤ tt), ((lit≤ tt, lit≤ tt), tt))) } }

-- the elements of a list of one are one
one : {A : Type 0} (x y z : A) → Contains (x ∷ []) y → Contains (x ∷ []) z → y ≡ z
one {A} x y z a b = grind arith

click_end : placed 0 (one_click ∷ []) ≡ one_line ∷ []
unfolding spell dotted digits
click_end = refl

pub worked_over : IsOver worked query_log click_log
worked_over =
    record {
      queries = record { lines = ([], query_whole, tt); each = (is_query, tt); one = λ q r a b e. one one_query q r a b };
      clicks = record { clicks = one_click ∷ []; holds = record { lines = ([], click_whole, tt); each = (is_click, tt); one = λ q r a b e. one one_click q r a b }; lines = sym click_end };
    }
