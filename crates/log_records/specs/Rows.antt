-- The records of the worked rows.
use Rattle.std.specs.Prelude.{List, [], ◌∷◌, codes}
use Rattle.log_records.specs.declared.records.QueryRec.{QueryRec}
use Rattle.log_records.specs.declared.records.ClickRec.{ClickRec}

-- a query from process 7 at 10.0.0.1
abbrev pub one_query : QueryRec
one_query = record { id = record { ip = 0x0A000001; pid = 7; micros = 1000 }; text = codes "shoes" }

-- a click on it, from process 9 at 10.0.0.2
abbrev pub one_click : ClickRec
one_click = record { id = record { ip = 0x0A000002; pid = 9; micros = 2000 }; query = one_query.id; text = codes "buy" }

-- another query of the same process
abbrev pub hats : QueryRec
hats = record { id = record { ip = 0x0A000001; pid = 7; micros = 2000 }; text = codes "hats" }

-- a log of three lines, the last of which is the first again
abbrev pub three_lines : List QueryRec
three_lines = one_query ∷ hats ∷ one_query ∷ []
