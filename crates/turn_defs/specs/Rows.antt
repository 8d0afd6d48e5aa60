-- The setting of the worked turns: one query, and one click on it.
use Rattle.std.specs.Prelude.{ℕ, List, [], ◌∷◌, codes}
use Rattle.log_records.specs.Lines.{ClickLine}
use Rattle.log_records.specs.Rows.{one_query, one_click}
use Rattle.registry_state.specs.declared.Token.{Token}
use Rattle.registry_state.specs.declared.Insert.{Insert}
use Rattle.registry_state.specs.declared.Batch.{Batch}
use Rattle.turn_defs.specs.Setting.{Setting}

-- the two logs
abbrev pub query_log : List ℕ
query_log = codes "10.0.0.1:7:1000 shoes\n"

abbrev pub click_log : List ℕ
click_log = codes "10.0.0.2:9:2000 10.0.0.1:7:1000 buy\n"

-- the click's line has 35 bytes and its line feed
abbrev pub one_line : ClickLine
one_line = record { place = 0; end_ = 36; click = one_click }

-- one joiner a site, 7 and 8; four shards; three replicas
abbrev pub worked : Setting
worked = record { queries = one_query ∷ []; clicks = one_line ∷ []; config = record { horizon = 0; joiners = 1; table = (record { start = 0; count = 4 }) ∷ []; batch = 64; replicas = 3 } }

-- the same with a horizon behind the click
abbrev pub worked_late : Setting
worked_late = record worked { config = record worked.config { horizon = 2001 } }

-- the tokens of joiner 7 in its first epoch, from 0
abbrev pub token : ℕ → Token
token n = record { joiner = 7; epoch = 1; number = n }

-- the click's id under such a token
abbrev pub insert : ℕ → Insert
insert n = record { id = one_click.id; token = token n }

-- a batch of that insert alone
abbrev pub one_batch : Batch
one_batch = record { bound = 0; inserts = insert 0 ∷ [] }
