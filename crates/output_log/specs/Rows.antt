-- A pair, worked out.
use Rattle.std.specs.Prelude.{[], ◌∷◌}
use Rattle.event_id.specs.declared.id.EventId.{EventId}
use Rattle.registry_state.specs.declared.Token.{Token}
use Rattle.log_records.specs.declared.records.ClickRec.{ClickRec}
use Rattle.log_records.specs.declared.records.QueryRec.{QueryRec}
use Rattle.turn_defs.specs.declared.pair.PairRec.{PairRec}
use Rattle.output_log.specs.Pairs.{pair_of}

-- 10.0.0.1:7:1000
abbrev pub query_id : EventId
query_id = record { ip = 167772161; pid = 7; micros = 1000 }

-- 10.0.0.2:9:2000
abbrev pub click_id : EventId
click_id = record { ip = 167772162; pid = 9; micros = 2000 }

-- the query `shoes`
abbrev pub a_query : QueryRec
a_query = record { id = query_id; text = 115 ∷ 104 ∷ 111 ∷ 101 ∷ 115 ∷ [] }

-- the click `buy` on it
abbrev pub a_click : ClickRec
a_click = record { id = click_id; query = query_id; text = 98 ∷ 117 ∷ 121 ∷ [] }

abbrev pub a_token : Token
a_token = record { joiner = 1; epoch = 2; number = 3 }

-- both under that token
abbrev pub a_pair : PairRec
a_pair = pair_of a_click a_query a_token
