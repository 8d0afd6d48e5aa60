-- The joins in flight, as the code holds them.
use Rattle.std.specs.Prelude.{ℕ, List, map}
use Rattle.joiner_core.specs.Terms.{spare, EventId, Token, Click, Packet, Node, Server, Flight, insert_of}
use Rattle.log_records.specs.declared.records.QueryRec.{QueryRec as Query}
use Rattle.turn_defs.specs.declared.packet.Packet.TheVariants.{Insert}
use Rattle.turn_defs.specs.declared.pair.PairRec.{PairRec}
use Rattle.joiner_core.specs.declared.flights.Waiting.{Waiting}
use Rattle.joiner_core.specs.declared.flights.Flights.{Flights}

-- the join of the click with this id
abbrev pub flight_of : EventId → Waiting → Flight
flight_of id w = record {
  position = w.position;
  click = record { id = id; query = w.asked; text = w.text };
  query = w.query;
  token = w.token;
}

-- the joins in flight, in order
abbrev pub flights : Flights → List Flight
flights f = map (λ e. flight_of e.0 e.1) f.waiting.entries

-- for how many more there is room
abbrev pub room : Flights → ℕ
room f = spare f.waiting

-- what is kept of a join, but for its click's id
abbrev pub waiting_of : ℕ → Click → Query → Token → Waiting
waiting_of p c q t = record { position = p; asked = c.query; text = c.text; query = q; token = t }

-- its insert, to a site's server
abbrev pub claim_to : ℕ → Flight → Node × Packet
claim_to site f = (Server site, Insert (insert_of f))

-- the pair of a join
abbrev pub pair_of : Flight → PairRec
pair_of f = record { click = f.click; query = f.query; token = f.token }
