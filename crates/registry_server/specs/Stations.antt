-- What is fixed for a server, as a setting; packets with their receivers.
use Rattle.std.specs.Prelude.{List, map, Option, Some, None}
use Rattle.std.specs.Borrow.{Bor}
use Rattle.registry_server.specs.Terms.{Ballot, Batch, Node, Only, Packet, Place, Setting, To, Prepare, Accept}
use Rattle.registry_server.specs.declared.station.Station.{Station}

-- the setting with the server's config
abbrev pub setting : Station → Setting → Setting
setting t g = record g { config = t.config }

-- the packets as a row gives them, each to one node
abbrev pub sent : List (Node × Packet) → List (To × Packet)
sent ps = map (λ (p : Node × Packet). (Only p.0, p.1)) ps

-- what a replica is asked: a promise, or to accept the value
abbrev pub request : Place → Ballot → Option (Bor Batch) → Packet
request at b None = Prepare at b
request at b (Some v) = Accept at b v.now
