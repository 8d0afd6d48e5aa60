-- Replies to inserts with their answers.
use Rattle.std.specs.Prelude.{ℕ, List, [], ◌∷◌, ◌++◌}
use Rattle.registry_server.specs.Terms.{Answer, Insert, Packet, Setting, To, reply}

abbrev pub each_reply : Setting → ℕ → List (Insert × Answer) → List (To × Packet)
each_reply g site [] = []
each_reply g site (p ∷ ps) = reply g site p.0 p.1 ++ each_reply g site ps
