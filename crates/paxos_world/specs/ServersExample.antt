-- A run in which both servers learn a value.
use Rattle.std.specs.Prelude.{List, [], ◌∷◌}
use Rattle.paxos_world.specs.ServersWorld.{Event}
use Rattle.paxos_world.specs.ServersWorld.Event.{Proposes, Comes, Returns, Starts}

-- the packet that was sent last is number 0
abbrev pub first_slot : {V : Type 0} → V → List (Event V)
first_slot v =
    Starts 0 ∷ Starts 1 ∷ Proposes 0 0 v ∷ Comes 0 0 ∷ Comes 1 1 ∷ Returns 0 0 ∷ Returns 0 1
    ∷ Comes 0 0 ∷ Comes 2 1 ∷ Returns 0 0 ∷ Returns 0 1 ∷ Returns 1 0 ∷ []
