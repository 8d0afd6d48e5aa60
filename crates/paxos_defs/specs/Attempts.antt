-- The turns of a proposer.
use Rattle.std.specs.Prelude.{ℕ, ◌*◌, Bool, true, false, not, if◌then◌else◌, nat_lt, List, length, replicate, set, slice_get, Option, Some, None}
use Rattle.ballot_core.specs.declared.Ballot.{Ballot}
use Rattle.ballot_core.specs.Majority.{marked}
use Rattle.paxos_defs.specs.declared.Place.{Place}
use Rattle.paxos_defs.specs.Turns.{higher, value_for}

-- How far an attempt to have a value chosen has come. Promising: which replicas have promised, and the highest prior
-- that they told. Accepting: the value that was sent, and which replicas have accepted it. Ended: learned, refused,
-- or lost in a restart.
pub data Phase (V : Type 0) : Type 0 where
  Promising : List Bool → Option (Ballot × V) → Phase V
  Accepting : V → List Bool → Phase V
  Ended : Phase V

-- An attempt at a ballot, which is drawn for this place alone.
pub record Attempt (V : Type 0) : Type 0 where
  pub place : Place
  pub own : V
  pub phase : Phase V

-- the replica is a member that hasn't been counted
abbrev pub is_unmarked : Option Bool → Bool
is_unmarked None = false
is_unmarked (Some m) = not m

abbrev pub is_new : List Bool → ℕ → Bool
is_new marks r = is_unmarked (slice_get marks r)

-- more than half are marked
abbrev pub is_most : List Bool → Bool
is_most marks = nat_lt (length marks) (2 * marked marks)

abbrev pub nobody : ℕ → List Bool
nobody n = replicate n false

-- a promise more is counted; at a majority the value is sent
abbrev pub with_promise : {V : Type 0} → V → List Bool → Option (Ballot × V) → Phase V × Option V
with_promise own marks best =
    if is_most marks then (Accepting (value_for own best) (nobody (length marks)), Some (value_for own best)) else (Promising marks best, None)

abbrev pub on_promise : {V : Type 0} → V → Phase V → ℕ → Option (Ballot × V) → Phase V × Option V
on_promise own (Promising marks best) r prior = if is_new marks r then with_promise own (set marks r true) (higher best prior) else (Promising marks best, None)
on_promise own (Accepting v marks) r prior = (Accepting v marks, None)
on_promise own Ended r prior = (Ended, None)

-- an acceptance more is counted; at a majority the value is learned
abbrev pub with_acceptance : {V : Type 0} → V → List Bool → Phase V × Option V
with_acceptance v marks = if is_most marks then (Ended, Some v) else (Accepting v marks, None)

abbrev pub on_accepted : {V : Type 0} → Phase V → ℕ → Phase V × Option V
on_accepted (Promising marks best) r = (Promising marks best, None)
on_accepted (Accepting v marks) r = if is_new marks r then with_acceptance v (set marks r true) else (Accepting v marks, None)
on_accepted Ended r = (Ended, None)
