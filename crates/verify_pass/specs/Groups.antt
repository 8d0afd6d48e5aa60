-- What the replicas accepted in a place, and which of it is chosen.
use Rattle.std.specs.Prelude.{ℕ, zero, suc, ◌*◌, ◌==◌, ◌&&◌, ◌++◌, Bool, nat_lt, List, [], ◌∷◌, map, filter, Option}
use Rattle.std.specs.List.{list_any}
use Rattle.verify_pass.specs.Terms.{Ballot, Batch, Place, ReplicaNote, note_view, same_batch, votes_at}
use Rattle.ballot_core.specs.Majority.{marked}
use Rattle.paxos_defs.specs.Decided as paxos
use Rattle.verify_pass.specs.declared.group.Acceptance.{Acceptance}

-- an acceptance without its replica, and with it
abbrev pub value_of : Acceptance → Ballot × Batch
value_of x = (x.ballot, x.batch.now)

abbrev pub cast_of : Acceptance → ℕ × (Ballot × Batch)
cast_of x = (x.replica, value_of x)

-- whether this is replica r's, of that batch and at that ballot
abbrev pub is_cast_by : ℕ → Ballot × Batch → Acceptance → Bool
is_cast_by r a x = (x.replica == r) && paxos.is_acceptance same_batch a (value_of x)

-- whether one of the group is
abbrev pub did_replica : List Acceptance → Ballot × Batch → ℕ → Bool
did_replica group a r = list_any (is_cast_by r a) group

-- the marks of the members 0 to n - 1
abbrev pub marks : (ℕ → Bool) → ℕ → List Bool
marks f zero = []
marks f (suc n) = f 0 ∷ marks (λ k. f (suc k)) n

-- whether more than half of n replicas did
abbrev pub is_most : ℕ → List Acceptance → Ballot × Batch → Bool
is_most n group a = nat_lt n (2 * marked (marks (did_replica group a) n))

-- of those that more than half did accept, the first one at the least ballot
abbrev pub picked : ℕ → List Acceptance → Option (Ballot × Batch)
picked n group = paxos.least same_batch (filter (is_most n group) (map value_of group))

-- what a replica's notes accept in a place
abbrev pub accepts : List ReplicaNote → Place → List (Ballot × Batch)
accepts notes p = paxos.accepted_in (votes_at p (map note_view notes))

-- the same, with the replica's number
abbrev pub casts : ℕ → List ReplicaNote → Place → List (ℕ × (Ballot × Batch))
casts r notes p = map (λ a. (r, a)) (accepts notes p)

-- and of all replicas, numbered from r on
abbrev pub casts_from : ℕ → List (List ReplicaNote) → Place → List (ℕ × (Ballot × Batch))
casts_from r [] p = []
casts_from r (notes ∷ journals) p = casts r notes p ++ casts_from (suc r) journals p
