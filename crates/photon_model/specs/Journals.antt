-- The replicas' journals, and what is decided by them.
use Rattle.std.specs.Prelude.{ℕ, suc, List, [], ◌∷◌}
use Rattle.paxos_defs.specs.Decided as paxos
use Rattle.photon_model.specs.Terms.{BallotNote, Batch, ReplicaKept}
use Rattle.registry_state.specs.Same.{same_batch}

-- the values of a function at so many numbers from this one on
abbrev pub values_from : {A : Type 0} → (ℕ → A) → ℕ → ℕ → List A
values_from f from ℕ.zero = []
values_from f from (suc n) = f from ∷ values_from f (suc from) n

-- the journals of n replicas
abbrev pub journals : ℕ → (ℕ → ReplicaKept) → List (List BallotNote)
journals n r = values_from (λ k. (r k).notes) 0 n

abbrev pub decided : List (List BallotNote) → ℕ → List Batch
decided js shard = paxos.decided same_batch js shard
