-- Worked rows of the turns of a replica and a proposer, and of what is chosen and decided, over numbers as values.
use Rattle.std.specs.Prelude.{◌≡◌, ℕ, nat_eq, List, [], ◌∷◌, true, false, Some, None}
use Rattle.ballot_core.specs.declared.Ballot.{Ballot}
use Rattle.paxos_defs.specs.declared.Place.{Place}
use Rattle.paxos_defs.specs.Notes.{Note, promise, acceptance, cell_of}
use Rattle.paxos_defs.specs.Notes.Note.{Promised, Accepted}
use Rattle.paxos_defs.specs.Turns.{on_prepare, on_accept}
use Rattle.paxos_defs.specs.Turns.Prepared.{Grant, Refuse}
use Rattle.paxos_defs.specs.Turns.Taken.{Take, Decline}
use Rattle.paxos_defs.specs.Attempts.{nobody, on_promise, on_accepted}
use Rattle.paxos_defs.specs.Attempts.Phase.{Promising, Accepting, Ended}
use Rattle.paxos_defs.specs.Decided.{chosen, decided}

abbrev pub at : ℕ → Place
at slot = record { shard = 0; slot = slot }

abbrev pub round : ℕ → Ballot
round n = record { round = n; epoch = 1; site = 0 }

-- a low ballot of a late epoch
abbrev pub late : Ballot
late = record { round = 0; epoch = 9; site = 1 }

-- A replica's turns, after these votes at the place.
pub record TurnRows : Type 0 where
  pub first_prepare : on_prepare {V = ℕ} (cell_of []) (round 1) ≡ (Some (promise (round 1)), Grant None)
  pub same_prepare : on_prepare {V = ℕ} (cell_of (promise (round 1) ∷ [])) (round 1) ≡ (None, Grant None)
  pub low_prepare : on_prepare {V = ℕ} (cell_of (promise (round 1) ∷ [])) late ≡ (None, Refuse (round 1))
  pub prior_told : on_prepare {V = ℕ} (cell_of (acceptance (round 1) 7 ∷ [])) (round 2) ≡ (Some (promise (round 2)), Grant (Some (round 1, 7)))
  pub prior_told_again : on_prepare {V = ℕ} (cell_of (acceptance (round 1) 7 ∷ promise (round 2) ∷ [])) (round 2) ≡ (None, Grant (Some (round 1, 7)))
  pub accept : on_accept {V = ℕ} nat_eq (cell_of (promise (round 1) ∷ [])) (round 1) 7 ≡ (Some (acceptance (round 1) 7), Take)
  pub accept_unasked : on_accept {V = ℕ} nat_eq (cell_of []) (round 1) 7 ≡ (Some (acceptance (round 1) 7), Take)
  pub same_accept : on_accept {V = ℕ} nat_eq (cell_of (acceptance (round 1) 7 ∷ [])) (round 1) 7 ≡ (None, Take)
  pub low_accept : on_accept {V = ℕ} nat_eq (cell_of (promise (round 1) ∷ [])) late 7 ≡ (None, Decline (round 1))

-- A proposer of 8 among three replicas.
pub record ProposerRows : Type 0 where
  pub one_promise : on_promise {V = ℕ} 8 (Promising (nobody 3) None) 0 (Some (round 1, 7)) ≡ (Promising (true ∷ false ∷ false ∷ []) (Some (round 1, 7)), None)
  pub same_replica : on_promise {V = ℕ} 8 (Promising (true ∷ false ∷ false ∷ []) None) 0 None ≡ (Promising (true ∷ false ∷ false ∷ []) None, None)
  pub stranger : on_promise {V = ℕ} 8 (Promising (true ∷ false ∷ false ∷ []) None) 3 None ≡ (Promising (true ∷ false ∷ false ∷ []) None, None)
  pub sends_prior : on_promise {V = ℕ} 8 (Promising (true ∷ false ∷ false ∷ []) (Some (round 1, 7))) 1 None ≡ (Accepting 7 (nobody 3), Some 7)
  pub sends_higher : on_promise {V = ℕ} 8 (Promising (true ∷ false ∷ false ∷ []) (Some (round 1, 7))) 1 (Some (round 2, 6)) ≡ (Accepting 6 (nobody 3), Some 6)
  pub sends_own : on_promise {V = ℕ} 8 (Promising (true ∷ false ∷ false ∷ []) None) 2 None ≡ (Accepting 8 (nobody 3), Some 8)
  pub one_acceptance : on_accepted {V = ℕ} (Accepting 8 (nobody 3)) 1 ≡ (Accepting 8 (false ∷ true ∷ false ∷ []), None)
  pub learned : on_accepted {V = ℕ} (Accepting 8 (false ∷ true ∷ false ∷ [])) 2 ≡ (Ended, Some 8)
  pub two_of_five : on_accepted {V = ℕ} (Accepting 8 (true ∷ false ∷ false ∷ false ∷ false ∷ [])) 2 ≡ (Accepting 8 (true ∷ false ∷ true ∷ false ∷ false ∷ []), None)

-- 7 in slot 0 by a majority at one ballot, 8 in slot 1 by one replica alone, 9 in slot 2
abbrev pub gap : List (List (Note ℕ))
gap =
    (Accepted (at 0) (round 1) 7 ∷ Accepted (at 2) (round 4) 9 ∷ [])
    ∷ (Promised (at 0) (round 1) ∷ Accepted (at 0) (round 1) 7 ∷ Accepted (at 1) (round 2) 8 ∷ [])
    ∷ (Accepted (at 0) (round 3) 7 ∷ Accepted (at 2) (round 4) 9 ∷ Promised (at 2) (round 5) ∷ [])
    ∷ []

-- 7 accepted by each replica, but by no majority at one ballot
abbrev pub scattered : List (List (Note ℕ))
scattered = (Accepted (at 0) (round 1) 7 ∷ []) ∷ (Accepted (at 0) (round 2) 7 ∷ []) ∷ (Accepted (at 0) (round 3) 7 ∷ []) ∷ []

-- journals that don't agree: 7 at ballot 2 and 8 at ballot 1, each by a majority
abbrev pub split : List (List (Note ℕ))
split = (Accepted (at 0) (round 2) 7 ∷ Accepted (at 0) (round 1) 8 ∷ []) ∷ (Accepted (at 0) (round 2) 7 ∷ []) ∷ (Accepted (at 0) (round 1) 8 ∷ []) ∷ []

-- journals that don't agree: 7 and 8 at one ballot, 8 first in the order of the replicas
abbrev pub tie : List (List (Note ℕ))
tie = (Accepted (at 0) (round 1) 8 ∷ Accepted (at 0) (round 1) 7 ∷ []) ∷ (Accepted (at 0) (round 1) 7 ∷ Accepted (at 0) (round 1) 8 ∷ []) ∷ [] ∷ []

pub record DecidedRows : Type 0 where
  pub gap_decided : decided nat_eq gap 0 ≡ 7 ∷ []
  pub gap_chosen : chosen nat_eq gap (at 2) ≡ Some 9
  pub gap_alone : chosen nat_eq gap (at 1) ≡ None
  pub gap_other_shard : decided nat_eq gap 1 ≡ []
  pub scattered_undecided : decided nat_eq scattered 0 ≡ []
  pub split_least : decided nat_eq split 0 ≡ 8 ∷ []
  pub tie_first : decided nat_eq tie 0 ≡ 8 ∷ []
