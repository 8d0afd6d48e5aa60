-- What is chosen and decided, as functions of the journals. They answer for any journals, also for such as don't agree.
use Rattle.std.specs.Prelude.{◌≡◌, ℕ, zero, suc, ◌*◌, max, Bool, true, if◌then◌else◌, ◌&&◌, nat_lt, List, [], ◌∷◌, ◌++◌, length, map, filter, Option, Some, None, option_map}
use Rattle.std.specs.List.{list_any}
use Rattle.ballot_core.specs.declared.Ballot.{Ballot}
use Rattle.ballot_core.specs.Ballots.{is_below, is_same}
use Rattle.ballot_core.specs.Majority.{marked}
use Rattle.paxos_defs.specs.declared.Place.{Place}
use Rattle.paxos_defs.specs.Notes.{Note, Vote, votes_at}
use Rattle.paxos_defs.specs.Notes.Note.{Promised, Accepted}

-- what a replica accepted at a place, the first one first
abbrev pub acceptance_of : {V : Type 0} → Ballot → Option V → List (Ballot × V)
acceptance_of b None = []
acceptance_of b (Some v) = (b, v) ∷ []

abbrev pub accepted_in : {V : Type 0} → List (Vote V) → List (Ballot × V)
accepted_in [] = []
accepted_in (x ∷ xs) = acceptance_of x.ballot x.value ++ accepted_in xs

-- all that was accepted at a place, in the order of the replicas
abbrev pub all_accepted : {V : Type 0} → List (List (Note V)) → Place → List (Ballot × V)
all_accepted [] p = []
all_accepted (notes ∷ journals) p = accepted_in (votes_at p notes) ++ all_accepted journals p

module _ {V : Type 0} (same : V → V → Bool) where
  -- whether a replica accepted this
  abbrev pub is_acceptance : Ballot × V → Ballot × V → Bool
  is_acceptance a x = is_same x.0 a.0 && same x.1 a.1

  abbrev pub did_accept : Place → Ballot × V → List (Note V) → Bool
  did_accept p a notes = list_any (is_acceptance a) (accepted_in (votes_at p notes))

  -- whether more than half did
  abbrev pub is_chosen : List (List (Note V)) → Place → Ballot × V → Bool
  is_chosen journals p a = nat_lt (length journals) (2 * marked (map (did_accept p a) journals))

  -- the one at the least ballot, and of those the first
  abbrev pub lower : Ballot × V → Option (Ballot × V) → Option (Ballot × V)
  lower a None = Some a
  lower a (Some b) = if is_below b.0 a.0 then Some b else Some a

  abbrev pub least : List (Ballot × V) → Option (Ballot × V)
  least [] = None
  least (a ∷ xs) = lower a (least xs)

  -- the value that is chosen at a place
  abbrev pub chosen : List (List (Note V)) → Place → Option V
  chosen journals p = option_map (λ a. a.1) (least (filter (is_chosen journals p) (all_accepted journals p)))

  abbrev pub before : Option V → List V → List V
  before None rest = []
  before (Some v) rest = v ∷ rest

  -- the values chosen at this many slots from a slot on, up to the first slot that has none
  abbrev pub decided_from : List (List (Note V)) → ℕ → ℕ → ℕ → List V
  decided_from journals shard zero slot = []
  decided_from journals shard (suc n) slot = before (chosen journals (record { shard = shard; slot = slot })) (decided_from journals shard n (suc slot))

-- the slot behind all that the notes speak of
abbrev pub note_slot : {V : Type 0} → Note V → ℕ
note_slot (Promised p b) = p.slot
note_slot (Accepted p b v) = p.slot

abbrev pub end_of : {V : Type 0} → List (Note V) → ℕ
end_of [] = 0
end_of (note ∷ notes) = max (suc (note_slot note)) (end_of notes)

abbrev pub end_slot : {V : Type 0} → List (List (Note V)) → ℕ
end_slot [] = 0
end_slot (notes ∷ journals) = max (end_of notes) (end_slot journals)

-- the decided values of a shard: the longest list of which each value is chosen at its slot
unfoldable pub decided : {V : Type 0} → (V → V → Bool) → List (List (Note V)) → ℕ → List V
decided same journals shard = decided_from same journals shard (end_slot journals) 0

-- a test that tells whether two values are one
pub record IsExact {V : Type 0} (same : V → V → Bool) : Type 0 where
  pub true_only : (v w : V) → same v w ≡ true → v ≡ w
  pub itself : (v : V) → same v v ≡ true
