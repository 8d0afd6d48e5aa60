-- What a replica writes down, and what it knows from it.
use Rattle.std.specs.Prelude.{◌≡◌, ◌⊎◌, ℕ, Bool, if◌then◌else◌, ◌&&◌, ◌==◌, List, [], ◌∷◌, ◌++◌, get_or, Option, Some, None}
use Rattle.std.specs.List.{list_any}
use Rattle.ballot_core.specs.declared.Ballot.{Ballot}
use Rattle.ballot_core.specs.Ballots.{is_same}
use Rattle.paxos_defs.specs.declared.Place.{Place}

abbrev pub is_place : Place → Place → Bool
is_place p q = (p.shard == q.shard) && (p.slot == q.slot)

-- A record of a replica's journal: at a place it promised a ballot, or accepted a value at a ballot.
pub data Note (V : Type 0) : Type 0 where
  Promised : Place → Ballot → Note V
  Accepted : Place → Ballot → V → Note V

-- A note without its place: the ballot, and the value if one was accepted.
pub record Vote (V : Type 0) : Type 0 where
  pub ballot : Ballot
  pub value : Option V

abbrev pub promise : {V : Type 0} → Ballot → Vote V
promise b = record { ballot = b; value = None }

abbrev pub acceptance : {V : Type 0} → Ballot → V → Vote V
acceptance b v = record { ballot = b; value = Some v }

-- the note of a vote at a place
abbrev pub note_from : {V : Type 0} → Place → Ballot → Option V → Note V
note_from p b None = Promised p b
note_from p b (Some v) = Accepted p b v

abbrev pub note_of : {V : Type 0} → Place → Vote V → Note V
note_of p x = note_from p x.ballot x.value

-- the note's votes at a place
abbrev pub vote_at : {V : Type 0} → Place → Note V → List (Vote V)
vote_at p (Promised q b) = if is_place q p then promise b ∷ [] else []
vote_at p (Accepted q b v) = if is_place q p then acceptance b v ∷ [] else []

-- a replica's votes at a place, the first one first
abbrev pub votes_at : {V : Type 0} → Place → List (Note V) → List (Vote V)
votes_at p [] = []
votes_at p (note ∷ notes) = vote_at p note ++ votes_at p notes

-- the votes of each replica at a place, by the replicas' journals
abbrev pub votes : {V : Type 0} → List (List (Note V)) → Place → ℕ → List (Vote V)
votes journals p r = votes_at p (get_or journals r [])

-- The vote is one of these.
abbrev pub Has : {V : Type 0} → List (Vote V) → Vote V → Type 0
Has [] x = ⊥
Has (y ∷ ys) x = (x ≡ y) ⊎ Has ys x

-- What a replica knows of a place: the ballot that it promised last, and what it accepted last.
pub record Cell (V : Type 0) : Type 0 where
  pub promised : Option Ballot
  pub accepted : Option (Ballot × V)

abbrev pub blank : {V : Type 0} → Cell V
blank = record { promised = None; accepted = None }

abbrev pub accepted_after : {V : Type 0} → Option (Ballot × V) → Vote V → Option V → Option (Ballot × V)
accepted_after old x None = old
accepted_after old x (Some v) = Some (x.ballot, v)

-- An acceptance also promises its ballot.
abbrev pub cell_after : {V : Type 0} → Cell V → Vote V → Cell V
cell_after c x = record { promised = Some x.ballot; accepted = accepted_after c.accepted x x.value }

-- the cell after these votes, in order
abbrev pub cell_from : {V : Type 0} → Cell V → List (Vote V) → Cell V
cell_from c [] = c
cell_from c (x ∷ xs) = cell_from (cell_after c x) xs

abbrev pub cell_of : {V : Type 0} → List (Vote V) → Cell V
cell_of xs = cell_from blank xs

abbrev pub note_ballot : {V : Type 0} → Note V → Ballot
note_ballot (Promised p b) = b
note_ballot (Accepted p b v) = b

-- the ballot stands in some journal
abbrev pub is_noted : {V : Type 0} → Ballot → List (List (Note V)) → Bool
is_noted b journals = list_any (λ notes. list_any (λ note. is_same b (note_ballot note)) notes) journals
