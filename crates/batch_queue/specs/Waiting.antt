-- Inserts that wait, in the order in which they came.
use Rattle.std.specs.Prelude.{◌≡◌, Bool, false, List, [], ◌∷◌, ◌++◌, length, map, filter, not, is_some, if◌then◌else◌, Option, Some, None, ℕ}
use Rattle.std.specs.List.{IsDistinct, filter_map, list_any}
use Rattle.std.specs.Option.{option_map}
use Rattle.registry_state.specs.declared.TheConstants.{MOST_WAITING}
use Rattle.registry_state.specs.declared.Token.{Token}
use Rattle.registry_state.specs.declared.Insert.{Insert}
use Rattle.registry_state.specs.declared.Batch.{Batch}
use Rattle.registry_state.specs.declared.Answer.{Answer}
use Rattle.registry_state.specs.LookBack.{replay}
use Rattle.registry_state.specs.Same.{same_token}

-- whether an insert of the token is among them
abbrev pub has_token : List Insert → Token → Bool
has_token xs t = list_any (λ x. same_token t x.token) xs

-- no two of them have one token
abbrev pub IsOnce : List Insert → Type 0
IsOnce xs = IsDistinct same_token (map (λ x. x.token) xs)

-- one more stands last, unless its token is there
abbrev pub with_last : List Insert → Insert → List Insert
with_last xs x = if has_token xs x.token then xs else xs ++ x ∷ []

-- there are as many as may wait, and the token is not among them
abbrev pub HasNoPlace : List Insert → Insert → Type 0
HasNoPlace xs x = (length xs ≡ MOST_WAITING) × (has_token xs x.token ≡ false)

-- those that have an answer, each with it
abbrev pub answered : (Insert → Option Answer) → List Insert → List (Insert × Answer)
answered answer xs = filter_map (λ x. option_map (λ a. (x, a)) (answer x)) xs

-- those that have none
abbrev pub unanswered : (Insert → Option Answer) → List Insert → List Insert
unanswered answer xs = filter (λ x. not (is_some (answer x))) xs

-- what these batches answer an insert
abbrev pub replays : List Batch → Insert → Option Answer
replays vs x = replay vs x.id x.token

-- they answer none of the inserts
abbrev pub IsUnanswered : List Batch → List Insert → Type 0
IsUnanswered vs xs = answered (replays vs) xs ≡ []

-- for how many more there is room where the newest stands apart
abbrev pub room_beside : Option Insert → ℕ
room_beside None = 1
room_beside (Some x) = 0
