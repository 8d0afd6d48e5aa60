-- The laws of agreement, as statements for a contract. The votes are those at one place, by replica.
use Rattle.std.specs.Prelude.{◌≡◌, ℕ, Bool, List, length, Option}
use Rattle.list_words.specs.Lists.{Begins}
use Rattle.ballot_core.specs.declared.Ballot.{Ballot}
use Rattle.ballot_core.specs.Majority.{Majority}
use Rattle.paxos_defs.specs.declared.Place.{Place}
use Rattle.paxos_defs.specs.Notes.{Note, Vote, promise, acceptance, votes}
use Rattle.paxos_defs.specs.Agreement.{IsChosenAt, IsDecided, IsSafe, IsOnly, Agree, JournalsAgree, OneChosen, OneCasts, Grows, IsPromised, WasAccepted}
use Rattle.paxos_defs.specs.Turns.{value_for}
use Rattle.paxos_defs.specs.Decided.{decided, IsExact}

abbrev pub PromiseKeeps : Type 0 → Type 0
PromiseKeeps V = (n : ℕ) (old new : ℕ → List (Vote V)) (r : ℕ) (b : Ballot) → Agree n old → OneCasts old new r (promise b) → Agree n new

abbrev pub AcceptanceKeeps : Type 0 → Type 0
AcceptanceKeeps V =
    (n : ℕ) (old new : ℕ → List (Vote V)) (r : ℕ) (b : Ballot) (v : V) →
    Agree n old → OneCasts old new r (acceptance b v) → IsSafe n old b v → IsOnly old b v → Agree n new

abbrev pub PickedIsSafe : Type 0 → Type 0
PickedIsSafe V =
    (n : ℕ) (votes : ℕ → List (Vote V)) (b : Ballot) (own : V) (best : Option (Ballot × V)) →
    Agree n votes → WasAccepted votes best → Majority n (λ r. IsPromised (votes r) b best) → IsSafe n votes b (value_for own best)

abbrev pub PromiseStays : Type 0 → Type 0
PromiseStays V = (old new : ℕ → List (Vote V)) (r : ℕ) (b : Ballot) (prior : Option (Ballot × V)) → Grows old new → IsPromised (old r) b prior → IsPromised (new r) b prior

abbrev pub SafeStays : Type 0 → Type 0
SafeStays V = (n : ℕ) (old new : ℕ → List (Vote V)) (b : Ballot) (v : V) → Grows old new → IsSafe n old b v → IsSafe n new b v

abbrev pub ChosenStays : Type 0 → Type 0
ChosenStays V = (n : ℕ) (old new : ℕ → List (Vote V)) (b : Ballot) (v : V) → Grows old new → IsChosenAt n old b v → IsChosenAt n new b v

abbrev pub AgreedChooseOne : Type 0 → Type 0
AgreedChooseOne V = (journals : List (List (Note V))) → JournalsAgree journals → OneChosen journals

abbrev pub DecidedIs : Type 0 → Type 0
DecidedIs V = (same : V → V → Bool) (journals : List (List (Note V))) (shard : ℕ) → IsExact same → JournalsAgree journals → IsDecided journals shard (decided same journals shard)

-- what is decided begins what is decided after more votes
abbrev pub DecidedGrows : Type 0 → Type 0
DecidedGrows V =
    (same : V → V → Bool) (old new : List (List (Note V))) (shard : ℕ) →
    IsExact same → JournalsAgree old → JournalsAgree new → length new ≡ length old → ((p : Place) → Grows (votes old p) (votes new p)) →
    Begins (decided same old shard) (decided same new shard)
