-- Worked rows.
use Rattle.std.specs.Prelude.{◌≡◌, [], ◌∷◌, Some, None}
use Rattle.event_id.specs.declared.id.EventId.{EventId}
use Rattle.registry_state.specs.declared.Token.{Token}
use Rattle.registry_state.specs.declared.Insert.{Insert}
use Rattle.registry_state.specs.declared.Batch.{Batch}
use Rattle.registry_state.specs.declared.Answer.TheVariants.{Granted, Duplicate, TooOld}
use Rattle.registry_state.specs.LookBack.{holder, replay}
use Rattle.registry_state.specs.Registry.{batch_of, answers_to}

abbrev pub click : EventId
click = record { ip = 167772162; pid = 9; micros = 5 }

abbrev pub other : EventId
other = record { ip = 167772162; pid = 9; micros = 6 }

abbrev pub first : Token
first = record { joiner = 7; epoch = 1; number = 0 }

abbrev pub second : Token
second = record { joiner = 8; epoch = 1; number = 0 }

abbrev pub claim : EventId → Token → Insert
claim id token = record { id = id; token = token }

-- one id, claimed by two tokens in one batch
abbrev pub contest : Batch
contest = batch_of 0 (claim click first ∷ claim click second ∷ claim click first ∷ [])

abbrev pub ContestRow : Type 0
ContestRow = answers_to [] contest ≡ Granted ∷ Duplicate first ∷ Granted ∷ []

-- asked again, the loser is still one; nobody has the other id
abbrev pub ReplayRow : Type 0
ReplayRow = (replay (contest ∷ []) click second ≡ Some (Duplicate first)) × (replay (contest ∷ []) other first ≡ None)

-- an id at the bound is young enough, one below it is too old
abbrev pub BoundRow : Type 0
BoundRow = answers_to [] (batch_of 6 (claim click first ∷ claim other first ∷ [])) ≡ TooOld 6 ∷ Granted ∷ []

-- the bound never falls, so an id that was dropped isn't granted again
abbrev pub DroppedRow : Type 0
DroppedRow = (answers_to (contest ∷ batch_of 6 [] ∷ []) (batch_of 0 (claim click second ∷ [])) ≡ TooOld 6 ∷ []) × (holder (contest ∷ batch_of 6 [] ∷ []) click ≡ None)
