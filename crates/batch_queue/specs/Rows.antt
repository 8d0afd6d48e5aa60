-- Worked rows.
use Rattle.std.specs.Prelude.{◌≡◌, [], ◌∷◌}
use Rattle.registry_state.specs.declared.Answer.TheVariants.{Duplicate}
use Rattle.registry_state.specs.LookBack.{replay}
use Rattle.registry_state.specs.Rows.{click, other, first, second, claim, contest}
use Rattle.batch_queue.specs.Waiting.{with_last, answered, unanswered}

-- a new token goes last, whosever the id; one that waits stays where it is
abbrev pub LastRow : Type 0
LastRow = (with_last (claim click second ∷ []) (claim click first) ≡ claim click second ∷ claim click first ∷ []) × (with_last (claim click second ∷ claim click first ∷ []) (claim click second) ≡ claim click second ∷ claim click first ∷ [])

-- the loser of a contest is answered, and a claim of an id that nobody has goes on waiting
abbrev pub AnsweredRow : Type 0
AnsweredRow = answered (λ x. replay (contest ∷ []) x.id x.token) (claim other first ∷ claim click second ∷ []) ≡ (claim click second, Duplicate first) ∷ []

abbrev pub LeftRow : Type 0
LeftRow = unanswered (λ x. replay (contest ∷ []) x.id x.token) (claim other first ∷ claim click second ∷ []) ≡ claim other first ∷ []
