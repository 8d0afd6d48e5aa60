-- The ids of a batch, and what the batch doesn't answer.
use Rattle.std.proofs.Common.{◌≡◌, ◌≤◌, ◌||◌, Bool, true, false, cond, List, [], ◌∷◌, ◌++◌, None, arith}
use Rattle.std.specs.Prelude.{is_some}
use Rattle.batch_queue.proofs.Words.{EventId, same_id, Token, Insert, Batch, first_in, replay, bound_of-push, first_insert-push}

-- one id more is in the set
pub one_more : (before after whole : Bool) (x : Insert) (rest : List Insert) (i : EventId) → after ≡ cond (same_id x.id i) true before → (before || is_some (first_in (x ∷ rest) i)) ≡ whole → (after || is_some (first_in rest i)) ≡ whole
one_more before after whole x rest i e h = grind arith

-- an id that isn't below the bound and that nobody has or claims has no answer
pub none_ahead : (vs : List Batch) (v : Batch) (i : EventId) (t : Token) → v.bound ≤ i.micros → is_some (first_in v.inserts i) ≡ false → is_some (replay vs i t) ≡ false → None ≡ replay (vs ++ v ∷ []) i t
none_ahead vs v i t le unclaimed unanswered = grind (arith, bound_of-push, first_insert-push)
