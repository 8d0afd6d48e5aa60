-- Inserts that wait and have no answer, one more and those that are left.
use Rattle.std.proofs.Common.{◌≡◌, true, false, cond, List, [], ◌∷◌, ◌++◌, length, None, refl, ◌∙◌, arith, Bool, Option, option_map, nat_le, ◌||◌}
use Rattle.registry_server.proofs.Words.{MOST_WAITING, cons_option, Insert, Batch, Answer, answered, replays, IsUnanswered, answered-append, queued, put_last, left_of as unanswered}

-- none of those that are left has an answer
pub none_left : (f : Insert → Option Answer) (xs : List Insert) → answered f (unanswered f xs) ≡ []
none_left f [] = refl
none_left f (x ∷ xs) = grind (arith, none_left f xs)

pub put_unanswered : (vs : List Batch) (q : List Insert) (x : Insert) → IsUnanswered vs q → replays vs x ≡ None → IsUnanswered vs (put_last q x)
put_unanswered vs q x none e = go (queued q x.token || nat_le MOST_WAITING (length q))
  where
    go : (b : Bool) → answered (replays vs) (cond b q (q ++ x ∷ [])) ≡ []
    go true = none
    go false = answered-append (replays vs) q (x ∷ []) ∙ (λ i. none i ++ cons_option (option_map (λ a. (x, a)) (e i)) [])
