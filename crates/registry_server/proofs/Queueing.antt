-- A queue that puts an insert in, as the turn table says it.
use Rattle.std.proofs.Common.{◌≡◌, ◌≤◌, List, [], ◌∷◌, length, refl, arith, Result, OnOk, OnErr, IfErr, IsErr}
use Rattle.registry_server.proofs.Words.{MOST_WAITING, Token, Insert, has_token, with_last, HasNoPlace, Put, Full, queued, put_last}

pub queued_has : (q : List Insert) (t : Token) → queued q t ≡ has_token q t
queued_has [] t = refl
queued_has (x ∷ q) t = grind (arith, queued_has q t)

-- the length is never above 4,096
pub put_is : (q new : List Insert) (x : Insert) (r : Result (Unit {0}) Put) → length q ≤ MOST_WAITING → OnOk r (new ≡ with_last q x) → IfErr r (λ refused. (refused ≡ Full x) × HasNoPlace q x) → (HasNoPlace q x → IsErr r) → OnErr r (new ≡ q)
    → new ≡ put_last q x
put_is q new x h few ok full refuses err = grind (arith, queued_has)
