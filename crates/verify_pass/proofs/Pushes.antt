-- One pair or list more: what is found then.
use Rattle.std.proofs.Common.{◌≡◌, List, [], ◌∷◌, ◌++◌, Bool, refl, arith, find}
use Rattle.verify_pass.proofs.Words.{or_else}

pub find_append : {A : Type 0} (f : A → Bool) (xs ys : List A) → find f (xs ++ ys) ≡ or_else (find f xs) (find f ys)
find_append f [] ys = refl
find_append f (x ∷ xs) ys = grind (arith, find_append f xs ys)
