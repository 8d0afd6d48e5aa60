-- What stays as it was, and what goes on.
use Rattle.std.proofs.Common.{refl, ℕ, List, arith}
use Rattle.site_store.proofs.Words.{IsOpened, continues_same, continues_through, continues_opened, StaysAs, GoesOn}

-- an image stands for what it stands for
pub opened_same : (image : List ℕ → Type 0) (c : List ℕ) → image c → IsOpened image c
opened_same image c now = (c, now, refl)

-- each set of images stays as it is
pub stays_same : (x : List ℕ → Type 0) → StaysAs x x
stays_same x = opened_same x

-- what stands for an image that stays stands for one before
pub opened_through : (x y : List ℕ → Type 0) → StaysAs x y → (c : List ℕ) → IsOpened y c → IsOpened x c
opened_through x y first c mid = grind arith

pub stays_through : (x y z : List ℕ → Type 0) → StaysAs x y → StaysAs y z → StaysAs x z
stays_through x y z first next c now = opened_through x y first c (next c now)

pub goes_same : (x : List ℕ → Type 0) → GoesOn x x
goes_same x = continues_same x

pub goes_through : (x y z : List ℕ → Type 0) → GoesOn x y → GoesOn y z → GoesOn x z
goes_through x y z first next c now = continues_through x y first c (next c now)

-- what stays as it was goes on
pub stays_grows : (old new : List ℕ → Type 0) → StaysAs old new → GoesOn old new
stays_grows old new stays c now = continues_opened old c (stays c now)
