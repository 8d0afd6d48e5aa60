-- Bytes that go to a sink, with some that still wait.
use Rattle.std.specs.Prelude.{ℕ, ◌≡◌, List, ◌++◌}

-- of this text a front was sent behind what was there, and the rest is left
pub record Passed (old text new left : List ℕ) : Type 0 where
  pub sent : List ℕ
  pub text_is : text ≡ sent ++ left
  pub new_is : new ≡ old ++ sent

-- a prefix of the bytes went out behind what was there
pub record TookPrefix (old bytes new : List ℕ) : Type 0 where
  pub sent : List ℕ
  pub left : List ℕ
  pub bytes_are : bytes ≡ sent ++ left
  pub new_is : new ≡ old ++ sent
