-- What may be kept in place of a list of batches: its bound, and who holds each id.
use Rattle.std.specs.Prelude.{◌≡◌, ℕ, List, Option, None, if◌then◌else◌, nat_lt}
use Rattle.event_id.specs.declared.id.EventId.{EventId}
use Rattle.registry_state.specs.declared.Token.{Token}
use Rattle.registry_state.specs.declared.Batch.{Batch}
use Rattle.registry_state.specs.LookBack.{bound_of, holder}

-- This is the bound of these batches, and of each id its holder. So there is no token for an id that nobody holds, or
-- that is below the bound.
pub record Recalls (bound : ℕ) (held : EventId → Option Token) (applied : List Batch) : Type 0 where
  pub bound_is : bound ≡ bound_of applied
  pub tokens : (id : EventId) → held id ≡ holder applied id

-- the token, unless the id is below the bound
abbrev pub above : ℕ → EventId → Option Token → Option Token
above bound id token = if nat_lt id.micros bound then None else token
