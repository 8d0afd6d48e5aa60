-- A server's core beside the records of its disk.
use Rattle.std.specs.Prelude.{◌≡◌, ℕ, ◌+◌, ◌==◌, ◌&&◌, nat_lt, Bool, false, Option, Some, None, option_map}
use Rattle.registry_server.specs.Terms.{Epoch, Input, LAST_EPOCH, Note, Numbered, ServerKept, ServerLive, Setting, Start, land, numbered, server_rows}
use Rattle.registry_server.specs.Cores.{Stands, FitsChange, changed, landed, note_of, nothing_known, site_of}
use Rattle.registry_server.specs.Spelled.{IsSpelledPlan, IsSpelledLive}
use Rattle.registry_server.specs.declared.server_core.ServerCore.{ServerCore}
use Rattle.registry_server.specs.declared.turn.Change.{Change}
use Rattle.registry_server.specs.declared.notes.HeldEpoch.{HeldEpoch}

-- what a server knows, up or down
abbrev pub known : Option ServerLive → ServerLive
known None = nothing_known
known (Some l) = l

-- the core is a server of the site and the setting, whatever it knows
pub record ServesSite (core : ServerCore) (g : Setting) (k : Numbered ServerKept) : Type 0 where
  pub site : site_of core ≡ k.number
  pub setting : g.config ≡ core.station.config

-- and it knows this
pub record Knows (core : ServerCore) (g : Setting) (k : Numbered ServerKept) (live : Option ServerLive) : Type 0 where
  pub site : site_of core ≡ k.number
  pub stands : Stands core g k.disk (known live)

-- a start has no epoch left
abbrev pub is_spent_at : ℕ → Input → Bool
is_spent_at epoch Start = epoch == LAST_EPOCH
is_spent_at epoch _ = false

-- the note is of the epoch above this one, which isn't the last
abbrev pub is_next_epoch : ℕ → Note → Bool
is_next_epoch epoch (Epoch e) = nat_lt epoch LAST_EPOCH && e == epoch + 1
is_next_epoch epoch _ = false

-- the change makes this of what the core knows
abbrev pub Makes : ServerCore → Change → Setting → ServerKept → ServerLive → Type 0
Makes core change g k next = (l : ServerLive) × Stands core g k l × (changed g (site_of core) change l ≡ next)

-- the core stands for something that has spellings
pub record IsSpelledCore (core : ServerCore) : Type 0 where
  pub setting : Setting
  pub kept : ServerKept
  pub live : ServerLive
  pub stands : Stands core setting kept live
  pub plan : IsSpelledPlan setting (site_of core)
  pub spelled : IsSpelledLive kept live

-- so it does once the turn is kept
pub record IsSpelledTurn (core : ServerCore) (said : Option HeldEpoch) (change : Change) : Type 0 where
  pub setting : Setting
  pub kept : ServerKept
  pub next : ServerLive
  pub makes : Makes core change setting kept next
  pub plan : IsSpelledPlan setting (site_of core)
  pub spelled : IsSpelledLive (landed said kept) next

-- the turn can be kept
pub record CanKeep (core : ServerCore) (said : Option HeldEpoch) (change : Change) : Type 0 where
  pub fits : FitsChange change core.shards.items
  pub spelled : IsSpelledTurn core said change

-- kept, it makes these records and this knowledge
pub record GoesOn (core : ServerCore) (said : Option HeldEpoch) (change : Change) (g : Setting) (k : Numbered ServerKept) (l : ServerLive) : Type 0 where
  pub was : Numbered ServerKept
  pub is : k ≡ land (numbered server_rows).lands (option_map note_of said) was
  pub site : site_of core ≡ was.number
  pub makes : Makes core change g was.disk l
