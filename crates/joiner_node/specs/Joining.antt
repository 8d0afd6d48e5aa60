-- What a joiner knows, and what it is given.
use Rattle.std.specs.Prelude.{◌≡◌, ℕ, ◌+◌, ◌<◌, ◌==◌, ◌&&◌, nat_lt, Bool, true, false, Option, Some, None, ⊤}
use Rattle.joiner_node.specs.Terms.{LAST_EPOCH, Input, Start, JoinerKept, JoinerLive, Setting, Numbered, Leads, Serves, Stands, JoinerCore}
use Rattle.outside.specs.declared.log.LogFile as log
use Rattle.turn_defs.specs.Turns.{Note, Epoch}
use Rattle.joiner_core.specs.declared.turn.Change.{Change}
use Rattle.joiner_node.specs.Read.{HasRead}
use Rattle.joiner_node.specs.declared.held.HeldEpoch.{HeldEpoch}
use Rattle.joiner_node.specs.declared.joining.Joining.{Joining}

-- a note can come next: an epoch is the one above this one, which isn't the last
abbrev pub takes_note : ℕ → Note → Bool
takes_note epoch (Epoch e) = nat_lt epoch LAST_EPOCH && e == epoch + 1
takes_note epoch _ = true

-- a start has no epoch left
abbrev pub is_spent_at : ℕ → Input → Bool
is_spent_at epoch Start = epoch == LAST_EPOCH
is_spent_at epoch _ = false

-- a start may raise the epoch
abbrev pub MayRaise : ℕ → Input → Type 0
MayRaise epoch Start = epoch < LAST_EPOCH
MayRaise epoch _ = ⊤

-- up, the core stands for what the disks hold and for what the joiner knows; down, the joiner knows the epoch
abbrev pub KnowsBy : Option HeldEpoch → JoinerCore → Setting → Numbered JoinerKept → Option JoinerLive → Type 0
KnowsBy None core g k (Some l) = Stands core g k.number k.disk l
KnowsBy (Some held) core g k None = held.epoch ≡ k.disk.epoch
KnowsBy _ core g k _ = ⊥

-- but for a Start, the core stands for what is kept and known
abbrev pub StandsFor : JoinerCore → Setting → ℕ → JoinerKept → JoinerLive → Input → Type 0
StandsFor core g n k l Start = ⊤
StandsFor core g n k l _ = Stands core g n k l

module _ {L : Type 0} {d : log.Ghosts L} where
  -- its core is that of the joiner of the number, and its log has the setting's queries
  pub record ServesAs (v : Joining L d) (g : Setting) (k : Numbered JoinerKept) : Type 0 where
    pub core : Serves v.core g k.number
    pub queries : HasRead v.queries g.queries

  pub record Knows (v : Joining L d) (g : Setting) (k : Numbered JoinerKept) (live : Option JoinerLive) : Type 0 where
    pub serves : ServesAs v g k
    pub by : KnowsBy v.down v.core g k live

  -- once it keeps the change, its core stands for these records and this knowledge
  pub record GoesOn (v : Joining L d) (change : Change) (g : Setting) (k : Numbered JoinerKept) (l : JoinerLive) : Type 0 where
    pub core : Leads v.core change g k.number k.disk l
    pub queries : HasRead v.queries g.queries
