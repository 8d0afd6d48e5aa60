-- A dispatcher's core over the click log, beside the records that it serves and what it knows.
use Rattle.std.specs.Prelude.{◌≡◌, ℕ, List, Option, Some, None}
use Rattle.dispatch_node.specs.Terms.{DispatchCore, DispatcherKept, DispatcherLive, Fits, IsKept, Numbered, Setting, Stands, Step, changed, land, land_dispatcher, live_of, note_of}
use Rattle.dispatch_node.specs.declared.dispatcher.HeldPlaces.{HeldPlaces}
use Rattle.dispatch_core.specs.Places.{AreKeptPlaces, AreLivePlaces, IsLogOf}
use Rattle.dispatch_node.specs.Follows.{Follows}

-- it is a dispatcher of the setting over its log, whose records may be these
pub record Serves (core : DispatchCore) (log : List ℕ) (g : Setting) (k : Numbered DispatcherKept) : Type 0 where
  pub site : core.dealer.site ≡ k.number
  pub config : g.config ≡ core.dealer.config
  pub lines : IsLogOf log g
  pub places : AreKeptPlaces g k.disk

-- Up, its core stands for what the disks hold and what it knows, which fits what they hold. Down, it was told what they hold.
abbrev pub KnowsAs : DispatchCore → HeldPlaces → Setting → DispatcherKept → Option DispatcherLive → Type 0
KnowsAs core held g k None = IsKept k held.offset held.pending.items
KnowsAs core held g k (Some l) = Stands g core k l × AreLivePlaces g l × Follows k l

pub record Knows (core : DispatchCore) (log : List ℕ) (held : HeldPlaces) (g : Setting) (k : Numbered DispatcherKept) (live : Option DispatcherLive) : Type 0 where
  pub serves : Serves core log g k
  pub by : KnowsAs core held g k.disk live

-- what it knows; while it is down, what its core holds, which no row looks at
abbrev pub known : DispatchCore → Option DispatcherLive → DispatcherLive
known core None = live_of core
known core (Some l) = l

-- kept, the step makes these records and this knowledge
pub record GoesOn (core : DispatchCore) (log : List ℕ) (step : Step) (g : Setting) (k : Numbered DispatcherKept) (l : DispatcherLive) : Type 0 where
  pub serves : Serves core log g k
  pub places : AreLivePlaces g l
  pub follows : Follows k.disk l
  pub was : DispatcherKept
  pub knew : DispatcherLive
  pub fits : Fits g core was knew step.change
  pub kept : k.disk ≡ land land_dispatcher (note_of step.change) was
  pub live : l ≡ changed step.change knew
