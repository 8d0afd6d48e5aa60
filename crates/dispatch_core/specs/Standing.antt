-- What a core stands for, what its input carries, and what its turns are.
use Rattle.std.specs.Prelude.{◌≡◌, ℕ, ◌<◌, true, false, nat_eq, List, [], ◌∷◌, map, Option, Some, None, ⊤}
use Rattle.dispatch_core.specs.Terms.{option_map, deque_len, deque_capacity, contains, spare, has, Distinct, Each, Click, ClickLine, at, Input, Setting, Addressed, Out, DispatcherKept, DispatcherLive, dispatcher_turn, dispatcher_start, dispatcher_looks}
use Rattle.turn_defs.specs.declared.node.Input.TheVariants as model
use Rattle.dispatch_core.specs.Windows.{fresh_of, IsRising, AreBefore}
use Rattle.dispatch_core.specs.Dealing.{dealt, next_after, GoInTurn}
use Rattle.dispatch_core.specs.Changes.{note_of, changed}
use Rattle.dispatch_core.specs.Spelled.{IsJoin, ArePackets}
use Rattle.dispatch_core.specs.declared.dispatch.DispatchCore.{DispatchCore}
use Rattle.dispatch_core.specs.declared.input.DispatchInput.{DispatchInput}
use Rattle.dispatch_core.specs.declared.input.DispatchInput.TheVariants as input
use Rattle.dispatch_core.specs.declared.input.TakenLine.{TakenLine}
use Rattle.dispatch_core.specs.declared.turns.Step.{Step}
use Rattle.dispatch_core.specs.declared.turns.Turn.{Turn}
use Rattle.dispatch_core.specs.declared.turns.Change.{Change}
use Rattle.dispatch_core.specs.declared.turns.Change.TheVariants.{Start, Take}

-- the volatile state that a core holds
abbrev pub live_of : DispatchCore → DispatcherLive
live_of core = record { place = core.place; fresh = map fresh_of core.fresh.items; due = core.due.items; trying = core.trying.keys; ended = core.ended }

-- what holds of the volatile state by itself: lines are taken in the order of the log, and no position is tried twice
pub record IsOrdered (l : DispatcherLive) : Type 0 where
  pub rising : IsRising l.fresh
  pub before : AreBefore l.fresh l.place
  pub due_once : Distinct l.due
  pub trying_once : Distinct l.trying
  pub apart : (p : ℕ) → has l.due p ≡ true → has l.trying p ≡ false

-- the core stands for a dispatcher of the setting that keeps k and knows l
pub record Stands (g : Setting) (core : DispatchCore) (k : DispatcherKept) (l : DispatcherLive) : Type 0 where
  pub of_setting : g.config ≡ core.dealer.config
  pub live : live_of core ≡ l
  pub pending : (p : ℕ) → contains nat_eq core.pending p ≡ has k.pending p
  pub ordered : IsOrdered l

-- ---- inputs

-- the click line that starts at a place, or that none does
abbrev pub IsLineAt : Setting → ℕ → Option TakenLine → Type 0
IsLineAt g p None = at g.clicks p ≡ None
IsLineAt g p (Some t) = (at g.clicks p ≡ Some (record { place = t.position; end_ = t.end; click = t.click })) × (p ≡ t.position) × (t.position < t.end)

abbrev pub click_at : Setting → ℕ → Option Click
click_at g p = option_map (λ (l : ClickLine). l.click) (at g.clicks p)

-- the click at the first due position is looked up; where none is due, the line at the place
abbrev pub IsLookedUp : Setting → DispatcherLive → List ℕ → Option TakenLine → Option Click → Type 0
IsLookedUp g l [] line due = IsLineAt g l.place line
IsLookedUp g l (p ∷ ps) line due = click_at g p ≡ due

-- the clicks at these positions
abbrev pub AreClicksAt : Setting → List ℕ → List Click → Type 0
AreClicksAt g [] [] = ⊤
AreClicksAt g (p ∷ ps) (c ∷ cs) = (click_at g p ≡ Some c) × AreClicksAt g ps cs
AreClicksAt g _ _ = ⊥

-- what a Start carries: what the disks hold, no position parked twice
pub record IsKept (k : DispatcherKept) (offset : ℕ) (pending : List ℕ) : Type 0 where
  pub offset_is : offset ≡ k.offset
  pub pending_is : pending ≡ k.pending
  pub once : Distinct k.pending

-- the input stands for the model's, and carries what disks, logs and state say
abbrev pub Carries : Setting → DispatcherKept → DispatcherLive → DispatchInput → Input → Type 0
Carries g k l (input.Start offset pending) i = (i ≡ model.Start) × IsKept k offset pending.items
Carries g k l (input.Own line due) i = (i ≡ model.Own) × (dispatcher_looks l ≡ true → IsLookedUp g l l.due line due)
Carries g k l (input.Tick clicks) i = (i ≡ model.Tick) × AreClicksAt g l.trying clicks.items
Carries g k l (input.Packet from packet) i = i ≡ model.Deliver from packet

-- the core can take the input: a Start whatever it stood for, any other input where it stands for k and l
abbrev pub Takes : Setting → DispatchCore → DispatcherKept → DispatcherLive → DispatchInput → Type 0
Takes g core k l (input.Start offset pending) = g.config ≡ core.dealer.config
Takes g core k l _ = Stands g core k l

-- ---- turns

-- what the turn table gives
abbrev pub out_of : Setting → ℕ → DispatcherKept → DispatcherLive → Input → Out DispatcherLive
out_of g site k l model.Start = dispatcher_start k
out_of g site k l i = dispatcher_turn g site k l i

-- the change may be kept: the state that it was decided for stands, and what it brings in fits it
abbrev pub Fits : Setting → DispatchCore → DispatcherKept → DispatcherLive → Change → Type 0
Fits g core k l (Start place pending due) = (g.config ≡ core.dealer.config) × (place ≡ k.offset) × (due.items ≡ k.pending) × ((p : ℕ) → contains nat_eq pending p ≡ has k.pending p) × Distinct k.pending
Fits g core k l (Take f) = Stands g core k l × (f.position ≡ l.place) × (f.position < f.end)
Fits g core k l _ = Stands g core k l

-- the turn is the row's, and may be kept
pub record IsTurn (g : Setting) (core : DispatchCore) (k : DispatcherKept) (l : DispatcherLive) (turn : Turn) (out : Out DispatcherLive) : Type 0 where
  pub note : note_of turn.step.change ≡ out.note
  pub packets : Addressed g out.packets turn.packets.items
  pub live : changed turn.step.change l ≡ out.live
  pub fits : Fits g core k l turn.step.change

-- there is room for one more of each kind
pub record HasRoom (core : DispatchCore) : Type 0 where
  pub fresh : deque_len core.fresh < deque_capacity core.fresh
  pub trying : 0 < spare core.trying
  pub pending : 0 < spare core.pending

-- the step can be kept without memory
pub record CanKeep (core : DispatchCore) (step : Step) : Type 0 where
  pub room : HasRoom core
  pub next : step.next < core.dealer.config.joiners

-- the site and the run's numbers stay
abbrev pub HasSameNumbers : DispatchCore → DispatchCore → Type 0
HasSameNumbers old new = (new.dealer.site ≡ old.dealer.site) × (new.dealer.config ≡ old.dealer.config)

-- whatever the old one stands for, the new one stands for
abbrev pub StandsAs : DispatchCore → DispatchCore → Type 0
StandsAs old new = (g : Setting) (k : DispatcherKept) (l : DispatcherLive) → Stands g old k l → Stands g new k l

-- the number of the joiner that comes first in the turn
abbrev pub first_next : DispatchInput → ℕ → ℕ
first_next (input.Start offset pending) n = 0
first_next _ n = n

-- ---- what the parts of a turn say

-- the turn has this change, and these Joins, which have spellings, from the core's next joiner on
pub record Sends (core : DispatchCore) (turn : Turn) (change : Change) (joins : List (ℕ × Click)) : Type 0 where
  pub change_is : turn.step.change ≡ change
  pub packets : turn.packets.items ≡ dealt core.dealer.site core.dealer.config core.dealer.next joins
  pub next : turn.step.next ≡ next_after core.dealer.config.joiners core.dealer.next joins
  pub spelled : Each IsJoin joins

-- its packets have spellings, and go to the joiners in turn, from number n on
pub record IsDealt (core : DispatchCore) (n : ℕ) (turn : Turn) : Type 0 where
  pub in_turn : GoInTurn core.dealer.site core.dealer.config n turn.packets.items turn.step.next
  pub below : turn.step.next < core.dealer.config.joiners
  pub spelled : ArePackets turn.packets.items

-- the same state, whatever room there is
pub record IsAlike (old new : DispatchCore) : Type 0 where
  pub live : live_of new ≡ live_of old
  pub pending : (p : ℕ) → contains nat_eq new.pending p ≡ contains nat_eq old.pending p
  pub dealer : new.dealer ≡ old.dealer
