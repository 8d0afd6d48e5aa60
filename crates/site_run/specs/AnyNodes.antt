-- Nodes of all four kinds as one kind, and where they stand.
use Rattle.std.proofs.Common.{◌≡◌, ◌⊎◌, inl, inr, ℕ, Bool, List, Option, None, Some}
use Rattle.site_run.specs.Terms.{Begin, BusEntry as Entry, Dispatcher, Input, Joiner, LAST_EPOCH, Leads, Node, Numbered, Path, Replica, ReplicaState, Says, Server, Start, State, StateOf, dispatcher_rows, joiner_rows, numbered, replica_rows, server_rows, spends_at, spent_epoch, state_phase, with_number}
use Rattle.air_bus.specs.declared.entry.Phase.{Phase}
use Rattle.turn_defs.specs.Dispatcher.{DispatcherKept, DispatcherLive, dispatcher_at_rest}
use Rattle.turn_defs.specs.Joiner.{JoinerKept, JoinerLive, joiner_at_rest}
use Rattle.turn_defs.specs.Server.{ServerKept, ServerLive, server_at_rest}
use Rattle.turn_defs.specs.Replica.{replica_at_rest}
use Rattle.site_workers.specs.FourKinds as one

-- what a node of each kind stands at, with the number by which its rows know it
abbrev pub DispatcherState : Type 0
DispatcherState = State (Numbered DispatcherKept) DispatcherLive

abbrev pub ServerState : Type 0
ServerState = State (Numbered ServerKept) ServerLive

abbrev pub JoinerState : Type 0
JoinerState = State (Numbered JoinerKept) JoinerLive

abbrev pub AnyState : Type 0
AnyState = (DispatcherState ⊎ ServerState) ⊎ (ReplicaState ⊎ JoinerState)

-- an entry leads a node of its kind on
abbrev pub AnyLeads : AnyState → Entry → AnyState → Type 0
AnyLeads = one.leads (one.leads (Leads (numbered dispatcher_rows)) (Leads (numbered server_rows))) (one.leads (Leads replica_rows) (Leads (numbered joiner_rows)))

-- where a state stands on the bus
abbrev pub any_phase : AnyState → Phase
any_phase = one.of (one.of state_phase state_phase) (one.of state_phase state_phase)

-- what a node says of its rest
abbrev pub any_rests : AnyState → Bool → Type 0
any_rests = one.says (one.says (Says (λ g k l. dispatcher_at_rest l)) (Says (λ g k l. server_at_rest g l))) (one.says (Says (λ g k l. replica_at_rest k)) (Says (λ g k l. joiner_at_rest l)))

-- where a node of the system stands, as a state of a node of any kind
abbrev pub any_of : (n : Node) → StateOf n → AnyState
any_of (Dispatcher s) t = inl (inl (with_number s t))
any_of (Server s) t = inl (inr (with_number s t))
any_of (Replica r) t = inr (inl t)
any_of (Joiner j) t = inr (inr (with_number j t))

-- the epoch that a start would raise, where it is the last one
abbrev pub any_spends : AnyState → Input → Option ℕ
any_spends = one.of (one.of (spends_at (λ k. None)) (spends_at (λ k. spent_epoch k.disk.epoch))) (one.of (spends_at (λ k. None)) (spends_at (λ k. spent_epoch k.disk.epoch)))

-- a node with this open turn starts, and what its disk keeps is this epoch, the last
pub record StartsAt {L : Type 0} (opened : Option Input) (live : Option L) (kept epoch : ℕ) : Type 0 where
  pub starts : opened ≡ Some Start
  pub down : live ≡ None
  pub keeps : kept ≡ epoch
  pub last : epoch ≡ LAST_EPOCH

abbrev pub IsAtLast : AnyState → ℕ → Type 0
IsAtLast (inl (inl d)) epoch = ⊥
IsAtLast (inl (inr s)) epoch = StartsAt s.opened s.live s.kept.disk.epoch epoch
IsAtLast (inr (inl r)) epoch = ⊥
IsAtLast (inr (inr j)) epoch = StartsAt j.opened j.live j.kept.disk.epoch epoch

-- ---- a kind of node that stands at such states

module _ {N S : Type 0} (leads : S → Entry → S → Type 0) (phase_of : S → Phase) (stands : N → S → Type 0) (at_rest_as : S → Bool → Type 0) (spends : S → Input → Option ℕ) (places : N → AnyState → Type 0) where
  -- Its own state t means u: it stands on the bus as there, a node at t is at u, and what is said of rest at t is said at u. A turn
  -- that came to t and would raise the last epoch came to u at that epoch.
  pub record IsMeant (t : S) (u : AnyState) : Type 0 where
    pub phased : any_phase u ≡ phase_of t
    pub placed : (w : N) → stands w t → places w u
    pub rested : (b : Bool) → at_rest_as t b → any_rests u b
    pub spent : (before : S) (n : ℕ) (input : Input) (epoch : ℕ) → leads before (Begin n input) t → spends before input ≡ Some epoch → IsAtLast u epoch

  -- the node is at u by a state of its own, and what leads on from there leads on from u
  pub record GoesOn (v : N) (u : AnyState) : Type 0 where
    pub from : S
    pub at : stands v from
    pub led : IsMeant from u
    pub on : (es : List Entry) (t : S) → Path leads from es t → (x : AnyState) × Path AnyLeads u es x × IsMeant t x
