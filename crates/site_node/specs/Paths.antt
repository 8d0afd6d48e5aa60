-- Laws of the states that a node's entries lead through.
use Rattle.std.proofs.Common.{◌≡◌, ◌≢◌, ⊎_elim, ℕ, Bool, true, false, Option, Some, None, refl, ap, subst}
use Rattle.std.specs.Bool.{⊤}
use Rattle.air_bus.specs.declared.entry.Entry.{Entry}
use Rattle.air_bus.specs.declared.entry.Entry.TheVariants.{Begin, End, Stop}
use Rattle.air_bus.specs.declared.entry.Input.{Input as Bytes}
use Rattle.air_bus.specs.declared.entry.Input.TheVariants.{Start, Tick, Own}
use Rattle.air_bus.specs.declared.entry.Phase.TheVariants.{Busy}
use Rattle.air_bus.specs.Copies.{Copy}
use Rattle.air_bus.specs.Inputs.{packet_input}
use Rattle.air_bus.specs.History.{next_input, phase_after}
use Rattle.site_node.specs.States.{State, Rows, Leads, MayTake, up_phase, phase_by, state_phase, opens}

-- an entry leaves a state where it says
pub phase_led : {K L : Type 0} (rows : Rows K L) (s t : State K L) (e : Entry) → Leads rows s e t → state_phase t ≡ phase_after e
phase_led rows s t (Begin n b) l = ap state_phase l.2
phase_led rows s t (End n noted ps kept) l = ⊎_elim (λ done. ap state_phase done.2.state) (λ idle. ap state_phase idle.state) l.3
phase_led rows s t (Stop n landed) l = ⊎_elim (λ none. ap state_phase none.1) (λ some. ap state_phase some.3) l.2

abbrev got : Bytes → Option Bytes → Bytes
got d None = d
got d (Some i) = i

closed_by : {L : Type 0} (live : Option L) (o : Option Bytes) → phase_by live o ≢ Busy → o ≡ None
closed_by live None ne = refl
closed_by live (Some b) ne = absurd (ne refl)

abbrev IsNone : Option Bytes → Type 0
IsNone None = ⊤
IsNone (Some i) = ⊥

fits : {L : Type 0} (live : Option L) (next : Option Copy) (tick wants : Bool) (i : Bytes) → next_input (up_phase live) next tick wants ≡ Some i → MayTake live i
fits {L} None next tick wants i e = let is : Start ≡ i = ap (got i) e in subst (MayTake {L = L} None) is tt
fits (Some l) (Some c) tick wants i e = let is : packet_input c ≡ i = ap (got i) e in subst (MayTake (Some l)) is tt
fits (Some l) None true wants i e = let is : Tick ≡ i = ap (got i) e in subst (MayTake (Some l)) is tt
fits (Some l) None false true i e = let is : Own ≡ i = ap (got i) e in subst (MayTake (Some l)) is tt
fits (Some l) None false false i e = absurd (subst IsNone e tt)

-- what the bus gives a node that has no open turn is what the node may take
pub taken_fits : {K L : Type 0} (s : State K L) (next : Option Copy) (tick wants : Bool) (i : Bytes) → state_phase s ≢ Busy → next_input (state_phase s) next tick wants ≡ Some i → (s.opened ≡ None) × MayTake s.live i
taken_fits s next tick wants i ne e =
    let closed = closed_by s.live s.opened ne in
    (closed, fits s.live next tick wants i (subst (λ o. next_input (phase_by s.live o) next tick wants ≡ Some i) closed e))

-- so an entry of it leads on
pub begins : {K L : Type 0} (rows : Rows K L) (s : State K L) (n : ℕ) (next : Option Copy) (tick wants : Bool) (i : Bytes) → state_phase s ≢ Busy → next_input (state_phase s) next tick wants ≡ Some i → (t : State K L) × Leads rows s (Begin n i) t
begins rows s n next tick wants i ne e = let fit = taken_fits s next tick wants i ne e in (opens s i, (fit.0, fit.1, refl))
