use Rattle.std.proofs.Common.{◌≡◌, ◌<◌, Some, None, MatchOption, sym, ap, ◌∙◌, subst, arith}
use Rattle.bus_seat.proofs.Words.{Busy, Sight, count, phase}
use Rattle.bus_seat.proofs.Moves.{took_phase}
use Rattle.bus_seat.proofs.bus.Bus.stop.Goals as goal

pub stop_in_hand-requires-clause-node : goal.stop_in_hand-requires-clause-node
stop_in_hand-requires-clause-node g c =
    let i = c.seat.invariant in
    let m = c.seat.inside.place.me in
    let is : m.0.number ≡ Some c.in-Some.node = i.1 ∙ c.in-Some.is in
    let t = c.take_turn.ensures.took in
    let role = subst (λ num. MatchOption num (m.0.next ≡ Some (count m.0.base)) (λ n. (m.0.next ≡ None) × (n < count m.0.base))) is i.0.role in
    let open-turn = subst (λ (s : Sight). MatchOption s.number ⊥ (λ n. phase n s.mine ≡ Busy)) (sym c.seat.view_is) c.requires.busy in
    let busy : phase c.in-Some.node m.0.mine ≡ Busy = subst (λ num. MatchOption num ⊥ (λ n. phase n m.0.mine ≡ Busy)) is open-turn in
    (omega (arith, role.1, ap (λ x. count x.0.base) t.1), took_phase m c.take_turn.new.place.me _ t is ∙ busy)
