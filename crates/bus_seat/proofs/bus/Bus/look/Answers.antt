use Rattle.std.proofs.Common.{◌≡◌, ◌≢◌, ◌<◌, false, Some, None, MatchOption, IfSome, IfOk, sym, ap, ◌∙◌, subst, arith}
use Rattle.bus_seat.proofs.Words.{Begins, Busy, Flight, Sat, Sight, TakesPart, View, caught_up, count, in_hand, off, phase, sight}
use Rattle.air_bus.specs.Waiting.{is_dead}
use Rattle.bus_seat.proofs.Moves.{took_phase}
use Rattle.bus_seat.proofs.Beginning.{begun}
use Rattle.bus_seat.proofs.bus.Bus.look.Goals as goal

pub begin_in_hand-input-requires-clause-node : goal.begin_in_hand-input-requires-clause-node
begin_in_hand-input-requires-clause-node g c =
    let i = c.seat.invariant in
    let m = c.seat.inside.place.me in
    let is : m.0.number ≡ Some c.in-Some.node = i.1 ∙ c.in-Some.is in
    let t = c.take_turn.ensures.took in
    let role = subst (λ num. MatchOption num (m.0.next ≡ Some (count m.0.base)) (λ n. (m.0.next ≡ None) × (n < count m.0.base))) is i.0.role in
    let closed = subst (λ (s : Sight). MatchOption s.number ⊥ (λ n. phase n s.mine ≢ Busy)) (sym c.seat.view_is) c.requires.closed in
    let not-busy : phase c.in-Some.node m.0.mine ≢ Busy = subst (λ num. MatchOption num ⊥ (λ n. phase n m.0.mine ≢ Busy)) is closed in
    (omega (arith, role.1, ap (λ x. count x.0.base) t.1), λ busy. not-busy (sym (took_phase m c.take_turn.new.place.me _ t is) ∙ busy))

pub begin_in_hand-input-requires-clause-live : goal.begin_in_hand-input-requires-clause-live
begin_in_hand-input-requires-clause-live g c =
    let i = c.seat.invariant in
    let m = c.seat.inside.place.me in
    let is : m.0.number ≡ Some c.in-Some.node = i.1 ∙ c.in-Some.is in
    let base : Flight = m.0.base in
    let live = subst TakesPart (sym c.seat.view_is) c.requires.live in
    let own : is_dead base.plan.dead base.kinds c.in-Some.node ≡ false = subst (λ num. MatchOption num ⊥ (λ n. is_dead base.plan.dead base.kinds n ≡ false)) is live in
    ap (λ (x : Sat). is_dead x.0.base.plan.dead x.0.base.kinds c.in-Some.node) c.take_turn.ensures.took.1 ∙ own

pub returns-clause-did : goal.returns-clause-did
returns-clause-did g c =
    let i = c.seat.invariant in
    let m = c.seat.inside.place.me in
    let is : m.0.number ≡ Some c.in-Some.node = i.1 ∙ c.in-Some.is in
    let left = ap (λ (k : Sat). k.0) c.leave.ensures.gave ∙ ap (λ (v : View). off (caught_up v (in_hand c.begin_in_hand-input.new.place.me.1))) c.begin_in_hand-input.ensures.view in
    let did = begun c.seat.inside.place.table_id c.leave.new.place.table_id m c.take_turn.new.place.me c.leave.new.place.me.0 _ c.in-Some.node c.args.wants c.args.tick c.begin_in_hand-input.result c.take_turn.ensures.took is left c.begin_in_hand-input.ensures.answer c.begin_in_hand-input.ensures.some in
    let new = sight c.leave.new.place.table_id c.leave.new.place.me.0 in
    subst (λ (s : Sight). IfSome s.number (λ n. IfOk c.begin_in_hand-input.result (λ input. Begins n c.args.wants c.args.tick s input new))) c.seat.view_is
    (subst (λ num. IfSome num (λ n. IfOk c.begin_in_hand-input.result (λ input. Begins n c.args.wants c.args.tick (sight c.seat.inside.place.table_id m.0) input new))) (sym is) did)
