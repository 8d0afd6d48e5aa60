use Rattle.std.proofs.Common.{◌≡◌, ◌++◌, All, sym, ap, ◌∙◌, subst, option_to_list}
use Rattle.bus_seat.proofs.Words.{All-weaker, AreSeatsOf, BusId, IsIn, Sight}
use Rattle.bus_seat.proofs.Closing.{seats_split, seats_of, closed_seats}
use Rattle.bus_seat.proofs.bus.Bus.end_with.Goals as goal

pub gather-requires-clause-seats : goal.gather-requires-clause-seats
gather-requires-clause-seats c =
    let split = c.pop.ensures.items ∙ ap (λ r. c.pop.new.self.items ++ option_to_list r) c.in-Some.is in
    let parts = seats_split c.args.self c.pop.new.self.items _ (subst (AreSeatsOf c.args.self) split c.requires) in
    All-weaker (λ (s : Sight). s.bus ≡ c.args.self) (λ (s : Sight). s.bus.table ≡ c.self.inside.table.shared.table_id) (λ s e. ap (λ b. b.table) e ∙ sym (ap (λ (b : BusId). b.table) c.self.view_is)) c.pop.new.self.items (seats_of c.args.self c.pop.new.self.items parts.0)

pub returns-clause-air : goal.returns-clause-air
returns-clause-air c =
    let split = c.pop.ensures.items ∙ ap (λ r. c.pop.new.self.items ++ option_to_list r) c.in-Some.is in
    let key = ap (λ (b : BusId). b.base) c.self.view_is in
    (closed_seats c.args.self _ c.pop.new.self.items c.in-Some.run' c.into_place-place.result.me c.gather.new.place.me.0 c.gather.new.place.id _ _ _ c.take-air.result key (subst (AreSeatsOf c.args.self) split c.requires) c.into_place-place.ensures.seat
    c.into_place-place.ensures.rest (ap (λ m. m.0) c.gather.ensures.joined) c.close_with-closed.ensures.values.2 c.take-air.ensures.value).0

pub returns-clause-others : goal.returns-clause-others
returns-clause-others c =
    let split = c.pop.ensures.items ∙ ap (λ r. c.pop.new.self.items ++ option_to_list r) c.in-Some.is in
    let key = ap (λ (b : BusId). b.base) c.self.view_is in
    (closed_seats c.args.self _ c.pop.new.self.items c.in-Some.run' c.into_place-place.result.me c.gather.new.place.me.0 c.gather.new.place.id _ _ _ c.take-air.result key (subst (AreSeatsOf c.args.self) split c.requires) c.into_place-place.ensures.seat
    c.into_place-place.ensures.rest (ap (λ m. m.0) c.gather.ensures.joined) c.close_with-closed.ensures.values.2 c.take-air.ensures.value).1

pub returns-clause-history : goal.returns-clause-history
returns-clause-history c =
    let split = c.pop.ensures.items ∙ ap (λ r. c.pop.new.self.items ++ option_to_list r) c.in-Some.is in
    let key = ap (λ (b : BusId). b.base) c.self.view_is in
    let all = (closed_seats c.args.self _ c.pop.new.self.items c.in-Some.run' c.into_place-place.result.me c.gather.new.place.me.0 c.gather.new.place.id _ _ _ c.take-air.result key (subst (AreSeatsOf c.args.self) split c.requires) c.into_place-place.ensures.seat
    c.into_place-place.ensures.rest (ap (λ m. m.0) c.gather.ensures.joined) c.close_with-closed.ensures.values.2 c.take-air.ensures.value).2 in
    subst (All (IsIn c.take-air.result.history)) (sym split) all
