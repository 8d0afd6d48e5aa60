use Rattle.std.proofs.Common.{◌∙◌, ℕ, List, sym, subst, ap, refl, arith}
use Rattle.event_store.proofs.Words.{ReadsNext}
use Rattle.event_store.proofs.Holding.{held_on, held_next, on_err, on_ok, one_more, end_fits}
use Rattle.event_store.proofs.store.EventStore.advance.Goals as goal

pub invariant_of-self : goal.invariant_of-self
invariant_of-self g c = record {
  small = c.args.self.now.small;
  held = held_on (g.L.LogFile.bytes c.args.self.now.tail.log) (g.L.LogFile.bytes c.next_record.new.tail.log) c.args.self.now.tail.place c.next_record.new.tail.place c.args.self.now.read c.args.self.now.index c.args.self.now.recent.records.entries c.args.self.now.held (λ t. c.next_record.ensures.same t) c.in_err-line.ensures.err;
}

pub invariant_of-self-in-None : goal.invariant_of-self-in-None
invariant_of-self-in-None g c = record {
  small = c.args.self.now.small;
  held = held_on (g.L.LogFile.bytes c.args.self.now.tail.log) (g.L.LogFile.bytes c.next_record.new.tail.log) c.args.self.now.tail.place c.next_record.new.tail.place c.args.self.now.read c.args.self.now.index c.args.self.now.recent.records.entries c.args.self.now.held (λ t. c.next_record.ensures.same t) (rw c.in-None.is at c.in_ok-line.ensures.end_stays);
}

pub invariant_of-self-then-is_err : goal.invariant_of-self-then-is_err
invariant_of-self-then-is_err g c =
    let log : List ℕ = g.L.LogFile.bytes c.args.self.now.tail.log in
    let at : ℕ = c.place-place.result in
    let here = held_on log log c.args.self.now.tail.place at c.args.self.now.read c.args.self.now.index c.args.self.now.recent.records.entries c.args.self.now.held (λ t. refl) c.place-place.ensures in
    let kept = held_next log log at at c.args.self.now.read c.args.self.now.read c.args.self.now.index c.take_in.new.index c.args.self.now.recent.records.entries c.take_in.new.recent.records.entries here (λ t h. on_err c.take_in.result (sym c.is_err.ensures.value ∙ c.if-is_err.true) c.take_in.ensures.err log c.args.self.now.read h) in record {
      small = c.args.self.now.small;
      held = held_on log (g.L.LogFile.bytes c.seek.new.self.log) at c.seek.new.self.place c.args.self.now.read c.take_in.new.index c.take_in.new.recent.records.entries kept (λ t. ap g.L.LogFile.bytes c.seek.ensures.log ∙ c.next_record.ensures.same t) c.seek.ensures.place;
    }

pub invariant_of-self-2 : goal.invariant_of-self-2
invariant_of-self-2 g c =
    let log : List ℕ = g.L.LogFile.bytes c.args.self.now.tail.log in
    let at : ℕ = c.place-place.result in
    let here = held_on log log c.args.self.now.tail.place at c.args.self.now.read c.args.self.now.index c.args.self.now.recent.records.entries c.args.self.now.held (λ t. refl) c.place-place.ensures in
    let end_ : ℕ = c.next_record.new.tail.place in
    let more = held_next log log at end_ c.args.self.now.read c.saturating_add-self.result c.args.self.now.index c.take_in.new.index c.args.self.now.recent.records.entries c.take_in.new.recent.records.entries here (λ t h.
    let step : ReadsNext log c.args.self.now.tail.place end_ c.in-Some.read = rw c.in-Some.is at (c.in_ok-line.ensures.line t) in
    one_more log end_ c.args.self.now.read c.saturating_add-self.result c.take_in.new.index c.take_in.new.recent.records.entries (on_ok c.take_in.result (sym c.is_err.ensures.value ∙ c.if-is_err.false) c.take_in.ensures.ok log end_ c.args.self.now.read h (subst (λ (p : ℕ). ReadsNext log p end_ c.in-Some.read) (sym c.place-place.ensures) step)) (end_fits log c.args.self.now.tail.place end_ c.in-Some.read step) c.saturating_add-self.ensures) in record {
      small = omega (arith, c.saturating_add-self.ensures);
      held = held_on log (g.L.LogFile.bytes c.next_record.new.tail.log) end_ end_ c.saturating_add-self.result c.take_in.new.index c.take_in.new.recent.records.entries more (λ t. c.next_record.ensures.same t) refl;
    }
