use Rattle.std.proofs.Common.{◌≡◌, sym, ◌∙◌, arith}
use Rattle.air_bus.proofs.Words.{true≢false, eqb-true, eq-eqb, heap_items, heap_len}
use Rattle.air_bus.proofs.Parcels.{empty_stand, stand_empty}
use Rattle.air_bus.proofs.queue.Queue.is_empty.Goals as goal

pub returns-then-is_empty : goal.returns-then-is_empty
returns-then-is_empty c = λ copies h.
    let q = c.args.self.now in
    let none : heap_len q.ready ≡ 0 = eqb-true (heap_len q.ready) 0 (sym c.is_empty.ensures ∙ c.if-is_empty.true) in (
      λ t.
          let late : heap_len q.late ≡ 0 = eqb-true (heap_len q.late) 0 (sym c.is_empty-then-is_empty.ensures ∙ t) in
          empty_stand q.taken q.next (heap_items q.ready) (heap_items q.late) copies h (omega (arith, none, late, q.ready.data.ok.0, q.late.data.ok.0)),
      λ e. c.is_empty-then-is_empty.ensures ∙ eq-eqb (heap_len q.late) 0 (omega (arith, stand_empty q.taken q.next (heap_items q.ready) (heap_items q.late) copies h e, q.late.data.ok.0)),
    )

pub returns-else-is_empty : goal.returns-else-is_empty
returns-else-is_empty c = λ copies h.
    let q = c.args.self.now in (
      λ t. absurd (true≢false (sym t ∙ c.if-is_empty.false)),
      λ e. c.is_empty.ensures ∙ eq-eqb (heap_len q.ready) 0 (omega (arith, stand_empty q.taken q.next (heap_items q.ready) (heap_items q.late) copies h e, q.ready.data.ok.0)),
    )
