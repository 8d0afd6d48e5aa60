use Rattle.std.proofs.Common.{◌≡◌, ◌<◌, ◌∙◌, ℕ, List, Option, refl, sym, subst, arith}
use Rattle.event_store.proofs.Words.{EventId, ReadsNext, TellsId, Starts}
use Rattle.event_store.proofs.Looking.{looked_at, is_told, not_told}
use Rattle.event_store.proofs.scan.scan.Goals as goal

pub returns-then-eq-clause-found : goal.returns-then-eq-clause-found
returns-then-eq-clause-found g c = λ t front lines walk none all.
    let log : List ℕ = g.L.LogFile.bytes c.args.tail.now.log in
    let told : Option EventId = c.in_ok-next_id.field-0 in
    let lt : c.lines.tail.place < c.args.end = omega (arith, c.place-place.ensures, c.if-place-end.false) in
    let n = looked_at log c.lines.tail.place c.next_id.new.tail.place c.args.end lines c.args.id told (c.lines.invariant.lacking t front lines walk none all).1 all lt (λ next read step. subst (λ (text : List ℕ). (c.next_id.new.tail.place ≡ next) × TellsId text read told) c.text_into-len.ensures.text (c.in_ok-next_id.ensures.line t next read (subst (λ (l : List ℕ). ReadsNext l c.lines.tail.place next read) (sym (c.lines.invariant.same t)) step))) in
    subst (λ (p : ℕ). (p < c.args.end) × Starts log c.args.id p) (sym c.place-place.ensures) (lt, n.1 (is_told _ (λ a b. refl) told c.args.id c.if-eq.ensures))

pub lines-preserved : goal.lines-preserved
lines-preserved g c = record {
  same = λ t. c.in_ok-next_id.ensures.same t ∙ c.lines.invariant.same t;
  no_fault = c.in_ok-next_id.ensures.tally ∙ c.lines.invariant.no_fault;
  lacking = λ t front lines walk none all.
      let log : List ℕ = g.L.LogFile.bytes c.args.tail.now.log in
      let told : Option EventId = c.in_ok-next_id.field-0 in
      let had = c.lines.invariant.lacking t front lines walk none all in
      let n = looked_at log c.lines.tail.place c.next_id.new.tail.place c.args.end lines c.args.id told had.1 all (omega (arith, c.place-place.ensures, c.if-place-end.false)) (λ next read step. subst (λ (text : List ℕ). (c.next_id.new.tail.place ≡ next) × TellsId text read told) c.text_into-len.ensures.text (c.in_ok-next_id.ensures.line t next read (subst (λ (l : List ℕ). ReadsNext l c.lines.tail.place next read) (sym (c.lines.invariant.same t)) step))) in
      (omega (arith, had.0, n.0), n.2 (not_told _ (λ a b. refl) told c.args.id c.if-eq.ensures));
}
