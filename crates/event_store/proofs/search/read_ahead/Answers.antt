use Rattle.std.proofs.Common.{◌∙◌, ◌∷◌, [], ◌++◌, ℕ, List, Option, Some, not, sym, ap, subst, arith}
use Rattle.event_store.specs.declared.recent.Recent.{Recent}
use Rattle.event_store.proofs.Words.{Query, ReadsNext, IsCache}
use Rattle.event_store.proofs.Changes.{no_value}
use Rattle.event_store.proofs.Again.{first_here}
use Rattle.event_store.proofs.Walks.{walk_push}
use Rattle.event_store.proofs.search.read_ahead.Goals as goal
use Rattle.event_store.proofs.search.read_ahead.Goals.{in-Some-read, in_default-read}

pub lines-preserved : goal.lines-preserved
lines-preserved g c = record {
  same = λ t. c.in_ok-read.ensures.same t ∙ c.lines.invariant.same t;
  no_fault = c.in_ok-read.ensures.tally ∙ c.lines.invariant.no_fault;
  most = elim c.match-read.branch [
    | in-Some-read w ↦ ap (λ (r : Recent). r.records.cap) w.recent-is ∙ w.remember.ensures.most ∙ c.lines.invariant.most
    | in_default-read w ↦ ap (λ (r : Recent). r.records.cap) w.recent-is ∙ c.lines.invariant.most
  ];
  cached = λ t front lines marks walk knows cache.
      let log : List ℕ = g.L.LogFile.bytes c.args.tail.now.log in
      let s : ℕ = c.lines.tail.place in
      let e : ℕ = c.next_record.new.tail.place in
      let had = c.lines.invariant.cached t front lines marks walk knows cache in
      let step : ReadsNext log s e c.in-Some.read = subst (λ (l : List ℕ). ReadsNext l s e c.in-Some.read) (c.lines.invariant.same t) (rw c.in-Some.is at (c.in_ok-read.ensures.line t)) in (
        (had.0.0 ++ c.in-Some.read ∷ [], walk_push log 0 s e had.0.0 c.in-Some.read had.0.1 step),
        elim c.match-read.branch [
          | in-Some-read w ↦
              let own : ReadsNext log s e (Some w.in-Some-read.query) = subst (λ (r : Option Query). ReadsNext log s e r) w.in-Some-read.is step in
              subst (λ (r : Recent). IsCache r.records.entries lines) (sym w.recent-is) (w.remember.ensures.kept lines had.1 (λ is. first_here log c.args.end c.args.index.now lines marks knows s e had.0.0 w.in-Some-read.query had.0.1 own (omega (arith, c.place-place.ensures, c.if-place-end.false)) (sym (w.stray.ensures marks knows.keeps) ∙ no_value w.stray.result (w.is_none.ensures ∙ ap not is))))
          | in_default-read w ↦ subst (λ (r : Recent). IsCache r.records.entries lines) (sym w.recent-is) had.1
        ],
      );
}
