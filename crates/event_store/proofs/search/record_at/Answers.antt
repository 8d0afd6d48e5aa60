use Rattle.std.proofs.Common.{ℕ, List, ap, subst}
use Rattle.event_store.proofs.Words.{ReadsNext, IsAtEnd}
use Rattle.event_store.proofs.Walks.{next_same, next_not_end}
use Rattle.event_store.proofs.search.record_at.Goals as goal

pub returns-in-Some-clause-line : goal.returns-in-Some-clause-line
returns-in-Some-clause-line g c = λ t next read step.
    let log : List ℕ = g.L.LogFile.bytes c.args.tail.now.log in
    let end_ : ℕ = c.next_record.new.tail.place in
    let told = rw c.in-Some.is at (c.in_ok-read.ensures.line t) in
    (next_same log c.args.place end_ next c.in-Some.read read (subst (λ (p : ℕ). ReadsNext log p end_ c.in-Some.read) c.seek.ensures.place (subst (λ (l : List ℕ). ReadsNext l c.seek.new.self.place end_ c.in-Some.read) (ap g.L.LogFile.bytes c.seek.ensures.log) told)) step).1

pub returns-in-None-clause-line : goal.returns-in-None-clause-line
returns-in-None-clause-line g c = λ t next read step.
    let log : List ℕ = g.L.LogFile.bytes c.args.tail.now.log in
    let told = rw c.in-None.is at (c.in_ok-read.ensures.end t) in
    absurd (next_not_end log c.args.place next read step (subst (IsAtEnd log) c.seek.ensures.place (subst (λ (l : List ℕ). IsAtEnd l c.seek.new.self.place) (ap g.L.LogFile.bytes c.seek.ensures.log) told)))
