use Rattle.std.proofs.Common.{Option, [], ◌∷◌, ◌++◌, Some, None, subst}
use Rattle.event_store.proofs.Words.{QueryRec, ReadsNext}
use Rattle.event_store.proofs.Firsts.{absent}
use Rattle.event_store.proofs.Taking.{grown, first_now, cached_more}
use Rattle.event_store.proofs.take.take_in.Goals as goal

pub returns-in-None-clause-ok : goal.returns-in-None-clause-ok
returns-in-None-clause-ok c = λ log end_ count h step.
    let kept = c.args.recent.now.records.entries in
    grown log c.args.place end_ count None c.args.index.now c.args.index.now kept kept h (subst (λ (r : Option QueryRec). ReadsNext log c.args.place end_ r) c.in-None.is step) h.knows.keeps (cached_more kept h.lines None h.cached)

pub returns-clause-ok : goal.returns-clause-ok
returns-clause-ok c = λ log end_ count h step.
    let q = c.in-Some.query in
    let kept = c.args.recent.now.records.entries in
    grown log c.args.place end_ count (Some q) c.args.index.now c.see.new.self kept c.remember.new.self.records.entries h (subst (λ (r : Option QueryRec). ReadsNext log c.args.place end_ r) c.in-Some.is step) (c.in_ok-is_next.ensures.ok h.marks h.knows.keeps)
    (c.remember.ensures.kept (h.lines ++ Some q ∷ []) (cached_more kept h.lines (Some q) h.cached) (λ is. first_now h.lines q (absent log c.args.place c.args.index.now h.lines h.marks h.knows q.id (c.in_ok-is_next.ensures.first h.marks h.knows.keeps is))))
