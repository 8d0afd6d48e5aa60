use Rattle.std.proofs.Common.{ℕ, List, sym, subst}
use Rattle.event_store.proofs.Words.{AreRead, IfOk-weaker}
use Rattle.event_store.proofs.Firsts.{in_segment, Scanned}
use Rattle.event_store.proofs.search.in_order.Goals as goal

pub returns-clause-found : goal.returns-clause-found
returns-clause-found g c = λ t lines marks knows.
    let log : List ℕ = g.L.LogFile.bytes c.args.tail.now.log in
    let scans = in_segment log c.args.place c.args.index.now lines marks knows c.args.id c.in-Some.segment.start c.in-Some.segment.end (c.in-Some.ensures.some marks c.args.place knows.keeps knows.falls) in
    IfOk-weaker c.scan.result _ _ (λ r told. scans.5 r (subst (λ (x : ℕ). Scanned log c.args.place c.args.index.now lines marks knows c.args.id x scans.1 r) c.unwrap_or.ensures told))
    (c.scan.ensures.found t scans.0 scans.1 scans.2 scans.3 (subst (λ (x : ℕ). AreRead log x scans.1) (sym c.unwrap_or.ensures) scans.4))
