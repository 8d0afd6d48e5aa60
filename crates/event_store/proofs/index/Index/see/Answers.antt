use Rattle.std.proofs.Common.{◌≡◌, ◌+◌, ◌∙◌, cond, true, false, refl, sym, ap, subst}
use Rattle.event_store.proofs.Words.{HasCounted, Process, Progress, admits, progress_at, same_key}
use Rattle.event_store.proofs.Holding.{on_ok}
use Rattle.event_store.proofs.Keeping.{order_is, ordered_kept, stray_kept}
use Rattle.event_store.proofs.index.Index.see.Goals as goal

pub returns-in_default-clause-ok : goal.returns-in_default-clause-ok
returns-in_default-clause-ok c = λ marks keeps.
    let index = c.args.self.now in
    let told = rw c.in_default.is at c.in_ok-was.ensures.stray in
    stray_kept index (record { processes = c.count.new.processes; entries = index.entries; strays = c.put_stray.new.strays }) c.args.id c.args.place told.1 refl c.in_ok-put_stray.ensures.ok c.in_ok-put_stray.ensures.len marks keeps
    (order_is index c.args.id c.of-process.result c.of-process.ensures false told.0 marks keeps)

pub returns-clause-ok : goal.returns-clause-ok
returns-clause-ok c = λ marks keeps.
    let index = c.args.self.now in
    let was : Progress = c.in-Some.was in
    let process : Process = c.of-process.result in
    let own = c.of-process.ensures in
    let counted : HasCounted index.processes c.count.new.processes process c.args.id.micros was = rw c.in-Some.is at c.in_ok-was.ensures.counted in
    let fits = sym c.is_err.ensures.value ∙ c.if-is_err.false in
    ordered_kept index (record { processes = c.count.new.processes; entries = c.put_entry.new.entries; strays = index.strays }) c.args.id c.args.place was _
    (counted.before ∙ ap (λ (p : Process). progress_at index.processes p) own) refl
    (λ p. counted.moved p ∙ ap (λ (k : Process). cond (same_key p k) (record { lines = was.lines + 1; last = c.args.id.micros }) (progress_at index.processes p)) own)
    (on_ok c.put_entry.result fits c.put_entry.ensures.ok) (on_ok c.put_entry.result fits c.put_entry.ensures.len) refl marks keeps
    (order_is index c.args.id process own true (subst (λ (g : Progress). admits g c.args.id.micros ≡ true) counted.before counted.order) marks keeps)
