use Rattle.std.proofs.Common.{ℕ, sym, subst}
use Rattle.std.specs.Prelude.{None}
use Rattle.event_store.proofs.Words.{ReadsNext}
use Rattle.event_store.proofs.Refused.{long_line}
use Rattle.event_store.proofs.read.next_record.Goals as goal

pub returns-in-Long-clause-line : goal.returns-in-Long-clause-line
returns-in-Long-clause-line g c = λ t.
    let told = rw c.in-Long.is at (c.in-Ok.ensures.next t) in
    let place = rw c.in-Long.is at c.in-Ok.ensures.place in
    subst (λ (e : ℕ). ReadsNext (g.L.LogFile.bytes c.args.tail.now.log) c.args.tail.now.place e None) (sym place) (long_line (g.L.LogFile.bytes c.args.tail.now.log) c.args.tail.now.place _ _ told)
