use Rattle.std.proofs.Common.{refl}
use Rattle.dispatch_core.proofs.Words.{changed, live_of, Advance, Finish}
use Rattle.dispatch_core.proofs.Keeping.{makes, kept_as, ordered_core, advance_ordered, mark_ordered}
use Rattle.dispatch_core.proofs.dispatch.DispatchCore.make.Goals as goal

pub returns-in-Advance-clause-stands : goal.returns-in-Advance-clause-stands
returns-in-Advance-clause-stands c = λ g k l.
    let old = c.args.self.now in
    let new = record old { fresh = c.pass_done.new.fresh } in
    let e = c.in-Advance.field-0 in
    makes g old new k l c.args.change (Advance e) c.in-Advance.is (λ s. kept_as g old new k (record k { offset = e }) l (changed (Advance e)) s refl (λ i. record (live_of old) { fresh = c.pass_done.ensures i }) s.pending (advance_ordered e l s.ordered))

pub returns-in-Finish-clause-stands : goal.returns-in-Finish-clause-stands
returns-in-Finish-clause-stands c = λ g k l.
    let old = c.args.self.now in
    let new = record old { fresh = c.finish.new.fresh } in
    let p = c.in-Finish.position in
    makes g old new k l c.args.change (Finish p) c.in-Finish.is (λ s. kept_as g old new k k l (changed (Finish p)) s refl (λ i. record (live_of old) { fresh = c.finish.ensures (ordered_core g old k l s).rising i }) s.pending (mark_ordered p l s.ordered))
