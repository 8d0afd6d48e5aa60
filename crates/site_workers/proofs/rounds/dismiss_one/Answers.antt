use Rattle.std.proofs.Common.{Option, sym, subst}
use Rattle.site_workers.proofs.Words.{All-push, AreCaused, IsCaused, NodeFault}
use Rattle.site_workers.proofs.rounds.dismiss_one.Goals as goal

pub returns-clause-caused : goal.returns-clause-caused
returns-clause-caused g c before =
    let m = g.N.SiteNode in
    let left = c.into_parts-node.result in
    let caused = All-push (λ (w : g.row.N.Denot × Option NodeFault). IsCaused m.disk_faults m.log_faults w.0 w.1) c.args.nodes.now.items (left.0, left.2) before c.into_parts-node.ensures.caused in
    subst (AreCaused m.disk_faults m.log_faults) (sym c.push_reserved-2.ensures.items) caused
