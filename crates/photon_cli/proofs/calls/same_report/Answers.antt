use Rattle.std.proofs.Common.{subst}
use Rattle.photon_cli.proofs.BothReports.{Printed, both_same, printed, readable}
use Rattle.photon_cli.specs.Reshard.{LeftAt}
use Rattle.photon_cli.proofs.calls.same_report.Goals as goal

pub returns : goal.returns
returns g c gg b clicks row first between last logs sinks disks turn over three sound only done done_later =
    let image = g.S.Store.image in
    let before = turn.before in
    let after = turn.after in
    let left = subst (λ s. LeftAt row (image s) (image between.store_left) between.status) turn.from (turn.added.left disks) in
    let print_later = subst (λ s. Printed (g.F.Source.bytes last.files) clicks (image s) (g.K.Sink.held last.out) (g.K.Sink.held last.out_left) last.status) turn.on (printed _ _ _ _ _ _ _ _ _ _ _ _ _ _ _ _ _ after logs done_later sinks disks) in
    let both = both_same c.read.ensures.topology c.read.ensures.notes c.fits.ensures.only c.once.ensures.records c.same.ensures.records c.added_rows.ensures.report gg b three (image first.store) (image first.store_left) (image between.store_left) sound only (before.stays disks) row between.status left
    (g.F.Source.bytes first.files) (g.F.Source.bytes last.files) clicks turn.same_log over (readable _ _ _ _ _ _ _ _ _ _ _ _ _ _ _ _ _ before logs done) _ _ _ _ _ _ (printed _ _ _ _ _ _ _ _ _ _ _ _ _ _ _ _ _ before logs done sinks disks) print_later in
    record { status = both.0; text = both.1.0; before = both.1.1; after = both.1.2 }
