use Rattle.std.proofs.Common.{subst}
use Rattle.site_laws.specs.Stores.{KeepsOf}
use Rattle.photon_cli.proofs.calls.runs_from_kept_records.Goals as goal

pub returns : goal.returns
returns g c s before after plan log history b all d holds =
    history.left.ran d (c.once.ensures.records s b history.left.store.disks d
    (λ disk is. let left = history.left.kept.records disk is in subst (KeepsOf s history.left.store.disks disk) (all disk is left.0 left.1) left.2) holds)
