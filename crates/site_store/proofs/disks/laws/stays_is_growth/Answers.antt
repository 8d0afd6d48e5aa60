use Rattle.site_store.proofs.Words.{left_at}
use Rattle.site_store.proofs.Stays.{goes_same, goes_through}
use Rattle.site_store.proofs.disks.laws.stays_is_growth.Goals as goal

pub returns-clause-grows : goal.returns-clause-grows
returns-clause-grows g c =
    let left = left_at g.S.Store.image g.S.Disk.Disk.image in
    record { same = λ x. goes_same (left x); through = λ x y z. goes_through (left x) (left y) (left z) }
