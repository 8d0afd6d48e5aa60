use Rattle.std.proofs.Common.{Err, inr, refl, ap}
use Rattle.std.specs.Prelude.{⊤}
use Rattle.site_store.proofs.Words.{values_of}
use Rattle.site_store.proofs.Added.{all_written, changed, unchanged}
use Rattle.site_store.proofs.Causes.{unwritten_memory}
use Rattle.site_store.proofs.Lending.{stays_as}
use Rattle.site_store.proofs.adding.add_row.Goals as goal

-- ---- the disks aren't opened

pub returns-in-Err-clause-leaves : goal.returns-in-Err-clause-leaves
returns-in-Err-clause-leaves g c tells = unchanged _ _ _ _ _ _ _ (λ no. no) (λ s. c.stays.ensures s c.args.store.now c.open_disks.new.store) (c.in-Err.ensures.back tells)

-- ---- the row is refused

pub returns-in-Err-longer-clause-leaves : goal.returns-in-Err-longer-clause-leaves
returns-in-Err-longer-clause-leaves g c tells =
    unchanged _ _ _ _ _ _ _ (λ no. no) (λ s. c.stays.ensures s c.args.store.now c.give_back.new.store) (stays_as _ _ _ _ _ (c.in-Ok.ensures.lent tells) (c.give_back.ensures.left tells))

-- ---- its record is written

pub returns-in-Ok-written-clause-added : goal.returns-in-Ok-written-clause-added
returns-in-Ok-written-clause-added g c =
    let all = c.in-Ok.open in
    record {
      topology = c.in-Ok-longer.asked;
      longer = refl;
      answers = (values_of all.topology.value.kept all.disks.items, c.in-Ok.ensures.kept, c.in-Ok-longer.ensures.longer);
      written = λ tells. all_written _ _ _ _ _ _ all.topology.journal.disk c.write_topology-written.new.topology.journal.disk all.disks.items _ c.in-Ok.ensures.kept _ (c.in-Ok.ensures.lent tells) (c.give_back-2.ensures.left tells) (c.in-Ok-written.ensures.durable tells);
    }

pub returns-in-Ok-written-clause-leaves : goal.returns-in-Ok-written-clause-leaves
returns-in-Ok-written-clause-leaves g c tells =
    let durable = c.in-Ok-written.ensures.durable tells in
    changed _ tells _ _ _ _ _ c.in-Ok.open.topology.journal.disk c.write_topology-written.new.topology.journal.disk c.in-Ok.open.disks.items
    _ c.in-Ok.ensures.kept _ _ c.in-Ok-longer.ensures.longer (c.give_back-2.ensures.keep tells) (c.in-Ok.ensures.lent tells) (c.give_back-2.ensures.left tells) (λ bytes now. inr (durable bytes now)) c.read.ensures.topology c.read.ensures.notes
    c.fits.ensures.only (λ s. c.row_added.ensures s c.args.store.now c.give_back-2.new.store) (λ s. c.stays.ensures s c.args.store.now c.give_back-2.new.store) ⊤ ⊥ (λ yes. durable) (c.in-Ok-written.ensures.grows tells) (λ no. absurd no)

-- ---- it isn't

pub returns-in-Err-written-clause-leaves : goal.returns-in-Err-written-clause-leaves
returns-in-Err-written-clause-leaves g c tells =
    let e = c.in-Err-written.ensures in
    changed _ tells _ _ _ _ _ c.in-Ok.open.topology.journal.disk c.write_topology-written.new.topology.journal.disk c.in-Ok.open.disks.items
    _ c.in-Ok.ensures.kept _ _ c.in-Ok-longer.ensures.longer (c.give_back-2.ensures.keep tells) (c.in-Ok.ensures.lent tells) (c.give_back-2.ensures.left tells) (e.old_or_new tells) c.read.ensures.topology c.read.ensures.notes
    c.fits.ensures.only (λ s. c.row_added.ensures s c.args.store.now c.give_back-2.new.store) (λ s. c.stays.ensures s c.args.store.now c.give_back-2.new.store) ⊥ _ (λ yes. absurd yes) (e.grows tells)
    (λ other. unwritten_memory _ c.in-Err-written.fault _ _ e.unwritten other (λ is. e.stays tells (ap Err is)))
