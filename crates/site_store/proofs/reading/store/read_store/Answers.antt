use Rattle.std.proofs.Common.{sym}
use Rattle.site_store.proofs.Lending.{stays_as}
use Rattle.site_store.proofs.Report.{ok_read, read_tells}
use Rattle.site_store.proofs.Blank.{read_nothing}
use Rattle.site_store.proofs.Sound.{welcome_read}
use Rattle.site_store.proofs.Stays.{stays_grows}
use Rattle.site_store.proofs.reading.store.read_store.Goals as goal

pub returns-in-Err-clause-sound : goal.returns-in-Err-clause-sound
returns-in-Err-clause-sound g c tells s sound = c.stays.ensures s c.args.store.now c.open_for.new.store sound (λ disk is. c.in-Err.ensures.back tells disk)

pub returns-in-Err-clause-welcome : goal.returns-in-Err-clause-welcome
returns-in-Err-clause-welcome g c sure log_sure s log_is end_is same some sound =
    let cause = rw (sym same) at c.in-Err.ensures.cause in
    welcome_read _ sure _ log_sure _ _ _ _ _ c.read.ensures.topology c.fits.ensures.only s log_is end_is sound some c.in-Err.fault cause

pub returns-in-Ok-journals_of-clause-kept : goal.returns-in-Ok-journals_of-clause-kept
returns-in-Ok-journals_of-clause-kept g c =
    let r = c.in-Ok-journals_of.ensures in
    ok_read _ _ _ _ _ _ _ c.in-Ok.ensures.kept c.in-Ok.ensures.passed _ (record { topology = sym c.kept_topology-topology.ensures; notes = r.notes; pairs = r.pairs })

pub returns-in-Ok-journals_of-clause-report : goal.returns-in-Ok-journals_of-clause-report
returns-in-Ok-journals_of-clause-report g c sure =
    read_tells _ sure _ _ _ _ _ c.read.ensures.topology c.read.ensures.notes (λ s. c.opened.ensures s c.args.store.now) c.verification.ensures.report _ (returns-in-Ok-journals_of-clause-kept g c)

pub returns-in-Ok-journals_of-clause-blank : goal.returns-in-Ok-journals_of-clause-blank
returns-in-Ok-journals_of-clause-blank g c sure =
    read_nothing _ sure _ _ _ _ _ c.once.ensures.topology c.read.ensures.topology _ (returns-in-Ok-journals_of-clause-kept g c)

pub returns-in-Ok-journals_of-clause-stays : goal.returns-in-Ok-journals_of-clause-stays
returns-in-Ok-journals_of-clause-stays g c tells =
    let r = c.in-Ok-journals_of.ensures in
    stays_as _ _ _ _ _ (c.in-Ok.ensures.lent tells) (rw (r.topology, r.disks) at (c.give_bare.ensures.left tells))

pub returns-in-Ok-journals_of-clause-grown : goal.returns-in-Ok-journals_of-clause-grown
returns-in-Ok-journals_of-clause-grown g c tells disk = stays_grows _ _ (returns-in-Ok-journals_of-clause-stays g c tells disk)

pub returns-in-Ok-journals_of-clause-sound : goal.returns-in-Ok-journals_of-clause-sound
returns-in-Ok-journals_of-clause-sound g c tells s sound = c.stays.ensures s c.args.store.now c.give_bare.new.store sound (λ disk is. returns-in-Ok-journals_of-clause-stays g c tells disk)

pub returns-in-Err-journals_of-clause-stays : goal.returns-in-Err-journals_of-clause-stays
returns-in-Err-journals_of-clause-stays g c tells =
    stays_as _ _ _ _ _ (c.in-Ok.ensures.lent tells) (rw c.in-Err-journals_of.ensures.err at (c.give_back.ensures.left tells))

pub returns-in-Err-journals_of-clause-grown : goal.returns-in-Err-journals_of-clause-grown
returns-in-Err-journals_of-clause-grown g c tells disk = stays_grows _ _ (returns-in-Err-journals_of-clause-stays g c tells disk)

pub returns-in-Err-journals_of-clause-sound : goal.returns-in-Err-journals_of-clause-sound
returns-in-Err-journals_of-clause-sound g c tells s sound = c.stays.ensures s c.args.store.now c.give_back.new.store sound (λ disk is. returns-in-Err-journals_of-clause-stays g c tells disk)
