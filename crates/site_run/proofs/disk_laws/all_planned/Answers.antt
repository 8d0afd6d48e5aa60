use Rattle.std.proofs.Common.{◌≡◌, ◌&&◌, Bool, true, false, IsTrue, List, ℕ, Option, None, Some, refl, arith}
use Rattle.site_run.proofs.Words.{ready_states, waits_by}
use Rattle.site_run.proofs.Planning.{are_planned}
use Rattle.site_run.proofs.disk_laws.all_planned.Goals as goal

all_so : (b : Bool) → IsTrue b → IsTrue ((b && b) && (b && b))
all_so true is = refl
all_so false is = absurd (cc is)

ready_of : (doubt : Option (List ℕ)) (ready : Bool) → waits_by doubt ready ≡ false → ready ≡ true
ready_of None true up = refl
ready_of None false up = absurd (cc up)
ready_of (Some b) ready up = absurd (cc up)

pub returns-clause-planned : goal.returns-clause-planned
returns-clause-planned g c planned = all_so g.D.Disk.planned planned

pub returns-clause-disks : goal.returns-clause-disks
returns-clause-disks g c planned =
    let d = g.D.Disk in
    let tells = g.met.D.Disk.plan_told planned in
    are_planned (record { offset = λ d. d.records.offset.journal.disk; retry = λ d. d.records.retry.journal.disk; server = λ s. s.records.journal.journal.disk; replica = λ r. r.records.journal.disk; epochs = λ j. j.records.epochs.journal.disk; outputs = λ j. j.records.log.disk }) d.stops d.made d.faults d.is_down _ _ _ _
    (λ v up. let ready = ready_states v.records (ready_of v.in_doubt _ up) in (v.records.offset.journal.up tells ready.0, v.records.retry.journal.up tells ready.1))
    (λ v up. let ready = ready_of v.in_doubt _ up in v.records.journal.journal.up tells (grind arith))
    (λ v up. let ready = ready_of v.in_doubt _ up in v.records.journal.up tells (grind arith))
    (λ v up. let ready = ready_of v.in_doubt _ up in (v.records.epochs.journal.up tells (grind arith), v.records.log.up tells (grind arith)))
