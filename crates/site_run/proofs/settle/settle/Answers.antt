use Rattle.std.proofs.Common.{⊎_elim, inl, inr}
use Rattle.site_run.proofs.Words.{IfErr-at_err, IfErr-weaker, IfOk-at_ok, IfOk-weaker, KeepsPairs, KeepsNotes, is_replica, is_output, Rose}
use Rattle.site_run.proofs.Settling.{left_read, met_read, calm_read, up_read, told_counted, kept_in}
use Rattle.site_run.proofs.settle.settle.Goals as goal

pub returns-clause-left : goal.returns-clause-left
returns-clause-left g c tells name bytes now =
    let d = g.S.Disk.Disk in
    left_read d.tells d.seen d.image d.since d.faults d.planned d.is_down _ _ c.read_disks-disks.ensures.same tells (g.S.Store.image c.args.store.now) name bytes (c.give_parts.ensures.left tells name bytes now)

pub returns-clause-disks : goal.returns-clause-disks
returns-clause-disks g c l among some =
    let d = g.S.Disk.Disk in
    let m = met_read d.tells d.seen d.image d.since d.faults d.planned d.is_down _ _ c.read_disks-disks.ensures.same l among some in
    c.give_parts.ensures.disks m.0 m.1 m.2

pub returns-clause-notes : goal.returns-clause-notes
returns-clause-notes g c =
    let d = g.S.Disk.Disk in
    let read = c.read_disks-disks in
    IfOk-weaker c.outcome_of.result _ _
    (λ o is. kept_in d.tells d.seen d.image d.since d.faults d.planned d.is_down KeepsNotes is_replica c.args.parts.disks.items o.journals.notes.items (IfOk-at_ok _ is.1 read.ensures.notes) (IfOk-at_ok _ is.1 read.ensures.notes_left)) c.outcome_of.ensures.ok

pub returns-clause-pairs : goal.returns-clause-pairs
returns-clause-pairs g c =
    let d = g.S.Disk.Disk in
    let read = c.read_disks-disks in
    IfOk-weaker c.outcome_of.result _ _
    (λ o is. kept_in d.tells d.seen d.image d.since d.faults d.planned d.is_down KeepsPairs is_output c.args.parts.disks.items o.journals.pairs.items (IfOk-at_ok _ is.1 read.ensures.pairs) (IfOk-at_ok _ is.1 read.ensures.pairs_left)) c.outcome_of.ensures.ok

pub returns-clause-told : goal.returns-clause-told
returns-clause-told g c =
    let d = g.S.Disk.Disk in
    let disks = c.args.parts.disks.items in
    let rose = Rose (g.S.Store.faults c.args.store.now) (g.S.Store.faults c.give_parts.new.store) in
    IfErr-weaker c.outcome_of.result _ _
    (λ f. ⊎_elim inl (λ is.
    let told = IfErr-at_err _ is.1 c.read_disks-disks.ensures.err in
    inr (
      is.0,
      told_counted d.tells d.seen d.image d.since d.faults d.planned d.is_down disks _ f rose c.give_parts.ensures.disks told,
      λ planned up. up_read d.tells d.seen d.image d.since d.faults d.planned d.is_down disks _ planned up f told,
    ))) c.outcome_of.ensures.err

pub returns-clause-calm : goal.returns-clause-calm
returns-clause-calm g c planned up calm =
    let d = g.S.Disk.Disk in
    c.give_parts.ensures.calm (calm_read d.tells d.seen d.image d.since d.faults d.planned d.is_down _ _ c.read_disks-disks.ensures.same planned up calm)
