use Rattle.std.proofs.Common.{◌≡◌, List, ℕ, false, refl, sym, ap, ◌∙◌, subst, arith, length}
use Rattle.joiner_node.proofs.Words.{Keeps, second_meets, with_note}
use Rattle.joiner_node.proofs.Reopening.{doubt_left, found, log_first, pairs_opened, pairs_undamaged}
use Rattle.joiner_node.proofs.disks.DisksRecordsPairsKeptJoining.reopen.Goals as goal

pub returns-in-Err-clause-moments : goal.returns-in-Err-clause-moments
returns-in-Err-clause-moments g c tells k with doubt =
    let old = c.args.self.now in
    doubt_left old _ c.reopen_bare.new.journal.disk k with doubt (λ b left. doubt.epochs b (g.met.D.Disk.starts old.epochs.journal.disk b tells left)) (λ b left. pairs_opened k.disk (with_note doubt.note k).disk _ doubt.pairs b ((c.reopen_bare.ensures.any_moment tells).each b left))

pub returns-in-Err-clause-whole : goal.returns-in-Err-clause-whole
returns-in-Err-clause-whole g c tells k with doubt = c.fault_of.ensures.whole (pairs_undamaged k.disk (with_note doubt.note k).disk _ _ _ _ c.in-Err.fault tells doubt.pairs c.in-Err.ensures.err)

pub returns-in-Err-clause-plan : goal.returns-in-Err-clause-plan
returns-in-Err-clause-plan g c planned = second_meets g.D.Disk.stops g.D.Disk.made g.D.Disk.faults 3 _ _ _ _ _ _ c.fault_of.ensures.shut refl (c.in-Err.ensures.plan planned)

pub returns-in-Ok-reopen-clause-left : goal.returns-in-Ok-reopen-clause-left
returns-in-Ok-reopen-clause-left g c tells k with doubt =
    let old = c.args.self.now in
    let epochs = c.reopen.new.self in
    let log = c.reopen_bare.new.journal in
    let pairs = c.in-Ok.outputs.pairs in
    let e = c.in-Ok-reopen.ensures in
    let l = c.in-Ok.ensures in
    let many : length c.pairs.result.now ≡ length pairs.items = ap length c.pairs.ensures.pairs in
    found old (record { epochs = epochs; log = log; written = length c.pairs.result.now }) k with doubt pairs.items _ _ _ (c.epoch-epoch.ensures ∙ ap (λ e. e.epoch) c.value-in-Ok-reopen.ensures) (c.epoch-before.ensures ∙ ap (λ e. e.epoch) c.value.ensures) c.has_more-landed.ensures many (omega (arith, many, pairs.ok)) (e.left tells) c.told_apart.ensures (l.left tells) (λ b here. epochs.durable tells e.ready b here)
    (λ b here. subst (λ (x : List ℕ). Keeps pairs.items x) (sym ((log.settled tells l.ready).durable b here)) (l.kept tells))

pub returns-in-Ok-reopen-clause-plan : goal.returns-in-Ok-reopen-clause-plan
returns-in-Ok-reopen-clause-plan g c planned = log_first g.D.Disk.stops g.D.Disk.made g.D.Disk.faults false false c.args.self.now.epochs.journal.disk c.reopen.new.self.journal.disk c.args.self.now.log.disk c.reopen_bare.new.journal.disk refl (c.in-Ok.ensures.plan planned) (c.in-Ok-reopen.ensures.plan planned)

pub returns-in-Err-reopen-clause-plan : goal.returns-in-Err-reopen-clause-plan
returns-in-Err-reopen-clause-plan g c planned = log_first g.D.Disk.stops g.D.Disk.made g.D.Disk.faults _ _ c.args.self.now.epochs.journal.disk c.reopen.new.self.journal.disk c.args.self.now.log.disk c.reopen_bare.new.journal.disk c.fault_of-in-Err-reopen.ensures.shut (c.in-Ok.ensures.plan planned) (c.in-Err-reopen.ensures.plan planned)
