use Rattle.std.proofs.Common.{sym, ap, ◌∙◌, subst, length}
use Rattle.site_run.proofs.Words.{EachWith, IsOnlyRead, take_at}
use Rattle.site_run.proofs.settle.read_disks.Goals as goal

pub returns-clause-same : goal.returns-clause-same
returns-clause-same g c =
    let d = g.D.Disk in
    let only = IsOnlyRead d.tells d.seen d.image d.since d.faults d.planned d.is_down in
    subst (EachWith only c.args.disks.items) (sym (take_at c.read_back-read.new.disks _ c.args.disks.len (c.read_back-read.auto.disks ∙ c.deref_mut.ensures.len)))
    (subst (λ l. EachWith only l c.read_back-read.new.disks) c.deref_mut.ensures.value c.read_back-read.ensures.same)

pub returns-clause-count : goal.returns-clause-count
returns-clause-count g c =
    ap length (take_at c.read_back-read.new.disks _ c.args.disks.len (c.read_back-read.auto.disks ∙ c.deref_mut.ensures.len)) ∙ c.read_back-read.auto.disks ∙ ap length c.deref_mut.ensures.value
