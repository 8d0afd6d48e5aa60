use Rattle.std.proofs.Common.{◌≡◌, Some, Err, sym, ◌∙◌, ap, subst, rules}
use Rattle.verify_pass.specs.TooSoon.{too_soon_for}
use Rattle.site_store.proofs.Words.{limit_in, kept_all, values_of}
use Rattle.site_store.specs.Adding.{accepted, IsAnswer}
use Rattle.site_store.proofs.Added.{answers, may_come}
use Rattle.site_store.proofs.adding.longer.Goals as goal

pub returns-in-None-clause-next : goal.returns-in-None-clause-next
returns-in-None-clause-next g c =
    let k = values_of c.args.opened.now.topology.value.kept c.args.opened.now.disks.items in
    let is : k.topology ≡ Some c.in-Some-kept.kept.now = search rules in
    may_come k.topology c.in-Some-kept.kept.now c.args.row c.in-Ok.table is c.in-Some-kept.ensures.is_topology (sym c.in-Ok.ensures.added) c.in-Ok.ensures.table

pub returns-in-Some-forbidding-clause-unadded : goal.returns-in-Some-forbidding-clause-unadded
returns-in-Some-forbidding-clause-unadded g c =
    let k = values_of c.args.opened.now.topology.value.kept c.args.opened.now.disks.items in
    let is : k.topology ≡ Some c.in-Some-kept.kept.now = search rules in
    let soon : too_soon_for (accepted k.disks) c.args.row.start ≡ Some c.in-Some-forbidding.soon = search rules in
    subst (IsAnswer k c.args.row) (ap Err (sym c.told.ensures))
    (answers k c.first_limit.result c.in-Some-kept.kept.now c.args.row c.in-Ok.table (Some c.in-Some-forbidding.soon) (c.first_limit.ensures ∙ ap (λ xs. limit_in (kept_all xs)) c.deref.ensures.value) c.in_default.not-Some is (sym c.in-Ok.ensures.added) soon)
