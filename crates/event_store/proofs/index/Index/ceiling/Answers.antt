use Rattle.std.proofs.Common.{◌≡◌, ◌<◌, rules, refl, false, subst, is_gt, arith}
use Rattle.event_store.proofs.Words.{Id, id_cmp}
use Rattle.event_store.proofs.Ranges.{between}
use Rattle.event_store.proofs.index.Index.ceiling.Goals as goal

pub returns : goal.returns
returns c =
    let lo : Id = record { ip = c.args.id.ip; pid = c.args.id.pid; micros = c.in_ok-checked_add.field-0 } in
    let hi : Id = record { ip = c.args.id.ip; pid = c.args.id.pid; micros = 18446744073709551615 } in
    let k : Id = c.in_ok-place.field-0-0.now in
    let r = (c.range.ensures.in_range (search rules)).1 in
    let e = rw c.in_ok-place.ensures.steps at r in
    let from : is_gt (id_cmp lo k) ≡ false = subst (λ (a : Id). is_gt (id_cmp a k) ≡ false) c.new.ensures.start e.0.0 in
    let up : is_gt (id_cmp k hi) ≡ false = subst (λ (a : Id). is_gt (id_cmp k a) ≡ false) c.new.ensures.end e.0.1 in
    let p = between lo hi k refl refl from up in
    let more : c.args.id.micros < c.in_ok-checked_add.field-0 = omega (arith, c.in_ok-checked_add.ensures) in
    (k, p.0, omega (arith, p.1, more), e.1)
