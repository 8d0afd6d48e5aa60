use Rattle.std.proofs.Common.{◌≡◌, rules, refl, false, subst, is_gt}
use Rattle.event_store.proofs.Words.{Id, id_cmp}
use Rattle.event_store.proofs.Ranges.{between}
use Rattle.event_store.proofs.index.Index.floor.Goals as goal

pub returns-clause-some : goal.returns-clause-some
returns-clause-some c =
    let e = (c.range.ensures.in_range (search rules)).3 _ _ c.in_ok-place.ensures.steps in
    let k : Id = c.in_ok-place.field-0-0.now in
    let from : is_gt (id_cmp (record { ip = c.args.id.ip; pid = c.args.id.pid; micros = 0 }) k) ≡ false = subst (λ (a : Id). is_gt (id_cmp a k) ≡ false) c.new.ensures.start e.0.0 in
    let up : is_gt (id_cmp k c.args.id) ≡ false = subst (λ (a : Id). is_gt (id_cmp k a) ≡ false) c.new.ensures.end e.0.1 in
    let p = between (record { ip = c.args.id.ip; pid = c.args.id.pid; micros = 0 }) c.args.id k refl refl from up in
    (k, p.0, p.2, e.1)
