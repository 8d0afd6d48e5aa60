use Rattle.std.proofs.Common.{ap, ◌∙◌, arith, unwrap_or}
use Rattle.verify_pass.proofs.Words.{get, common_steps, is_place}
use Rattle.verify_pass.proofs.Groups.{found, joined}
use Rattle.verify_pass.proofs.chosen.join.Goals as goal

pub returns : goal.returns
returns c = λ p.
    let was = c.args.groups.now in
    let place = c.args.place in
    let entry = c.in_ok-groups.ensures in
    let group = c.or_insert-group.result.now in
    let held = found (get is_place was place) c.new.result group (c.or_insert-group.ensures.value ∙ ap (λ o. unwrap_or o c.new.result) entry.value) c.new.ensures.items in
    joined was.entries _ place group.items c.push.new.self c.args.one held c.in_ok-push.ensures.items (λ q. grind (arith, common_steps, (entry.update.0 c.push.new.self).0 q)) p
