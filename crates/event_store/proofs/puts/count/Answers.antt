use Rattle.std.proofs.Common.{◌≡◌, Some, None, rules}
use Rattle.std.specs.BTreeMap as tree
use Rattle.event_store.proofs.Words.{key_cmp}
use Rattle.event_store.proofs.Changes.{counted_on, stray_on, err_on, counted_new}
use Rattle.event_store.proofs.puts.count.Goals as goal

pub returns-in-Some-clause-counted : goal.returns-in-Some-clause-counted
returns-in-Some-clause-counted c =
    let after = c.step.new.self in
    let had : tree.get key_cmp c.args.processes.now c.args.process ≡ Some c.in-Some.progress.now = search rules in
    let writes = (c.get_mut.follows.holds after).3 (search rules) in
    counted_on c.args.processes.now (c.get_mut.follows.lender after) c.args.process c.args.micros c.in-Some.progress.now after had writes.0 writes.1 c.step.result c.step.ensures.counted

pub returns-in-Some-clause-stray : goal.returns-in-Some-clause-stray
returns-in-Some-clause-stray c =
    let after = c.step.new.self in
    let had : tree.get key_cmp c.args.processes.now c.args.process ≡ Some c.in-Some.progress.now = search rules in
    let writes = (c.get_mut.follows.holds after).3 (search rules) in
    stray_on c.args.processes.now (c.get_mut.follows.lender after) c.args.process c.args.micros c.in-Some.progress.now after had writes.0 c.step.result c.step.ensures.stray

pub returns-in-Some-clause-err : goal.returns-in-Some-clause-err
returns-in-Some-clause-err c =
    let after = c.step.new.self in
    let had : tree.get key_cmp c.args.processes.now c.args.process ≡ Some c.in-Some.progress.now = search rules in
    let writes = (c.get_mut.follows.holds after).3 (search rules) in
    err_on c.args.processes.now (c.get_mut.follows.lender after) c.args.process c.args.micros c.in-Some.progress.now after had writes.0 c.step.result c.step.ensures.err

pub returns-clause-counted : goal.returns-clause-counted
returns-clause-counted c =
    let none : tree.get key_cmp c.args.processes.now c.args.process ≡ None = search rules in
    counted_new c.args.processes.now c.get_mut.follows.lender-at-none c.insert.new.self c.args.process c.args.micros c.get_mut.follows.holds-at-none none c.in_ok-insert.ensures.updates.0 c.in_ok-insert.ensures.updates.1
