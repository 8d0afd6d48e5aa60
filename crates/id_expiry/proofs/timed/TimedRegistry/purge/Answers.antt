use Rattle.std.proofs.Common.{arith}
use Rattle.std.specs.BTreeMap.{get}
use Rattle.event_id.specs.declared.id.EventId.{EventId}
use Rattle.registry_state.specs.LookBack.{first_in, or_else}
use Rattle.registry_state.proofs.Learning.{raises_above, stays_above}
use Rattle.id_expiry.specs.Times.{of_id, by_time}
use Rattle.id_expiry.specs.Timed.{token_of}
use Rattle.id_expiry.proofs.Tokens.{both_above}
use Rattle.id_expiry.proofs.timed.TimedRegistry.purge.Goals as goal

pub returns-then-bound-self-clause-known : goal.returns-then-bound-self-clause-known
returns-then-bound-self-clause-known c = λ applied k.
    let old = c.args.self.now in
    let held = λ (i : EventId). get by_time c.drop_below.new.held (of_id i) in
    let newest = c.keep_from.new.inserts.items in
    raises_above old.bound (token_of old) (λ i. or_else (held i) (first_in newest i)) applied c.args.bound k (omega arith) (both_above (λ i. get by_time old.held (of_id i)) held old.newest.items newest c.args.bound c.drop_below.ensures c.keep_from.ensures.items)

pub returns-then-bound-self-clause-kept : goal.returns-then-bound-self-clause-kept
returns-then-bound-self-clause-kept c = λ applied k.
    let old = c.args.self.now in
    both_above (λ i. get by_time old.held (of_id i)) (λ i. get by_time c.drop_below.new.held (of_id i)) old.newest.items c.keep_from.new.inserts.items c.args.bound c.drop_below.ensures c.keep_from.ensures.items

pub returns-else-bound-self-clause-known : goal.returns-else-bound-self-clause-known
returns-else-bound-self-clause-known c = λ applied k. stays_above c.args.self.now.bound (token_of c.args.self.now) applied c.args.bound k (omega arith)
