use Rattle.std.proofs.Common.{is_ok}
use Rattle.turn_defs.specs.Spellings.{IsPair}
use Rattle.gate_journal.specs.Spelled.{all_pushed, comes_as, comes_other}
use Rattle.output_log.specs.Pairs.{record_of}
use Rattle.output_log.proofs.outputs.OutputsRecord.take.Goals as goal

pub invariant_of-self : goal.invariant_of-self
invariant_of-self c =
    let found = rw c.in-Some.is at c.in_ok-pair.ensures.found in
    record { are_pairs = all_pushed IsPair record_of c.args.self.now.pairs.items _ c.in-Some.pair (is_ok c.push.result) c.args.self.now.are_pairs found.0 c.push.ensures.items }

pub returns-in_ok-push-in-Some-clause-next : goal.returns-in_ok-push-in-Some-clause-next
returns-in_ok-push-in-Some-clause-next c is ps kept =
    let found = rw c.in-Some.is at c.in_ok-pair.ensures.found in
    comes_as IsPair record_of c.args.self.now.pairs.items c.push.new.self.items c.in-Some.pair ps c.args.payload.now found.0 found.1 c.in_ok-push-in-Some.ensures.items kept

pub returns-in-None-clause-damage : goal.returns-in-None-clause-damage
returns-in-None-clause-damage c is ps rest kept =
    let other = rw c.in-None.is at c.in_ok-pair.ensures.none in
    comes_other IsPair record_of c.args.self.now.pairs.items ps rest c.args.payload.now other kept
