use Rattle.std.proofs.Common.{sym, subst, arith}
use Rattle.std.specs.Prelude.{Result, IfOk}
use Rattle.air_bus.proofs.Words.{Keeps}
use Rattle.air_bus.proofs.Sending.{turn_still}
use Rattle.air_bus.proofs.nodes.choose.Goals as goal

if_ok_more : {T E : Type 0} (r : Result T E) (P Q : T → Type 0) → ((v : T) → P v → Q v) → IfOk r P → IfOk r Q
if_ok_more k e m h p = grind arith

pub returns-clause-answer : goal.returns-clause-answer
returns-clause-answer c = if_ok_more c.choose.result _ _
    (λ i told nodes r keeps. told nodes r (subst (λ x. Keeps nodes x r) (sym c.index_mut-inbox.ensures.value) (keeps c.index_mut-inbox.result.now)))
    c.choose.ensures.answer

pub returns-clause-same : goal.returns-clause-same
returns-clause-same c = turn_still c.args.inboxes.now.items c.args.at c.index_mut-inbox.result.now c.choose.new.self c.requires c.index_mut-inbox.ensures.value c.choose.ensures.same
