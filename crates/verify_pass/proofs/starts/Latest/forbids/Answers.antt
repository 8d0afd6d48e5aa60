use Rattle.std.proofs.Common.{ap, sym, ◌∙◌, Option}
use Rattle.verify_pass.proofs.Words.{option_map, EventId, Id}
use Rattle.verify_pass.proofs.Starting.{tells_bound, tells_id}
use Rattle.verify_pass.proofs.starts.Latest.forbids.Goals as goal

pub returns-then-self-start : goal.returns-then-self-start
returns-then-self-start c vs is = tells_bound vs c.args.start c.args.self is c.if-self-start.true

pub returns-in_err-id : goal.returns-in_err-id
returns-in_err-id c vs is = c.from_residual.ensures ∙ ap (λ (o : Option EventId). option_map Id o) (sym c.in_err-id.was) ∙ tells_id vs c.args.start c.args.self is c.if-self-start.false

pub returns : goal.returns
returns c vs is = ap (λ (o : Option EventId). option_map Id o) (sym c.in_ok-id.was) ∙ tells_id vs c.args.start c.args.self is c.if-self-start.false
