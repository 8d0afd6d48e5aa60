use Rattle.std.proofs.Common.{Contains, sym, ◌∙◌, subst, arith}
use Rattle.log_records.proofs.Words.{IsIdText, err_from_is_err_and, head, space}
use Rattle.log_records.proofs.Grammar.{has_space, wrong_text, wrong_id, query_parts_are}
use Rattle.log_records.proofs.lines.query_parts.Goals as goal

pub returns-in_err-id-2-clause-why : goal.returns-in_err-id-2-clause-why
returns-in_err-id-2-clause-why c =
    let p = err_from_is_err_and c.from_residual-in_err-id-2.result c.from_residual-in_err-id-2.ensures.1 in
    let parts = rw c.in_ok-id.ensures.ok_part at c.split_once.ensures.parts in
    let split = rw c.in_ok-id.ensures.ok_part at c.split_once.ensures.found in
    let some : Contains c.args.line.now space = subst (λ l. Contains l space) (sym split) (has_space _ _) in
    rw (p.1, p.2) (wrong_id c.args.line.now _ _ (omega arith) some parts.0 c.in_err-id-2.ensures.why)

pub returns-in_err-check-clause-why : goal.returns-in_err-check-clause-why
returns-in_err-check-clause-why c =
    let p = err_from_is_err_and c.from_residual-in_err-check.result c.from_residual-in_err-check.ensures.1 in
    let parts = rw c.in_ok-id.ensures.ok_part at c.split_once.ensures.parts in
    let split = rw c.in_ok-id.ensures.ok_part at c.split_once.ensures.found in
    let some : Contains c.args.line.now space = subst (λ l. Contains l space) (sym split) (has_space _ _) in
    let id : IsIdText (head c.args.line.now) = (c.in_ok-id-2.id, c.in_ok-id-2.ensures.found.0, sym parts.0 ∙ c.in_ok-id-2.ensures.found.1) in
    rw (p.1, p.2) (wrong_text c.args.line.now _ _ (omega arith) some id parts.1 c.in_err-check.ensures.why)

pub returns-clause-found : goal.returns-clause-found
returns-clause-found c =
    let split = rw c.in_ok-id.ensures.ok_part at c.split_once.ensures.found in
    query_parts_are c.args.line.now c.in_ok-id-2.id _ _ split c.in_ok-id-2.ensures.found c.in_ok-check.ensures.ok
