use Rattle.std.proofs.Common.{Contains, sym, ◌∙◌, subst, ap, arith}
use Rattle.log_records.proofs.Words.{IsIdText, err_from_is_err_and, head, space, tail}
use Rattle.log_records.proofs.Grammar.{has_space, SpacedTwice, wrong_click_text, wrong_click_id, wrong_query_id, click_parts_are}
use Rattle.log_records.proofs.lines.click_parts.Goals as goal

pub returns-in_err-id-2-clause-why : goal.returns-in_err-id-2-clause-why
returns-in_err-id-2-clause-why c =
    let p = err_from_is_err_and c.from_residual-in_err-id-2.result c.from_residual-in_err-id-2.ensures.1 in
    let parts = rw c.in_ok-id.ensures.ok_part at c.split_once.ensures.parts in
    let split = rw c.in_ok-id.ensures.ok_part at c.split_once.ensures.found in
    let parts-2 = rw c.in_ok-query.ensures.ok_part at c.split_once-2.ensures.parts in
    let split-2 = rw c.in_ok-query.ensures.ok_part at c.split_once-2.ensures.found in
    let some : SpacedTwice c.args.line.now = (subst (λ l. Contains l space) (sym split) (has_space _ _), subst (λ l. Contains l space) (sym split-2 ∙ parts.1) (has_space _ _)) in
    rw (p.1, p.2) (wrong_click_id c.args.line.now _ _ (omega arith) some parts.0 c.in_err-id-2.ensures.why)

pub returns-in_err-query-2-clause-why : goal.returns-in_err-query-2-clause-why
returns-in_err-query-2-clause-why c =
    let p = err_from_is_err_and c.from_residual-in_err-query-2.result c.from_residual-in_err-query-2.ensures.1 in
    let parts = rw c.in_ok-id.ensures.ok_part at c.split_once.ensures.parts in
    let split = rw c.in_ok-id.ensures.ok_part at c.split_once.ensures.found in
    let parts-2 = rw c.in_ok-query.ensures.ok_part at c.split_once-2.ensures.parts in
    let split-2 = rw c.in_ok-query.ensures.ok_part at c.split_once-2.ensures.found in
    let some : SpacedTwice c.args.line.now = (subst (λ l. Contains l space) (sym split) (has_space _ _), subst (λ l. Contains l space) (sym split-2 ∙ parts.1) (has_space _ _)) in
    let id : IsIdText (head c.args.line.now) = (c.in_ok-id-2.id, c.in_ok-id-2.ensures.found.0, sym parts.0 ∙ c.in_ok-id-2.ensures.found.1) in
    rw (p.1, p.2) (wrong_query_id c.args.line.now _ _ (omega arith) some id (parts-2.0 ∙ ap head parts.1) c.in_err-query-2.ensures.why)

pub returns-in_err-check-clause-why : goal.returns-in_err-check-clause-why
returns-in_err-check-clause-why c =
    let p = err_from_is_err_and c.from_residual-in_err-check.result c.from_residual-in_err-check.ensures.1 in
    let parts = rw c.in_ok-id.ensures.ok_part at c.split_once.ensures.parts in
    let split = rw c.in_ok-id.ensures.ok_part at c.split_once.ensures.found in
    let parts-2 = rw c.in_ok-query.ensures.ok_part at c.split_once-2.ensures.parts in
    let split-2 = rw c.in_ok-query.ensures.ok_part at c.split_once-2.ensures.found in
    let some : SpacedTwice c.args.line.now = (subst (λ l. Contains l space) (sym split) (has_space _ _), subst (λ l. Contains l space) (sym split-2 ∙ parts.1) (has_space _ _)) in
    let id : IsIdText (head c.args.line.now) = (c.in_ok-id-2.id, c.in_ok-id-2.ensures.found.0, sym parts.0 ∙ c.in_ok-id-2.ensures.found.1) in
    let query : IsIdText (head (tail c.args.line.now)) = (c.in_ok-query-2.query, c.in_ok-query-2.ensures.found.0, ap head (sym parts.1) ∙ sym parts-2.0 ∙ c.in_ok-query-2.ensures.found.1) in
    rw (p.1, p.2) (wrong_click_text c.args.line.now _ _ (omega arith) some id query (parts-2.1 ∙ ap tail parts.1) c.in_err-check.ensures.why)

pub returns-clause-found : goal.returns-clause-found
returns-clause-found c =
    let split = rw c.in_ok-id.ensures.ok_part at c.split_once.ensures.found in
    let split-2 = rw c.in_ok-query.ensures.ok_part at c.split_once-2.ensures.found in
    click_parts_are c.args.line.now c.in_ok-id-2.id c.in_ok-query-2.query _ _ _ _ split split-2 c.in_ok-id-2.ensures.found c.in_ok-query-2.ensures.found c.in_ok-check.ensures.ok
