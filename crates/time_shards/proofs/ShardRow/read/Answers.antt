use Rattle.std.proofs.Common.{◌∙◌, decimal, inr, arith}
use Rattle.std.proofs.lemmas.Option.{same_Some}
use Rattle.event_id.specs.EventId.{colon}
use Rattle.event_id.proofs.Numerals.{none_is_some, decimal_lacks}
use Rattle.time_shards.proofs.Texts.{row_is, row_joins, some_row}
use Rattle.time_shards.proofs.ShardRow.read.Goals as goal

pub returns-in_err-start-clause-only : goal.returns-in_err-start-clause-only
returns-in_err-start-clause-only c row is e =
    absurd (c.in_err-start.ensures.only (decimal row.start) (decimal row.count) (decimal_lacks colon row.start (inr (omega arith)) is.start) (e ∙ row_is row))

pub returns-in_err-start-2-clause-only : goal.returns-in_err-start-2-clause-only
returns-in_err-start-2-clause-only c row is e =
    let parts = c.in_ok-start.ensures.only (decimal row.start) (decimal row.count) (decimal_lacks colon row.start (inr (omega arith)) is.start) (e ∙ row_is row) in
    absurd (none_is_some row.start (c.in_err-start-2.ensures.only row.start (omega (arith, is.start)) parts.0))

pub returns-in_err-count-clause-only : goal.returns-in_err-count-clause-only
returns-in_err-count-clause-only c row is e =
    let parts = c.in_ok-start.ensures.only (decimal row.start) (decimal row.count) (decimal_lacks colon row.start (inr (omega arith)) is.start) (e ∙ row_is row) in
    absurd (none_is_some row.count (c.in_err-count.ensures.only row.count (omega (arith, is.few, c.from.ensures)) parts.1))

pub returns-then-count-gt0-clause-found : goal.returns-then-count-gt0-clause-found
returns-then-count-gt0-clause-found c = (
  record { start = omega (arith, c.in_ok-start-2.ensures.found.0); some = omega arith; few = omega (arith, c.in_ok-count.ensures.found.0, c.from.ensures) },
  row_joins c.args.text.now c.in_ok-start.start.now c.in_ok-start.count.now _ _ c.in_ok-start.ensures.found c.in_ok-start-2.ensures.found.1 c.in_ok-count.ensures.found.1,
)

pub returns-then-count-gt0-clause-only : goal.returns-then-count-gt0-clause-only
returns-then-count-gt0-clause-only c row is e =
    let parts = c.in_ok-start.ensures.only (decimal row.start) (decimal row.count) (decimal_lacks colon row.start (inr (omega arith)) is.start) (e ∙ row_is row) in
    let start = c.in_ok-start-2.ensures.only row.start (omega (arith, is.start)) parts.0 in
    let count = c.in_ok-count.ensures.only row.count (omega (arith, is.few, c.from.ensures)) parts.1 in
    some_row _ _ row (same_Some _ _ start) (same_Some _ _ count)

pub returns-else-count-gt0-clause-only : goal.returns-else-count-gt0-clause-only
returns-else-count-gt0-clause-only c row is e =
    let parts = c.in_ok-start.ensures.only (decimal row.start) (decimal row.count) (decimal_lacks colon row.start (inr (omega arith)) is.start) (e ∙ row_is row) in
    let count = same_Some _ _ (c.in_ok-count.ensures.only row.count (omega (arith, is.few, c.from.ensures)) parts.1) in
    absurd (omega (arith, count, is.some))
