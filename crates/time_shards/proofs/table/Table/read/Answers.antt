use Rattle.std.proofs.Common.{◌≡◌, Ok, Err, List, ap, arith}
use Rattle.std.proofs.Math.ListN.{length-set}
use Rattle.time_shards.specs.declared.TheConstants.{MAX_ROWS}
use Rattle.time_shards.specs.declared.ShardRow.{ShardRow}
use Rattle.time_shards.specs.Text.{IsFirstBad, row_text}
use Rattle.time_shards.proofs.Spares.{spare_more}
use Rattle.time_shards.proofs.Texts.{none_bad, bad_at, full_at, more_at, last_at, only_table, one_bad}
use Rattle.time_shards.proofs.table.Table.read.Goals as goal

pub returns-in_default-clause-only : goal.returns-in_default-clause-only
returns-in_default-clause-only c table t e =
    let bad : IsFirstBad c.args.text.now c.loop-row.row = bad_at _ c.loop-row.rest.now c.loop-row.rows c.loop-row.row c.from-at.result c.from-at.ensures (omega (arith, c.from-at.array_long)) c.loop-row.invariant.begins c.loop-row.invariant.spelled c.in_default.ensures.none in
    absurd (none_bad _ _ table bad t e)

pub returns-in_default-clause-told : goal.returns-in_default-clause-told
returns-in_default-clause-told c row bad =
    let here : IsFirstBad c.args.text.now c.loop-row.row = bad_at _ c.loop-row.rest.now c.loop-row.rows c.loop-row.row c.from-at.result c.from-at.ensures (omega (arith, c.from-at.array_long)) c.loop-row.invariant.begins c.loop-row.invariant.spelled c.in_default.ensures.none in
    let same : c.loop-row.row ≡ row = one_bad _ _ _ here bad in
    ap (λ n. Err (record { row = n })) same

pub returns-in-None-clause-only : goal.returns-in-None-clause-only
returns-in-None-clause-only c table t e =
    let found : c.loop-row.rest.now ≡ row_text c.in-Some.next = rw c.in-None.is at c.in-Some.ensures.found in
    let last = last_at c.args.text.now c.loop-row.rest.now c.loop-row.rows c.in-Some.next c.loop-row.row c.from-at.result c.from-at.ensures (omega (arith, c.from-at.array_long)) c.loop-row.invariant.spelled c.in-Some.ensures.goes_on found in
    ap (λ (rows : List ShardRow). Ok rows) (only_table c.args.text.now _ table last.0 t last.1 e)

pub returns-in-None-clause-told : goal.returns-in-None-clause-told
returns-in-None-clause-told c row bad =
    let found : c.loop-row.rest.now ≡ row_text c.in-Some.next = rw c.in-None.is at c.in-Some.ensures.found in
    let last = last_at c.args.text.now c.loop-row.rest.now c.loop-row.rows c.in-Some.next c.loop-row.row c.from-at.result c.from-at.ensures (omega (arith, c.from-at.array_long)) c.loop-row.invariant.spelled c.in-Some.ensures.goes_on found in
    absurd (none_bad _ row _ bad last.0 last.1)

pub loop-row-preserved : goal.loop-row-preserved
loop-row-preserved c =
    let found = rw c.in-Some-behind.is at c.in-Some.ensures.found in
    let more = more_at c.args.text.now c.loop-row.rest.now c.in-Some-behind.behind.now c.loop-row.rows c.in-Some.next c.loop-row.row c.from-at.result c.from-at.ensures (omega (arith, c.from-at.array_long)) c.loop-row.invariant.spelled c.in-Some.ensures.goes_on found in
    record { long = omega (arith, c.loop-row.invariant.long, length-set {A = ShardRow}); spare = spare_more c.loop-row.rows c.in-Some.next c.loop-row.row c.from-at.result c.from-at.ensures (omega (arith, c.from-at.array_long)) c.loop-row.invariant.spare; begins = more.0; spelled = more.1 }

pub returns-clause-only : goal.returns-clause-only
returns-clause-only c table t e =
    absurd (none_bad c.args.text.now MAX_ROWS table (full_at c.args.text.now c.loop-row.rest.now c.loop-row.rows c.loop-row.row c.loop-row-test.false c.loop-row.auto.row-end c.loop-row.invariant.long c.loop-row.invariant.begins c.loop-row.invariant.spelled) t e)

pub returns-clause-bad : goal.returns-clause-bad
returns-clause-bad c = full_at c.args.text.now c.loop-row.rest.now c.loop-row.rows c.loop-row.row c.loop-row-test.false c.loop-row.auto.row-end c.loop-row.invariant.long c.loop-row.invariant.begins c.loop-row.invariant.spelled

pub returns-clause-told : goal.returns-clause-told
returns-clause-told c row bad =
    ap (λ n. Err (record { row = n })) (one_bad c.args.text.now MAX_ROWS row (full_at c.args.text.now c.loop-row.rest.now c.loop-row.rows c.loop-row.row c.loop-row-test.false c.loop-row.auto.row-end c.loop-row.invariant.long c.loop-row.invariant.begins c.loop-row.invariant.spelled) bad)
