use Rattle.std.proofs.Common.{rules, ◌≡◌, sym, ◌∙◌, ap, drop, Some}
use Rattle.turn_defs.specs.declared.pair.PairRec.{PairRec}
use Rattle.turn_defs.specs.Spellings.{IsPair}
use Rattle.output_log.specs.Pairs.{pair_of}
use Rattle.output_log.proofs.Parts.{one_pair, whole_pair, bad_other, not_empty}
use Rattle.output_log.proofs.pair.read_pair.Goals as goal

pub returns-then-is_empty-clause-found : goal.returns-then-is_empty-clause-found
returns-then-is_empty-clause-found c =
    let six : c.in-Some.tag.now ≡ 6 = search rules in (
      record { click = c.in-Ok.ensures.first; query = c.in-Ok.ensures.second; token = c.in-Ok.ensures.third },
      whole_pair (pair_of c.in-Ok.click c.in-Ok.query c.in-Ok.token) c.in-Some.tag.now c.args.payload.now c.in-Some.fields.now c.in-Ok.rest.now c.in-Some.ensures.cases.0 six c.in-Ok.ensures.found c.if-is_empty.ensures,
    )

pub returns-then-is_empty-clause-only : goal.returns-then-is_empty-clause-only
returns-then-is_empty-clause-only c pair is e =
    let p : PairRec = pair_of c.in-Ok.click c.in-Ok.query c.in-Ok.token in
    let is_read : IsPair p = record { click = c.in-Ok.ensures.first; query = c.in-Ok.ensures.second; token = c.in-Ok.ensures.third } in
    ap (λ (x : PairRec). Some x) (one_pair c.told_apart.ensures c.told_apart-2.ensures c.told_apart-3.ensures p pair c.in-Some.tag.now c.args.payload.now c.in-Some.fields.now c.in-Ok.rest.now is_read is c.in-Some.ensures.cases.0 c.in-Ok.ensures.found e).0

pub returns-else-is_empty-clause-none : goal.returns-else-is_empty-clause-none
returns-else-is_empty-clause-none c pair is e =
    let p : PairRec = pair_of c.in-Ok.click c.in-Ok.query c.in-Ok.token in
    let is_read : IsPair p = record { click = c.in-Ok.ensures.first; query = c.in-Ok.ensures.second; token = c.in-Ok.ensures.third } in
    not_empty c.in-Ok.rest.now c.if-is_empty.ensures (one_pair c.told_apart.ensures c.told_apart-2.ensures c.told_apart-3.ensures p pair c.in-Some.tag.now c.args.payload.now c.in-Some.fields.now c.in-Ok.rest.now is_read is c.in-Some.ensures.cases.0 c.in-Ok.ensures.found e).1

pub returns-else-is_empty-clause-only : goal.returns-else-is_empty-clause-only
returns-else-is_empty-clause-only c pair is e = absurd (returns-else-is_empty-clause-none c pair is e)

pub returns-in-Err-Bad-clause-none : goal.returns-in-Err-Bad-clause-none
returns-in-Err-Bad-clause-none c pair is e = bad_other c.in-Some.fields.now _ (rw c.in-Err-Bad.field-0-is at c.in-Err-Bad.ensures.bad) pair is (ap (drop 1) (sym c.in-Some.ensures.cases.0 ∙ e))

pub returns-in-Err-Bad-clause-only : goal.returns-in-Err-Bad-clause-only
returns-in-Err-Bad-clause-only c pair is e = absurd (returns-in-Err-Bad-clause-none c pair is e)
