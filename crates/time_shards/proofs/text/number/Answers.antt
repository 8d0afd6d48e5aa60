use Rattle.std.proofs.Common.{◌≡◌, Some, decimal, sym, ap, ◌∙◌, subst, arith}
use Rattle.std.specs.Result.{result_ok}
use Rattle.std.specs.Str.{IsUtf8}
use Rattle.std.proofs.lemmas.Fmt.{parse-decimal, IsAscii-decimal}
use Rattle.std.proofs.lemmas.Str.{IsUtf8-from_ascii}
use Rattle.event_id.specs.Numeral.{HasPlainFront}
use Rattle.event_id.proofs.Numerals.{parsed_is_decimal, decimal_front, ok_keeps, ok_loses, ok_kept, none_is_some}
use Rattle.time_shards.proofs.text.number.Goals as goal

pub returns-then-not-has_plain_front-clause-only : goal.returns-then-not-has_plain_front-clause-only
returns-then-not-has_plain_front-clause-only c n le e =
    absurd (c.if-not-has_plain_front.ensures.other (subst HasPlainFront (sym e) (decimal_front n (omega arith))))

pub returns-in_err-ok-clause-only : goal.returns-in_err-ok-clause-only
returns-in_err-ok-clause-only c n le e =
    let text = IsUtf8-from_ascii (decimal n) (IsAscii-decimal n (omega arith)) in
    absurd ((ok_loses c.from_utf8.result _ _ c.from_utf8.ensures.cases (sym c.ok.ensures.value ∙ c.in_err-ok.was)).1.0 (subst IsUtf8 (sym e) text))

pub returns-in_err-n-clause-only : goal.returns-in_err-n-clause-only
returns-in_err-n-clause-only c n le e =
    let same = ok_keeps c.from_utf8.result _ _ c.in_ok-ok.field-0 c.from_utf8.ensures.cases (sym c.ok.ensures.value ∙ c.in_ok-ok.was) in
    let read = parse-decimal 64 n c.in_ok-ok.field-0.now c.parse.result (omega arith) (omega arith) (same.0 ∙ e) c.parse.ensures.value.0 in
    absurd (none_is_some n (sym (c.in_err-n.was) ∙ c.ok-2.ensures.value ∙ ap result_ok read))

pub returns-then-n-limit-clause-found : goal.returns-then-n-limit-clause-found
returns-then-n-limit-clause-found c =
    let same = ok_keeps c.from_utf8.result _ _ c.in_ok-ok.field-0 c.from_utf8.ensures.cases (sym c.ok.ensures.value ∙ c.in_ok-ok.was) in
    let read = ok_kept c.parse.result c.in_ok-n.n (sym c.ok-2.ensures.value ∙ c.in_ok-n.was) in
    (omega arith, sym same.0 ∙ parsed_is_decimal c.in_ok-ok.field-0.now c.parse.result c.in_ok-n.n c.parse.ensures.value.0 (subst HasPlainFront (sym same.0) c.if-not-has_plain_front.ensures.plain) read)

pub returns-then-n-limit-clause-only : goal.returns-then-n-limit-clause-only
returns-then-n-limit-clause-only c n le e =
    let same = ok_keeps c.from_utf8.result _ _ c.in_ok-ok.field-0 c.from_utf8.ensures.cases (sym c.ok.ensures.value ∙ c.in_ok-ok.was) in
    let read = parse-decimal 64 n c.in_ok-ok.field-0.now c.parse.result (omega arith) (omega arith) (same.0 ∙ e) c.parse.ensures.value.0 in
    sym (c.in_ok-n.was) ∙ c.ok-2.ensures.value ∙ ap result_ok read

pub returns-else-n-limit-clause-only : goal.returns-else-n-limit-clause-only
returns-else-n-limit-clause-only c n le e =
    let same = ok_keeps c.from_utf8.result _ _ c.in_ok-ok.field-0 c.from_utf8.ensures.cases (sym c.ok.ensures.value ∙ c.in_ok-ok.was) in
    let read = parse-decimal 64 n c.in_ok-ok.field-0.now c.parse.result (omega arith) (omega arith) (same.0 ∙ e) c.parse.ensures.value.0 in
    let is : Some c.in_ok-n.n ≡ Some n = sym (c.in_ok-n.was) ∙ c.ok-2.ensures.value ∙ ap result_ok read in
    let n-is : c.in_ok-n.n ≡ n = cc in
    absurd (omega arith)
