use Rattle.std.proofs.Common.{◌≡◌, List, [], ◌∷◌, ◌++◌, map, take, get_or, ap, sym, ◌∙◌, arith}
use Rattle.verify_pass.proofs.Words.{EventId, ReportLine, map-append, map_more, unboxed, unwritten_line}
use Rattle.verify_pass.proofs.lines.unwritten_lines.Goals as goal

pub loop-id-preserved : goal.loop-id-preserved
loop-id-preserved c = λ batches known.
    let ids = c.args.ids.now in
    let k = c.loop-id.id-index in
    let none : EventId = record { ip = 0; pid = 0; micros = 0 } in
    let x = get_or ids k none in
    let f : EventId → ReportLine = λ i. unwritten_line (batches i) i in
    let line : c.in_ok-new.field-0.value ≡ f x = c.in_ok-new.ensures.ok ∙ c.unwritten.ensures (batches x) (known x c.registry_for-registry.result.now c.registry_for-registry.ensures) in
    ap unboxed c.in_ok-push.ensures.items
    ∙ map-append _ c.loop-id.lines.items (c.in_ok-new.field-0 ∷ [])
    ∙ ap (λ (ls : List ReportLine). ls ++ c.in_ok-new.field-0.value ∷ []) (c.loop-id.invariant batches known)
    ∙ ap (λ (l : ReportLine). map f (take k ids) ++ l ∷ []) line
    ∙ sym (map_more f ids k none (omega arith))
