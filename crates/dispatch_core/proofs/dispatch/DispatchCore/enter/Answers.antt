use Rattle.std.proofs.Common.{refl, ◌≡◌, ◌∷◌, [], Some, sym, ◌∙◌, false, subst, arith}
use Rattle.dispatch_core.proofs.Words.{IfOk-weaker, cond-false, has, takes, Take, Click, Sends}
use Rattle.dispatch_core.proofs.Rows.{row_of, as_out, entered_live}
use Rattle.dispatch_core.proofs.dispatch.DispatchCore.enter.Goals as goal

pub returns-clause-turn : goal.returns-clause-turn
returns-clause-turn c = λ g k l s here later.
    let core = c.args.self.now in
    let line = c.args.line in
    let f = c.new-fresh.result in
    let e = c.new-fresh.ensures in
    let new : has k.pending line.position ≡ false = sym (s.pending line.position) ∙ sym c.contains.ensures ∙ c.if-contains.false in
    IfOk-weaker c.joining.result _ _
    (λ turn sends.
    as_out g core k l turn _ (takes g core.dealer.site k l (Some (record { place = line.position; end_ = line.end; click = line.click }))) (cond-false (has k.pending line.position) _ _ new)
    (row_of g core k l turn (Take f) ((line.position, line.click) ∷ []) _ s.of_setting (subst (λ (x : Click). Sends core turn (Take f) ((line.position, x) ∷ [])) c.in_ok-shared.ensures sends) refl refl (entered_live l f line.position line.end line.click false e.position e.end e.click e.done)
    (s, e.position ∙ sym here, omega (arith, later, e.position, e.end))))
    c.joining.ensures
