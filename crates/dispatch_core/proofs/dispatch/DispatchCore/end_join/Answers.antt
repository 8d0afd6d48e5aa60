use Rattle.std.proofs.Common.{[], refl, ◌∙◌}
use Rattle.dispatch_core.proofs.Words.{has, waits, ends, Nothing, Settle}
use Rattle.dispatch_core.proofs.Rows.{row_of, as_out, second, third, waits_as, tried_as}
use Rattle.dispatch_core.proofs.dispatch.DispatchCore.end_join.Goals as goal

pub returns-then-contains-clause-turn : goal.returns-then-contains-clause-turn
returns-then-contains-clause-turn c = λ g k l s.
    let core = c.args.self.now in
    let p = c.args.position in
    let w = waits_as g core k l p c.is_waiting.result s c.is_waiting.ensures ∙ c.if-is_waiting.false in
    let h = tried_as g core k l p c.contains.result s c.contains.ensures ∙ c.if-contains.true in
    as_out g core k l c.quiet-then-contains.result _ (ends g core.dealer.site k l p) (second (waits l.fresh p) (has l.trying p) _ _ _ w h) (row_of g core k l c.quiet-then-contains.result (Settle p) [] _ s.of_setting c.quiet-then-contains.ensures refl refl refl s)

pub returns-clause-turn : goal.returns-clause-turn
returns-clause-turn c = λ g k l s.
    let core = c.args.self.now in
    let p = c.args.position in
    let w = waits_as g core k l p c.is_waiting.result s c.is_waiting.ensures ∙ c.if-is_waiting.false in
    let h = tried_as g core k l p c.contains.result s c.contains.ensures ∙ c.if-contains.false in
    as_out g core k l c.quiet-2.result _ (ends g core.dealer.site k l p) (third (waits l.fresh p) (has l.trying p) _ _ _ w h) (row_of g core k l c.quiet-2.result Nothing [] _ s.of_setting c.quiet-2.ensures refl refl refl s)
