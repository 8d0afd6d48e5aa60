use Rattle.std.proofs.Common.{ℕ, inr, [], ◌∷◌, ◌++◌, IsTrue, sym, subst, ◌∙◌}
use Rattle.photon_cli.proofs.Words.{SoFar}
use Rattle.photon_cli.proofs.LogWalk.{told_new, told_again, goes_on_new, first_line, goes_on_again, wrong_line, conflict}
use Rattle.photon_cli.proofs.log_check.step.line_step.Goals as goal

pub returns-in-Err-clause-step : goal.returns-in-Err-clause-step
returns-in-Err-clause-step g c = λ t rs is_next so_far keeps at.
    wrong_line g.K.Record.spelled g.K.Record.is_record g.K.Record.own_id _ c.args.place rs so_far g.K.Record.whys c.args.end _ c.in-Err.why is_next (rw c.line.ensures at c.in-Err.ensures.why)

pub returns-in-New-clause-step : goal.returns-in-New-clause-step
returns-in-New-clause-step g c = λ t rs is_next so_far keeps at.
    let ok = c.in-Ok.ensures.ok in
    let told = ok.4 rs keeps so_far.at in
    let none = told_new _ (sym c.in-New.is ∙ told.0) in
    let fresh = rw (sym ok.3) at none in
    let on = goes_on_new g.K.Record.spelled g.K.Record.is_record g.K.Record.own_id _ c.args.place rs so_far c.args.end _ ok.0 is_next ok.1 (sym c.line.ensures ∙ ok.2) fresh in
    (ok.0, ok.3, subst (λ (e : ℕ). SoFar g.K.Record.spelled g.K.Record.is_record g.K.Record.own_id (g.L.LogFile.bytes c.args.tail.now.log) e (rs ++ ok.0 ∷ [])) (sym at) on, told.1)

pub returns-then-same-clause-step : goal.returns-then-same-clause-step
returns-then-same-clause-step g c = λ t rs is_next so_far keeps at.
    let ok = c.in-Ok.ensures.ok in
    let told = ok.4 rs keeps so_far.at in
    let some = told_again _ c.in-Again.first (sym c.in-Again.is ∙ told.0) in
    let first = first_line g.K.Record.spelled g.K.Record.is_record g.K.Record.own_id _ c.args.place rs so_far c.in-Ok.seen.0 c.in-Again.first some in
    let same = c.in_ok-same-in-Again.ensures.same_line t is_next.2 (g.K.Record.spelled first.0) first.4.0 first.4.1 first.3 in
    let on = goes_on_again g.K.Record.spelled g.K.Record.is_record g.K.Record.own_id _ c.args.place rs so_far c.args.end _ ok.0 first.0 is_next ok.1 (sym c.line.ensures ∙ ok.2) first.1 (first.2 ∙ sym ok.3) (same.0 c.if-same.true) in
    (ok.0, ok.3, subst (λ (e : ℕ). SoFar g.K.Record.spelled g.K.Record.is_record g.K.Record.own_id (g.L.LogFile.bytes c.args.tail.now.log) e (rs ++ ok.0 ∷ [])) (sym c.is_as_first.ensures.place) on, told.1)

pub returns-else-same-clause-step : goal.returns-else-same-clause-step
returns-else-same-clause-step g c = λ t rs is_next so_far keeps at.
    let ok = c.in-Ok.ensures.ok in
    let told = ok.4 rs keeps so_far.at in
    let some = told_again _ c.in-Again.first (sym c.in-Again.is ∙ told.0) in
    let first = first_line g.K.Record.spelled g.K.Record.is_record g.K.Record.own_id _ c.args.place rs so_far c.in-Ok.seen.0 c.in-Again.first some in
    let same = c.in_ok-same-in-Again.ensures.same_line t is_next.2 (g.K.Record.spelled first.0) first.4.0 first.4.1 first.3 in
    inr (conflict g.K.Record.spelled g.K.Record.is_record g.K.Record.own_id _ c.args.place rs so_far g.K.Record.whys c.args.end _ ok.0 first.0 is_next ok.1 (sym c.line.ensures ∙ ok.2) first.1 (first.2 ∙ sym ok.3) (λ e.
    let is_same : IsTrue c.in_ok-same-in-Again.same = same.1 e in
    absurd (cc (c.if-same.false))))
