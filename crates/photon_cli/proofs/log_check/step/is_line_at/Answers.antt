use Rattle.std.proofs.Common.{sym, ap, ◌∙◌}
use Rattle.photon_cli.proofs.Words.{Decides-eqb, slice_eq-Decides, behind}
use Rattle.photon_cli.proofs.LogWalk.{read_there, not_long, not_end}
use Rattle.photon_cli.proofs.log_check.step.is_line_at.Goals as goal

pub returns-in-Ok-Line-clause-same_line : goal.returns-in-Ok-Line-clause-same_line
returns-in-Ok-Line-clause-same_line g c = λ t there rest short at none.
    let next = rw c.in-Ok-Line.field-0-is at (c.in-Ok-Line.ensures.next t) in
    let sought = ap (λ l. behind (g.L.LogFile.bytes l) c.seek.new.self.place) c.seek.ensures.log ∙ ap (behind (g.L.LogFile.bytes c.args.tail.now.log)) c.seek.ensures.place ∙ at in
    let is = read_there _ _ _ _ _ there rest next sought none ∙ sym c.line.ensures in
    let told = slice_eq-Decides Decides-eqb c.line.result.now c.args.line.now c.eq.result c.eq.ensures in
    ((λ e. is ∙ told.0 e), λ e. told.1 (sym is ∙ e))

pub returns-in-Ok-Long-clause-same_line : goal.returns-in-Ok-Long-clause-same_line
returns-in-Ok-Long-clause-same_line g c = λ t there rest short at none.
    let next = rw c.in-Ok-Long.field-0-is at (c.in-Ok-Long.ensures.next t) in
    let sought = ap (λ l. behind (g.L.LogFile.bytes l) c.seek.new.self.place) c.seek.ensures.log ∙ ap (behind (g.L.LogFile.bytes c.args.tail.now.log)) c.seek.ensures.place ∙ at in
    ((λ e. absurd cc), λ e. absurd (not_long _ _ _ _ c.next.new.self.window.0 there rest c.args.line.now next sought none short e))

pub returns-in-Ok-End-clause-same_line : goal.returns-in-Ok-End-clause-same_line
returns-in-Ok-End-clause-same_line g c = λ t there rest short at none.
    let next = rw c.in-Ok-End.field-0-is at (c.in-Ok-End.ensures.next t) in
    let sought = ap (λ l. behind (g.L.LogFile.bytes l) c.seek.new.self.place) c.seek.ensures.log ∙ ap (behind (g.L.LogFile.bytes c.args.tail.now.log)) c.seek.ensures.place ∙ at in
    absurd (not_end _ _ _ c.next.new.self.window.0 there rest next sought)
