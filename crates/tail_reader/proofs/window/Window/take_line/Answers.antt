use Rattle.std.proofs.Common.{List, ℕ, ◌+◌, ◌-◌, drop, ap, arith, ◌∙◌, length}
use Rattle.std.proofs.lemmas.List.{length-take}
use Rattle.tail_reader.proofs.Windows.{drop_window}
use Rattle.tail_reader.proofs.window.Window.take_line.Goals as goal

pub returns-clause-ahead : goal.returns-clause-ahead
returns-clause-ahead c =
    let is = ap (λ (v : List ℕ × List ℕ). v.1) c.self.view_is in
    let w = c.self.inside in
    drop_window w.start w.end (c.args.len + 1) w.bytes (omega (arith, ap length is, length-take (w.end - w.start) (drop w.start w.bytes))) ∙ ap (drop (c.args.len + 1)) is
