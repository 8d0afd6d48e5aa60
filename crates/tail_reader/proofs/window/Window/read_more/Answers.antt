use Rattle.std.proofs.Common.{List, ℕ, ◌-◌, drop, ap, arith, ◌∙◌}
use Rattle.std.proofs.lemmas.List.{length-take}
use Rattle.tail_reader.specs.Buffered.{behind}
use Rattle.tail_reader.proofs.Windows.{more_read}
use Rattle.tail_reader.proofs.window.Window.read_more.Goals as goal

pub returns-clause-bytes : goal.returns-clause-bytes
returns-clause-bytes g c = λ t.
    let w = c.self.inside in
    let len = w.end - w.start in
    let moved = c.move_to_front.new.bytes in
    let is = ap (λ (v : List ℕ × List ℕ). v.1) c.self.view_is in
    let read = c.in_ok-n.ensures.bytes t in
    let size = c.move_to_front.auto.bytes in
    let fits = c.in_ok-n.ensures.fits in
    let room = c.read_below.auto.buf in
    (read.0, more_read moved c.read_below.new.buf (drop (4096 - len) (drop len moved)) (behind (g.L.LogFile.bytes c.args.log.now) c.args.at) c.args.self.now.1 len c.in_ok-n.n _ (omega arith) (omega (arith, length-take len moved)) (c.move_to_front.ensures ∙ is) (omega arith) read.1)
