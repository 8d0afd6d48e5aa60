use Rattle.std.proofs.Common.{◌≡◌, ◌+◌, ◌-◌, ◌≤◌, ◌++◌, List, ℕ, length, take, drop, ap, subst, ◌∙◌, arith, length-drop}
use Rattle.photon_cli.proofs.Words.{length-take}
use Rattle.photon_cli.proofs.ReadPieces.{piece_read}
use Rattle.photon_cli.proofs.engine.read.read_piece.Goals as goal

pub returns-in-Ok-clause-piece : goal.returns-in-Ok-clause-piece
returns-in-Ok-clause-piece g c tells =
    let told = c.in-Ok.ensures.bytes tells in
    let grown = rw c.if-is_err.ensures.negation at c.resize.ensures.items in
    let size = rw c.if-is_err.ensures.negation at c.resize.ensures.len in
    let now = c.deref_mut.result.now in
    let len = c.len-len.result in
    let within : c.in-Ok.n ≤ length now - len = omega (arith, c.in-Ok.ensures.fits, length-take (length now - len) (drop len now), length-drop len now) in
    let buf : c.in-Ok.n ≤ length c.read_at.new.buf = omega (arith, c.in-Ok.ensures.fits) in
    let cap : len + c.in-Ok.n ≤ c.resize.new.self.len = omega (arith, size, c.deref_mut.ensures.len) in
    let same = piece_read c.args.bytes.now.items _ now c.read_at.new.buf _ _ c.truncate.new.self.items len c.in-Ok.n c.resize.new.self.len c.min-room.result (omega arith) (c.deref_mut.ensures.value ∙ grown) cap buf c.truncate.ensures.items in
    let all : List ℕ = g.L.LogFile.bytes c.args.log.now in
    let here : len ≡ length c.args.bytes.now.items = omega arith in
    subst (λ (k : ℕ). (c.in-Ok.n ≤ length (drop k all)) × (c.truncate.new.self.items ≡ c.args.bytes.now.items ++ take c.in-Ok.n (drop k all))) here
    (told.0, same ∙ ap (λ (piece : List ℕ). c.args.bytes.now.items ++ piece) told.1)
