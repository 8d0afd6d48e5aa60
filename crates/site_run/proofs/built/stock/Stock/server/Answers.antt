use Rattle.std.proofs.Common.{[], ◌∷◌, refl, sym, ap, ◌∙◌, arith}
use Rattle.site_run.proofs.Words.{Server, append-nil, is_named, number_of, ServerDisk}
use Rattle.site_run.proofs.Making.{down_at, lent_is, made, one_used, put_as, server_said, unmade}
use Rattle.site_run.proofs.built.stock.Stock.server.Goals as goal

pub take_disk-requires : goal.take_disk-requires
take_disk-requires g c = record { there = c.requires.left.there _ (is_named _ _ (ServerDisk _) (omega (arith, c.requires.number.1))) (omega arith) }

pub returns-in-Ok : goal.returns-in-Ok
returns-in-Ok g c =
    let a = c.take_disk.result in
    let one = c.take_disk.ensures in
    let node = c.in-Ok.ensures in
    made _ _ _ _ (a ∷ []) [] []
    (one_used _ _ _ _ a c.requires.number.0 (omega (arith, c.requires.number.1)) refl one.taken (ap (number_of c.args.self.now.config) one.name ∙ omega (arith, c.requires.number.0)) refl refl)
    _ _ _ _ _ _ c.requires.left _ refl refl (record { numbered = omega (arith, node.site, c.requires.number.0); up = node.up })
    (ap (λ l. l ∷ []) (lent_is a _ _ one.name (c.into_epochs-journal.ensures.disk ∙ ap (λ j. j.journal.disk) (sym node.journal)))) refl
    (λ tells s d of places own. down_at _ s d _ _ (Server _) (omega (arith, c.requires.number.0)) (omega (arith, c.requires.number.0, c.requires.number.1)) _ (server_said s d _ _ _ _ one.name c.into_epochs-journal.ensures.kept own.0.0) (node.stands tells s of))

pub returns-in-Err : goal.returns-in-Err
returns-in-Err g c =
    let a = c.take_disk.result in
    let one = c.take_disk.ensures in
    let disk = c.into_epochs-journal.ensures.disk ∙ ap (λ j. j.journal.disk) (sym c.in-Err.ensures.refused) ∙ sym c.into_disk.ensures in
    unmade _ _ _ _ (a ∷ []) [] []
    (one_used _ _ _ _ a c.requires.number.0 (omega (arith, c.requires.number.1)) refl one.taken (ap (number_of c.args.self.now.config) one.name ∙ omega (arith, c.requires.number.0)) refl refl)
    _ _ _ _ _ _ c.requires.left (put_as _ _ _ _ c.put.ensures.disks (ap (λ l. l ∷ []) (lent_is a _ _ one.name disk))) (c.put.ensures.logs ∙ sym (append-nil _)) (omega arith, omega arith)
