use Rattle.std.proofs.Common.{◌≡◌, [], ◌∷◌, refl, sym, ap, subst, ◌∙◌, arith}
use Rattle.site_run.proofs.Words.{Joiner, is_named, number_of, EpochDisk, OutputDisk}
use Rattle.site_run.proofs.Making.{down_at, joiner_number, joiner_said, made, pair_lent, put_log, put_two, still_there, two_used, unmade}
use Rattle.site_run.proofs.Places.{IsSeat, seat_of}
use Rattle.site_run.proofs.built.stock.Stock.joiner.Goals as goal

pub take_disk-requires : goal.take_disk-requires
take_disk-requires g c =
    let seat = subst (λ p. IsSeat c.args.self.now.config c.args.number p.0 p.1) (sym c.joiner_place-site.ensures) (seat_of _ _ c.requires.number.0 c.requires.number.1) in
    record { there = c.requires.left.there _ (is_named _ _ (EpochDisk _ _) (seat.site_below, seat.place_below)) (omega (arith, seat.number)) }

pub take_disk-requires-2 : goal.take_disk-requires-2
take_disk-requires-2 g c =
    let seat = subst (λ p. IsSeat c.args.self.now.config c.args.number p.0 p.1) (sym c.joiner_place-site.ensures) (seat_of _ _ c.requires.number.0 c.requires.number.1) in
    record { there = still_there _ _ _ _ _ c.take_disk.ensures.name c.take_disk.ensures.taken (λ e. cc e) (c.requires.left.there _ (is_named _ _ (OutputDisk _ _) (seat.site_below, seat.place_below)) (omega (arith, seat.number))) }

pub take_last-log-requires : goal.take_last-log-requires
take_last-log-requires g c = omega (arith, c.requires.left.queries, c.requires.number.0, c.requires.number.1)

pub joiner_node-requires-clause-joiner : goal.joiner_node-requires-clause-joiner
joiner_node-requires-clause-joiner g c = (subst (λ p. IsSeat c.args.self.now.config c.args.number p.0 p.1) (sym c.joiner_place-site.ensures) (seat_of _ _ c.requires.number.0 c.requires.number.1)).place_below

pub returns-in-Ok : goal.returns-in-Ok
returns-in-Ok g c =
    let k = c.args.self.now.config in
    let seat = subst (λ p. IsSeat k c.args.number p.0 p.1) (sym c.joiner_place-site.ensures) (seat_of _ _ c.requires.number.0 c.requires.number.1) in
    let a = c.take_disk.result in
    let b = c.take_disk-2.result in
    let one = c.take_disk.ensures in
    let two = c.take_disk-2.ensures in
    let node = c.in-Ok.ensures in
    let at : c.in-Ok.node.number ≡ c.args.number = omega (arith, node.number, seat.number) in
    made _ _ _ _ (a ∷ b ∷ []) [] (c.take_last-log.result ∷ [])
    (two_used _ _ _ _ a b _ _ c.requires.number.0 c.requires.number.1 refl one.taken two.taken (ap (number_of k) one.name ∙ seat.number) (ap (number_of k) two.name ∙ seat.number) refl c.take_last-log.ensures.items) _ _ _ _ _ _ c.requires.left _ refl refl
    (record { numbered = at; up = node.up })
    (pair_lent a b _ _ _ _ (one.name ∙ ap (λ p. EpochDisk p.0 p.1) c.joiner_place-site.ensures) (two.name ∙ ap (λ p. OutputDisk p.0 p.1) c.joiner_place-site.ensures)
    (c.into_epochs-epochs.ensures.disk ∙ ap (λ j. j.journal.disk) (sym node.disks.0)) (c.into_output-outputs.ensures.disk ∙ ap (λ j. j.disk) (sym node.disks.1)))
    (ap (λ l. l ∷ []) node.log)
    (λ tells s d of places own.
    let number = joiner_number s _ _ _ _ of seat in
    let said = joiner_said s d _ _ _ _ _ _ _ _ one.name two.name c.into_epochs-epochs.ensures.kept c.into_output-outputs.ensures.kept own.0.0 own.0.1.0 in
    down_at _ s d _ _ (Joiner _) at (omega (arith, at, ap (λ x. x.replicas) of, c.requires.number.0), omega (arith, at, ap (λ x. x.replicas) of, ap (λ x. x.joiners) of, c.requires.number.1)) _ (ap d.joiners (at ∙ sym number) ∙ said)
    (node.stands tells s (record { epoch = c.into_epochs-epochs.result.value.epoch; pairs = c.into_output-outputs.result.value.pairs.items }) of own.2.0 refl refl))

pub returns-in-Err : goal.returns-in-Err
returns-in-Err g c =
    let k = c.args.self.now.config in
    let seat = subst (λ p. IsSeat k c.args.number p.0 p.1) (sym c.joiner_place-site.ensures) (seat_of _ _ c.requires.number.0 c.requires.number.1) in
    let a = c.take_disk.result in
    let b = c.take_disk-2.result in
    let one = c.take_disk.ensures in
    let two = c.take_disk-2.ensures in
    let refused = c.in-Err.ensures.err in
    let epochs = c.into_epochs-epochs.ensures.disk ∙ ap (λ j. j.journal.disk) (sym refused.0) ∙ sym c.into_disk.ensures in
    let outputs = c.into_output-outputs.ensures.disk ∙ ap (λ j. j.journal.disk) (sym refused.1) ∙ sym c.into_disk-in-Err.ensures in
    unmade _ _ _ _ (a ∷ b ∷ []) [] (c.take_last-log.result ∷ [])
    (two_used _ _ _ _ a b _ _ c.requires.number.0 c.requires.number.1 refl one.taken two.taken (ap (number_of k) one.name ∙ seat.number) (ap (number_of k) two.name ∙ seat.number) refl c.take_last-log.ensures.items) _ _ _ _ _ _ c.requires.left
    (put_two _ _ _ _ _ _ c.put.ensures.disks c.put-in-Err.ensures.disks (pair_lent a b _ _ _ _ one.name two.name epochs outputs))
    (put_log _ _ _ _ _ (c.put-in-Err.ensures.logs ∙ c.put.ensures.logs) c.push_reserved.ensures.items refused.2)
    (omega arith, omega arith)
