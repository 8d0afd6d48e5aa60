use Rattle.std.proofs.Common.{[], ◌∷◌, refl, sym, subst, ap, ◌∙◌, arith}
use Rattle.site_run.proofs.Words.{Dispatcher, AreKeptPlaces, is_named, number_of, OffsetDisk, RetryDisk}
use Rattle.site_run.proofs.Making.{dispatcher_said, down_at, first_used, made, pair_lent, put_log, put_two, still_there, unmade}
use Rattle.site_run.proofs.built.stock.Stock.dispatcher.Goals as goal

pub take_disk-requires : goal.take_disk-requires
take_disk-requires g c = record { there = c.requires.left.there _ (is_named _ _ (OffsetDisk _) c.requires.number) (omega arith) }

pub take_disk-requires-2 : goal.take_disk-requires-2
take_disk-requires-2 g c = record { there = still_there _ _ _ _ _ c.take_disk.ensures.name c.take_disk.ensures.taken (λ e. cc e) (c.requires.left.there _ (is_named _ _ (RetryDisk _) c.requires.number) (omega arith)) }

pub returns-in-Ok : goal.returns-in-Ok
returns-in-Ok g c =
    let i = c.args.number in
    let k = c.args.self.now.config in
    let a = c.take_disk.result in
    let b = c.take_disk-2.result in
    let one = c.take_disk.ensures in
    let two = c.take_disk-2.ensures in
    let node = c.in-Ok.ensures in
    made _ _ _ _ (a ∷ b ∷ []) (c.take_last-log.result ∷ []) []
    (first_used _ _ _ _ a b _ _ c.requires.number refl one.taken two.taken (ap (number_of k) one.name) (ap (number_of k) two.name) c.take_last-log.ensures.items refl) _ _ _ _ _ _ c.requires.left _ refl refl
    (record { numbered = node.number; up = node.up })
    (pair_lent a b _ _ _ _ one.name two.name (c.into_offset-offset.ensures.disk ∙ ap (λ j. j.journal.disk) (sym node.journals.0)) (c.into_retry-retry.ensures.disk ∙ ap (λ j. j.journal.disk) (sym node.journals.1)))
    (ap (λ l. l ∷ []) node.log)
    (λ tells s d of places own.
    let kept = dispatcher_said s d i _ _ _ _ _ _ one.name two.name c.into_offset-offset.ensures.kept c.into_retry-retry.ensures.kept own.0.0 own.0.1.0 in
    down_at _ s d _ i (Dispatcher i) refl c.requires.number _ kept (node.stands s of own.1.0 (subst (AreKeptPlaces s) kept (places i c.requires.number))))

pub returns-in-Err : goal.returns-in-Err
returns-in-Err g c =
    let k = c.args.self.now.config in
    let a = c.take_disk.result in
    let b = c.take_disk-2.result in
    let one = c.take_disk.ensures in
    let two = c.take_disk-2.ensures in
    let refused = c.in-Err.ensures.refused in
    let offset = c.into_offset-offset.ensures.disk ∙ ap (λ j. j.journal.disk) (sym (ap (λ b. b.0) refused)) ∙ sym c.into_disk.ensures in
    let retry = c.into_retry-retry.ensures.disk ∙ ap (λ j. j.journal.disk) (sym (ap (λ b. b.1) refused)) ∙ sym c.into_disk-in-Err.ensures in
    unmade _ _ _ _ (a ∷ b ∷ []) (c.take_last-log.result ∷ []) []
    (first_used _ _ _ _ a b _ _ c.requires.number refl one.taken two.taken (ap (number_of k) one.name) (ap (number_of k) two.name) c.take_last-log.ensures.items refl) _ _ _ _ _ _ c.requires.left
    (put_two _ _ _ _ _ _ c.put.ensures.disks c.put-in-Err.ensures.disks (pair_lent a b _ _ _ _ one.name two.name offset retry))
    (put_log _ _ _ _ _ (c.put-in-Err.ensures.logs ∙ c.put.ensures.logs) c.push_reserved.ensures.items (ap (λ b. b.2) refused))
    (omega arith, omega arith)
