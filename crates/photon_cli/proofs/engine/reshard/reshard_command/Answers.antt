use Rattle.std.proofs.Common.{◌≡◌, ◌≢◌, inl, inr, ℕ, List, Err, None, IsTrue, refl, sym, ap, subst, ◌∙◌, arith}
use Rattle.photon_cli.proofs.Words.{⊤, TookPrefix, HasRow, IsCauseFor, IsRowOf, REPLICAS, DiskName, Rose, ShardRow, failed_rose, rose_before, status_of}
use Rattle.outside.specs.declared.store.DiskName.TheVariants as name
use Rattle.run_fault.specs.declared.fault.RunFault.TheVariants as fault
use Rattle.run_fault.specs.declared.fault.StorePlace.TheVariants as place
use Rattle.site_store.specs.Adding.{IsRowCause, NoneTold}
use Rattle.photon_cli.proofs.Resharding.{adds, added_before, answer_for, cause_before, ends, ends_added, ends_place, fair_row, left_before, named_row, not_added, not_written, one_row, place_status, untaken}
use Rattle.photon_cli.proofs.Answered.{answered, ended}
use Rattle.photon_cli.proofs.engine.reshard.reshard_command.Goals as goal

pub returns-in_default-clause-ends : goal.returns-in_default-clause-ends
returns-in_default-clause-ends g c =
    let text = c.args.add.now in
    let before = g.S.Store.image c.args.store.now in
    let tells = g.S.Disk.Disk.tells in
    let none : HasRow text → ⊥ = λ (row, is). c.in_default.not-Some row (c.read-2.ensures.only row is.0 (c.as_bytes.ensures.value ∙ is.1)) in
    rw c.give_up.ensures.status
    (ends g.K.Sink.tells tells _ _ _ _ _ _ text _ before before _ (fault.Table 0) (refl, none) (λ d row is. absurd (none (row, is))) (λ has. (refl, inl refl)) (λ at is. absurd (cc)) (λ is. absurd (cc)) (λ s d is. absurd (cc))
    c.give_up.ensures.told (λ d s replicas sound some seven. omega (arith, seven)) (λ d. untaken text before before 2 (not_added (fault.Table 0) (λ is. cc)) (λ disk b now. now)))

pub returns-in-Err-clause-ends : goal.returns-in-Err-clause-ends
returns-in-Err-clause-ends g c =
    let text = c.args.add.now in
    let image = g.S.Store.image in
    let is : IsRowOf text c.in-Some.row = (c.in-Some.ensures.found.0, sym c.as_bytes.ensures.value ∙ c.in-Some.ensures.found.1) in
    rw c.give_up-in-Err.ensures.status
    (ends_place g.K.Sink.tells g.S.Disk.Disk.tells _ _ _ _ _ _ text _ (image c.args.store.now) (image c.place.new.self) _ c.in-Some.row is c.in-Err.fault c.from.result c.from.ensures (λ e. c.in-Err.ensures.count.rose (ap Err e))
    (λ d disk. (c.in-Err.ensures.same d disk).0) c.give_up-in-Err.ensures.told)

pub returns-in-Err-add_row-clause-ends : goal.returns-in-Err-add_row-clause-ends
returns-in-Err-add_row-clause-ends g c =
    let text = c.args.add.now in
    let row = c.in-Some.row in
    let image = g.S.Store.image in
    let tells = g.S.Disk.Disk.tells in
    let before = image c.args.store.now in
    let placed = image c.place.new.self in
    let after = image c.add_row.new.store in
    let old = g.S.Store.faults c.args.store.now in
    let mid = g.S.Store.faults c.place.new.self in
    let last = g.S.Store.faults c.add_row.new.store in
    let is : IsRowOf text row = (c.in-Some.ensures.found.0, sym c.as_bytes.ensures.value ∙ c.in-Some.ensures.found.1) in
    let within : IsTrue tells → (disk : DiskName) (b : List ℕ) → placed disk b → before disk b = λ d disk. (c.place.ensures.same d disk).0 in
    let e = c.in-Err-add_row.ensures in
    let f = c.in-Err-add_row.fault in
    let rises : Rose mid last → Rose old last = λ rose. rose_before old mid last c.place.ensures.count.later rose in
    let cause : IsTrue tells → IsCauseFor before (Rose old last) row f = λ d. cause_before placed before (within d) tells d row (Rose mid last) (Rose old last) rises f e.cause in
    let other : f ≢ fault.Write = not_written tells placed row (Rose mid last) f e.cause in
    rw c.give_up-in-Err-add_row.ensures.status
    (ends g.K.Sink.tells tells _ _ _ _ _ _ text _ before after _ f (named_row tells placed row (Rose mid last) text f (row, is) e.cause) (λ d r own. subst (λ (x : ShardRow). IsCauseFor before (Rose old last) x f) (one_row text row r is own) (cause d))
    (λ none. absurd (none (row, is))) (λ at failed. rises (failed_rose tells placed REPLICAS None NoneTold (Rose mid last) at (subst (IsRowCause tells placed REPLICAS row (Rose mid last)) failed e.cause))) (λ write. absurd (other write)) (λ s d write. absurd (other write))
    c.give_up-in-Err-add_row.ensures.told (λ d s replicas sound some. fair_row before (Rose old last) row c.read.ensures.topology c.fits.ensures.only s replicas sound some f (cause d))
    (λ d. left_before tells d text row is placed before after (within d) ⊥ (f ≢ fault.Store (place.Disk name.Topology)) (status_of f) (not_added f other) (λ no at. no.2 (ap status_of at)) (e.leaves d)))

pub returns-in-Ok-write_table-clause-ends : goal.returns-in-Ok-write_table-clause-ends
returns-in-Ok-write_table-clause-ends g c =
    let text = c.args.add.now in
    let row = c.in-Some.row in
    let image = g.S.Store.image in
    let tells = g.S.Disk.Disk.tells in
    let before = image c.args.store.now in
    let placed = image c.place.new.self in
    let after = image c.add_row.new.store in
    let is : IsRowOf text row = (c.in-Some.ensures.found.0, sym c.as_bytes.ensures.value ∙ c.in-Some.ensures.found.1) in
    let within : IsTrue tells → (disk : DiskName) (b : List ℕ) → placed disk b → before disk b = λ d disk. (c.place.ensures.same d disk).0 in
    let e = c.in-Ok.ensures in
    let table = c.in-Ok.table in
    let added = λ (d : IsTrue tells). added_before placed before (within d) tells d row after table e.added in
    let left = λ (d : IsTrue tells). left_before tells d text row is placed before after (within d) ⊤ ⊥ 0 (λ so. tt) (λ no. no.0 refl) (e.leaves d) in
    ends_added text tells before after row is table added g.K.Sink.tells _ _ _ _ _ _ _ (λ s. c.in-Ok-write_table.ensures.all s) left

pub returns-in-Err-write_table-clause-ends : goal.returns-in-Err-write_table-clause-ends
returns-in-Err-write_table-clause-ends g c =
    let text = c.args.add.now in
    let row = c.in-Some.row in
    let image = g.S.Store.image in
    let tells = g.S.Disk.Disk.tells in
    let before = image c.args.store.now in
    let placed = image c.place.new.self in
    let after = image c.add_row.new.store in
    let is : IsRowOf text row = (c.in-Some.ensures.found.0, sym c.as_bytes.ensures.value ∙ c.in-Some.ensures.found.1) in
    let within : IsTrue tells → (disk : DiskName) (b : List ℕ) → placed disk b → before disk b = λ d disk. (c.place.ensures.same d disk).0 in
    let e = c.in-Ok.ensures in
    let table = c.in-Ok.table in
    let added = λ (d : IsTrue tells). added_before placed before (within d) tells d row after table e.added in
    let left = λ (d : IsTrue tells). left_before tells d text row is placed before after (within d) ⊤ ⊥ 5 (λ so. tt) (λ no. no.1 refl) (e.leaves d) in
    let old = g.K.Sink.held c.args.out.now in
    let new = g.K.Sink.held c.write_table.new.out in
    rw c.give_up-in-Err-write_table.ensures.status
    (ends g.K.Sink.tells tells _ _ old new _ _ text _ before after _ fault.Write (row, is) (answer_for text tells before after row is table added) (λ none. absurd (none (row, is))) (λ at x. absurd (cc)) (λ x. c.in-Err-write_table.ensures.count.rose refl)
    (λ s d x. adds text tells before after row is table added (λ (line : List ℕ). TookPrefix old line new) (c.in-Err-write_table.ensures.prefix s) d) c.give_up-in-Err-write_table.ensures.told (λ d s replicas whole some seven. omega (arith, seven))
    left)

pub returns-in_default-clause-answered : goal.returns-in_default-clause-answered
returns-in_default-clause-answered g c = answered _ _ _ _ _ _ (fault.Table 0) ⊥ c.give_up.ensures.status (returns-in_default-clause-ends g c).never.2 (λ is. cc) (record { later = omega arith; rose = λ no. absurd no }) (λ tells. inr refl)

pub returns-in-Err-clause-answered : goal.returns-in-Err-clause-answered
returns-in-Err-clause-answered g c =
    answered _ _ _ _ _ _ c.from.result ⊥ c.give_up-in-Err.ensures.status (returns-in-Err-clause-ends g c).never.2 (λ is. place_status c.in-Err.fault c.from.result c.from.ensures (ap status_of is)) (record { later = omega arith; rose = λ no. absurd no }) (λ tells. inr refl)

pub returns-in-Err-add_row-clause-answered : goal.returns-in-Err-add_row-clause-answered
returns-in-Err-add_row-clause-answered g c =
    let f = c.in-Err-add_row.fault in
    let other = not_written g.S.Disk.Disk.tells (g.S.Store.image c.place.new.self) c.in-Some.row _ f c.in-Err-add_row.ensures.cause in
    answered _ _ _ _ _ _ f ⊥ c.give_up-in-Err-add_row.ensures.status (returns-in-Err-add_row-clause-ends g c).never.2 other (record { later = omega arith; rose = λ no. absurd no }) (λ tells. inr refl)

pub returns-in-Ok-write_table-clause-answered : goal.returns-in-Ok-write_table-clause-answered
returns-in-Ok-write_table-clause-answered g c = ended _ 0 0 _ _ _ _ 0 (inl refl) (omega arith) c.in-Ok-write_table.ensures.count.later

pub returns-in-Err-write_table-clause-answered : goal.returns-in-Err-write_table-clause-answered
returns-in-Err-write_table-clause-answered g c =
    let e = c.in-Err-write_table.ensures.count in
    answered _ _ _ _ _ _ fault.Write (fault.Write ≡ fault.Write) c.give_up-in-Err-write_table.ensures.status (returns-in-Err-write_table-clause-ends g c).never.2 (λ is. is) (record { later = e.later; rose = λ is. e.rose refl }) (λ tells. inl refl)
