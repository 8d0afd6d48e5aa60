use Rattle.std.proofs.Common.{List, ℕ, Err, refl, sym, ap, subst, arith}
use Rattle.photon_cli.proofs.Words.{⊤, IsSomeAnd, Rose, DiskName, IsLogOf, rose_before, leaves_placed, sound_placed, welcome_where, HasCauseInVerify, IsReadFrom}
use Rattle.photon_cli.proofs.Reading.{place_stops, read_rose, read_so, refused_so, rose_shut}
use Rattle.photon_cli.proofs.Verifying.{read_before}
use Rattle.photon_cli.proofs.engine.verify.kept_store.Goals as goal

pub returns-in-Ok-read-clause-read : goal.returns-in-Ok-read-clause-read
returns-in-Ok-read-clause-read g c here log_here =
    let before = g.S.Store.image c.args.store.now in
    let placed = g.S.Store.image c.place.new.self in
    let inside : (disk : DiskName) (b : List ℕ) → placed disk b → before disk b = λ disk. (c.place.ensures.same here disk).0 in
    let kept = c.in-Ok-read.kept in
    let bytes = g.F.Log.LogFile.bytes c.in-Ok.log in
    let read : IsReadFrom before bytes kept = read_before before placed inside g.S.Disk.Disk.tells g.F.Log.LogFile.tells bytes c.args.end kept here c.in-Ok-read.ensures.kept (c.in-Ok-read.ensures.report here) in
    rw (c.in-Ok.ensures.bytes log_here) read

pub returns-in-Ok-read-clause-stays : goal.returns-in-Ok-read-clause-stays
returns-in-Ok-read-clause-stays g c here disk b now = let x = c.read_store-read.ensures.stays here disk b now in (x.0, (c.place.ensures.same here disk).0 x.0 x.1, x.2)

pub returns-in-Err-read-clause-stays : goal.returns-in-Err-read-clause-stays
returns-in-Err-read-clause-stays g c here disk b now = let x = c.read_store-read.ensures.stays here disk b now in (x.0, (c.place.ensures.same here disk).0 x.0 x.1, x.2)

pub returns-in-Err-read-clause-sound : goal.returns-in-Err-read-clause-sound
returns-in-Err-read-clause-sound g c here s sound =
    c.read_store-read.ensures.sound here s (sound_placed s (g.S.Store.image c.args.store.now) (g.S.Store.image c.place.new.self) (λ disk. (c.place.ensures.same here disk).0) sound)

pub returns-in-Err-place-clause-stays : goal.returns-in-Err-place-clause-stays
returns-in-Err-place-clause-stays g c here disk b now = (b, (c.in-Err-place.ensures.same here disk).0 b now, refl)

pub returns-in-Err-place-clause-sound : goal.returns-in-Err-place-clause-sound
returns-in-Err-place-clause-sound g c here s sound =
    sound_placed s (g.S.Store.image c.args.store.now) (g.S.Store.image c.place.new.self) (λ disk. (c.in-Err-place.ensures.same here disk).0) sound

pub returns-in-Ok-read-clause-sound : goal.returns-in-Ok-read-clause-sound
returns-in-Ok-read-clause-sound g c here s sound =
    c.read_store-read.ensures.sound here s (sound_placed s (g.S.Store.image c.args.store.now) (g.S.Store.image c.place.new.self) (λ disk. (c.place.ensures.same here disk).0) sound)

pub returns-in-Err-place-clause-caused : goal.returns-in-Err-place-clause-caused
returns-in-Err-place-clause-caused g c disks logs s over end =
    subst (HasCauseInVerify s (g.S.Store.image c.args.store.now) _ _) (sym c.from.ensures)
    (place_stops s (g.S.Store.image c.args.store.now) _ _ c.in-Err-place.fault (λ is. c.in-Err-place.ensures.count.rose (ap Err is)))

pub returns-in-Err-read-clause-caused : goal.returns-in-Err-read-clause-caused
returns-in-Err-read-clause-caused g c disks logs s over end =
    let before = g.S.Store.image c.args.store.now in
    let placed = g.S.Store.image c.place.new.self in
    let inside : (disk : DiskName) (b : List ℕ) → placed disk b → before disk b = λ disk. (c.place.ensures.same disks disk).0 in
    let bytes = g.F.Log.LogFile.bytes c.in-Ok.log in
    let first = g.F.Source.faults c.args.files.now in
    let last = g.F.Source.faults c.shut-2.new.self in
    let old = g.F.Log.LogFile.faults c.in-Ok.log in
    let new = g.F.Log.LogFile.faults c.read_store-read.new.clicks in
    let store_old = g.S.Store.faults c.args.store.now in
    let store_placed = g.S.Store.faults c.place.new.self in
    let store_new = g.S.Store.faults c.read_store-read.new.store in
    let e = c.in-Err-read.ensures in
    refused_so before placed inside s g.S.Disk.Disk.tells g.F.Log.LogFile.tells disks logs bytes c.args.end (subst (λ o. IsSomeAnd o (λ log. IsLogOf log s)) (c.in-Ok.ensures.bytes logs) over) end
    (Rose old new) (Rose store_placed store_new) (Rose first last) (Rose store_old store_new)
    (λ rose. rose_shut first (g.F.Source.faults c.open_log.new.files) last old new c.in-Ok.ensures.fresh c.open_log.ensures.count.later c.shut-2.ensures.count rose)
    (λ rose. rose_before store_old store_placed store_new c.place.ensures.count.later rose)
    c.in-Err-read.fault e.cause

pub returns-in-Ok-read-clause-passed : goal.returns-in-Ok-read-clause-passed
returns-in-Ok-read-clause-passed g c disks logs s over end =
    let before = g.S.Store.image c.args.store.now in
    let placed = g.S.Store.image c.place.new.self in
    let inside : (disk : DiskName) (b : List ℕ) → placed disk b → before disk b = λ disk. (c.place.ensures.same disks disk).0 in
    let bytes = g.F.Log.LogFile.bytes c.in-Ok.log in
    let log_is = subst (λ o. IsSomeAnd o (λ log. IsLogOf log s)) (c.in-Ok.ensures.bytes logs) over in
    read_so before placed inside s g.S.Disk.Disk.tells g.F.Log.LogFile.tells disks logs bytes c.args.end log_is end c.in-Ok-read.kept c.in-Ok-read.ensures.kept

pub returns-in-Err-read-clause-welcome : goal.returns-in-Err-read-clause-welcome
returns-in-Err-read-clause-welcome g c disks logs s over end replicas leaves sound =
    let before = g.S.Store.image c.args.store.now in
    let placed = g.S.Store.image c.place.new.self in
    let inside : (disk : DiskName) (b : List ℕ) → placed disk b → before disk b = λ disk. (c.place.ensures.same disks disk).0 in
    let bytes = g.F.Log.LogFile.bytes c.in-Ok.log in
    let log_is = subst (λ o. IsSomeAnd o (λ log. IsLogOf log s)) (c.in-Ok.ensures.bytes logs) over in
    let some = leaves_placed s before placed (c.place.ensures.same disks) leaves in
    welcome_where c.in-Err-read.fault _ ⊤ (λ x. some) (c.in-Err-read.ensures.welcome disks logs s log_is end replicas some (sound_placed s before placed inside sound))

pub returns-in-Err-read-clause-log_count : goal.returns-in-Err-read-clause-log_count
returns-in-Err-read-clause-log_count g c =
    let first = g.F.Source.faults c.args.files.now in
    let last = g.F.Source.faults c.shut-2.new.self in
    let old = g.F.Log.LogFile.faults c.in-Ok.log in
    let new = g.F.Log.LogFile.faults c.read_store-read.new.clicks in
    record {
      later = omega (arith, c.open_log.ensures.count.later, c.shut-2.ensures.count);
      rose = λ failed. rose_shut first (g.F.Source.faults c.open_log.new.files) last old new c.in-Ok.ensures.fresh c.open_log.ensures.count.later c.shut-2.ensures.count
          (read_rose g.S.Disk.Disk.tells (g.S.Store.image c.place.new.self) _ g.F.Log.LogFile.tells (g.F.Log.LogFile.bytes c.in-Ok.log) c.args.end (Rose old new) c.in-Err-read.fault c.in-Err-read.ensures.cause failed);
    }
