-- One note more on the disks.
use Rattle.std.proofs.Common.{◌≡◌, ◌⊎◌, ℕ, ◌+◌, ◌-◌, ◌^◌, ◌<◌, min, true, List, [], ◌∷◌, ◌++◌, ap, ◌∙◌, subst, arith, length-append, Ok, Result}
use Rattle.joiner_node.proofs.Words.{Disks, Holds, IsCalm, JoinerNote, Keeps, KeepsOr, LAST_EPOCH, Numbered, JoinerKept, OnDisks, PairsOr, image_of_epochs, image_of_log, note_of, pair_record, record_of, spells, takes_note, with_note, Only, Throughout, records, IsOldOrNew, comes_next, PairRec, IsPair}
use Rattle.outside.specs.declared.disk.Disk as disk
use Rattle.gate_journal.specs.Gate.{StandsFor}
use Rattle.gate_journal.specs.Growth.{Continues}
use Rattle.joiner_core.specs.Spelled.{IsWritten}
use Rattle.joiner_core.specs.declared.turn.JoinerNote.TheVariants as notes

-- an epoch comes next only below the last one
pub low_of : (epoch e : ℕ) (n : JoinerNote) → n ≡ notes.Epoch e → takes_note epoch (note_of n) ≡ true → epoch < LAST_EPOCH
low_of epoch e n is next = grind arith

abbrev ok_of : List (List ℕ) → Result (List (List ℕ)) ℕ
ok_of rs = Ok rs

module _ {D : Type 0} {d : disk.Ghosts D} where
  -- room was made, and then records were added
  pub grown : (r old : Disks D d) (epochs log : D) (k : Numbered JoinerKept) → IsCalm r old → Holds r k → ((c : List ℕ) → d.image epochs c → Continues (image_of_epochs old) c) × ((c : List ℕ) → d.image log c → Continues (image_of_log old) c)
      → ((c : List ℕ) → d.image epochs c → Continues (image_of_epochs r) c) × ((c : List ℕ) → d.image log c → Continues (image_of_log r) c)
  grown r old epochs log k calm holds more = grind arith

  -- whatever was left since an earlier moment has what was kept, or that with the pair
  pub pair_left : (r old : Disks D d) (new : D) (k : Numbered JoinerKept) (n : JoinerNote) → IsCalm r old → Holds r k → Throughout d.image d.since old.log.disk new (PairsOr k.disk (with_note n k).disk)
      → (c : List ℕ × List ℕ) → d.since r.epochs.journal.disk old.epochs.journal.disk c.0 × d.since r.log.disk new c.1 → OnDisks k c ⊎ OnDisks (with_note n k) c
  pair_left r old new k n calm holds moved c left = grind arith

  module _ (old : Disks D d) (k : Numbered JoinerKept) (n : JoinerNote) (p : PairRec) (bytes : List ℕ) (holds : Holds old k) (only : Only (d.seen old.log.disk) (image_of_log old)) (is : n ≡ notes.Pair p) (written : IsWritten n) (spelled : bytes ≡ record_of (note_of n)) where
    is_pair : IsPair p
    is_pair = subst IsWritten is written

    -- where there is an image, the disk reads as the pairs
    reads : (c : List ℕ) → image_of_log old c → spells k.disk.pairs (Ok (records (d.seen old.log.disk)))
    reads c here = grind arith

    appended : (b : List ℕ) → StandsFor (records (d.seen old.log.disk) ++ bytes ∷ []) b → Continues (image_of_log old) b → Keeps (k.disk.pairs ++ p ∷ []) b
    appended b stands (c, here, more) =
        let next = comes_next IsPair pair_record k.disk.pairs p (records (d.seen old.log.disk)) is_pair (reads c here) in
        (next.0, stands ∙ ap (λ (r : List ℕ). ok_of (records (d.seen old.log.disk) ++ r ∷ [])) (spelled ∙ ap (λ (m : JoinerNote). record_of (note_of m)) is) ∙ next.1)

    leaves : (b : List ℕ) → IsOldOrNew (records (d.seen old.log.disk)) bytes b × Continues (image_of_log old) b → KeepsOr k.disk.pairs p b
    leaves b h = grind (arith, appended)

    -- at each moment the log's disk has the pairs, or those and this one
    pub pair_moments : (new : D) → Throughout d.image d.since old.log.disk new (IsOldOrNew (records (d.seen old.log.disk)) bytes) → Throughout d.image d.since old.log.disk new (Continues (image_of_log old)) → Throughout d.image d.since old.log.disk new (PairsOr k.disk (with_note n k).disk)
    pair_moments new any grows = grind (arith, leaves)

    -- at the end it has this one
    pub pair_holds : (new : Disks D d) → new.epochs ≡ old.epochs → new.written ≡ min (old.written + 1) (2 ^ 64 - 1) → ((c : List ℕ) → image_of_log new c → StandsFor (records (d.seen old.log.disk) ++ bytes ∷ []) c) → ((c : List ℕ) → image_of_log new c → Continues (image_of_log old) c) → Holds new (with_note n k)
    pair_holds new same count durable grows = grind (arith, appended, length-append)
