-- What an append leaves of a replica's journal, and which notes are found after a stop.
use Rattle.std.proofs.Common.{◌≡◌, ◌==◌, not, ◌⊎◌, inl, inr, ⊎_elim, ℕ, ◌+◌, ◌-◌, ◌^◌, ◌≤◌, min, Bool, List, [], ◌∷◌, ◌++◌, length, Ok, refl, sym, ap, ◌∙◌, subst, arith, length-append, All, map, if◌then◌else◌, IsTrue}
use Rattle.replica_node.proofs.Words.{eq-eqb, ne_eqb, result_unwrap_or, All-head, All-tail, ReplicaNote, note_view, note, IsNote, OneNote, fits, Voted, note_apart, records, StandsFor, IsOldOrNew, IsOpened, IsLeft, IsCalm, Throughout, Continues, continues_through, KeepsOr, KeepsNotes, Read, Ready, ReplicaKept, kept_of, Holds, Doubts, with_note, OnDisk, either_way, spells, is_damaged_at, IsRefusedAgain, IsUndamaged, never_damaged, gate_rule, comes_as, JournalFault, VoteRecords}
use Rattle.replica_node.proofs.Noting.{kept_push}
use Rattle.outside.specs.declared.disk.Disk as disk
use Rattle.gate_journal.specs.declared.reading.JournalFault.TheVariants.{Damaged, Disk, Memory}

-- ---- the record of a note

pub short_record : (bytes : List ℕ) (n : ReplicaNote) → IsNote n → bytes ≡ note n → length bytes ≤ 1952
short_record bytes n is e = subst (λ (b : List ℕ). length b ≤ 1952) (sym e) (fits n is)

pub only_note : (bytes : List ℕ) (v : OneNote bytes) (n : ReplicaNote) → IsNote n → bytes ≡ note n → Voted (note_view v.0) ≡ Voted (note_view n)
only_note bytes v n is e = ap (λ (m : ReplicaNote). Voted (note_view m)) (note_apart v.0 n [] [] v.1.0 is (ap (λ (b : List ℕ). b ++ []) (sym v.1.1 ∙ e)))

-- records are of one list of notes alone
same_notes : (xs ys : List ReplicaNote) → All IsNote xs → All IsNote ys → map note xs ≡ map note ys → xs ≡ ys
same_notes [] [] all each e = refl
same_notes [] (y ∷ ys) all each e = absurd (cc e)
same_notes (x ∷ xs) [] all each e = absurd (cc e)
same_notes (x ∷ xs) (y ∷ ys) all each e =
    let first : note x ++ [] ≡ note y ++ [] = (cc) in
    let more : map note xs ≡ map note ys = (cc) in
    let head = note_apart x y [] [] (All-head IsNote x xs all) (All-head IsNote y ys each) first in
    let tail = same_notes xs ys (All-tail IsNote x xs all) (All-tail IsNote y ys each) more in
    cc (head, tail)

module _ {D : Type 0} {d : disk.Ghosts D} where
  -- ---- one note more

  module _ (old : VoteRecords D d) {bytes : List ℕ} (v : OneNote bytes) (f : List ℕ) (same : f ≡ bytes) where
    abbrev n : ReplicaNote
    n = v.0

    abbrev IsLeftBy : List ℕ → Type 0
    IsLeftBy = IsOldOrNew (records (d.seen old.journal.disk)) f

    module _ (k : ReplicaKept) (h : Holds old k) where
      abbrev next : List ReplicaNote
      next = h.notes ++ n ∷ []

      landed : with_note k n ≡ kept_of next
      landed = ap (λ (x : ReplicaKept). with_note x n) h.is ∙ kept_push h.notes n

      reads : records (d.seen old.journal.disk) ≡ map note h.notes
      reads = ap (λ (r : Read). result_unwrap_or r []) h.keeps.1

      more : (c : List ℕ) → StandsFor (records (d.seen old.journal.disk) ++ f ∷ []) c → KeepsNotes next c
      more c stands = subst (spells next) (sym stands) (comes_as IsNote note h.notes next n _ f v.1.0 (same ∙ v.1.1) refl (h.keeps.0, ap (λ (rs : List (List ℕ)). Ok rs) reads))

      leaves : (c : List ℕ) → IsLeftBy c → KeepsOr spells h.notes next c
      leaves c left = ⊎_elim (λ kept. inl (h.keeps.0, kept ∙ ap (λ (rs : List (List ℕ)). Ok rs) reads)) (λ new. inr (more c new)) left

      module _ (new : VoteRecords D d) where
        pub holds_more : new.journal.state ≡ Ready → StandsFor (records (d.seen old.journal.disk) ++ f ∷ []) (d.seen new.journal.disk) → new.kept ≡ min (old.kept + 1) (2 ^ 64 - 1) → Holds new (with_note k n)
        holds_more ready stands count =
            record { ready = ready; notes = next; is = landed; keeps = more _ stands; count = omega (arith, count, h.count, length-append h.notes (n ∷ [])) }

        pub doubts_more : ((c : List ℕ) → d.image new.journal.disk c → IsLeftBy c) → new.kept ≡ old.kept → Doubts new k (with_note k n)
        doubts_more left count =
            record { notes = h.notes; next = next; is = h.is; with_is = landed; more = length-append h.notes (n ∷ []); images = λ c here. leaves c (left c here); count = count ∙ h.count }

    -- since room was made
    module _ (r : VoteRecords D d) (k : ReplicaKept) (calm : IsCalm r old) (holds : Holds r k) (new : D) where
      pub append_moments : Throughout d.image d.since old.journal.disk new IsLeftBy → (c : List ℕ) → d.since r.journal.disk new c → OnDisk k c ⊎ OnDisk (with_note k n) c
      append_moments all c left =
          let room = calm k holds in
          ⊎_elim (λ before. inl (room.1 c before)) (λ now. either_way k (with_note k n) room.0.notes (next k room.0) c room.0.is (landed k room.0) (leaves k room.0 c now)) (all.before r.journal.disk c left)

      pub append_grown : Throughout d.image d.since old.journal.disk new (Continues (d.image old.journal.disk)) → (c : List ℕ) → d.image new c → Continues (d.image r.journal.disk) c
      append_grown all c here = continues_through (d.image r.journal.disk) (d.image old.journal.disk) (calm k holds).2 c (all.now c here)

  -- ---- which notes a disk holds after a stop

  module _ (r : VoteRecords D d) (k with : ReplicaKept) (u : Doubts r k with) where
    opened : (c : List ℕ) → IsOpened (d.image r.journal.disk) c → KeepsOr spells u.notes u.next c
    opened c o = subst (λ (read : Read). spells u.notes read ⊎ spells u.next read) (sym o.2) (u.images o.0 o.1)

    pub opened_keeps : (c : List ℕ) → IsOpened (d.image r.journal.disk) c → OnDisk k c ⊎ OnDisk with c
    opened_keeps c o = either_way k with u.notes u.next c u.is u.with_is (opened c o)

    pub still_doubts : (new : VoteRecords D d) → new.kept ≡ r.kept → ((c : List ℕ) → d.image new.journal.disk c → IsOpened (d.image r.journal.disk) c) → Doubts new k with
    still_doubts new count left =
        record { notes = u.notes; next = u.next; is = u.is; with_is = u.with_is; more = u.more; images = λ c here. opened c (left c here); count = count ∙ u.count }

    -- none is found damaged
    pub undamaged : (before after : ℕ) (fault : JournalFault) → IsTrue d.tells → IsRefusedAgain is_damaged_at d.tells (d.image r.journal.disk) before after fault → IsUndamaged fault
    undamaged before after (Damaged at) told err =
        let (c, here, damaged) = err told in
        ⊎_elim (λ old. never_damaged IsNote note u.notes (gate_rule c) at old damaged) (λ new. never_damaged IsNote note u.next (gate_rule c) at new damaged) (u.images c here)
    undamaged before after Disk told err = tt
    undamaged before after Memory told err = tt

    -- whether one more was found than were kept tells which they are
    pub tells_landed : (notes : List ReplicaNote) (count : ℕ) → IsLeft spells (d.image r.journal.disk) notes → count ≡ length notes → count ≤ 2 ^ 64 - 1 → kept_of notes ≡ (if not (count == r.kept) then with else k)
    tells_landed notes count left counts fits =
        ⊎_elim
        (λ old.
        let is = same_notes notes u.notes left.2.0 old.0 (cc (left.2.1, old.1)) in
        ap (λ (ns : List ReplicaNote). kept_of ns) is ∙ sym u.is ∙ ap (λ (b : Bool). if not b then with else k) (sym (eq-eqb count r.kept (omega (arith, counts, fits, ap length is, u.count)))))
        (λ new.
        let is = same_notes notes u.next left.2.0 new.0 (cc (left.2.1, new.1)) in
        ap (λ (ns : List ReplicaNote). kept_of ns) is ∙ sym u.with_is ∙ ap (λ (b : Bool). if not b then with else k) (sym (ne_eqb count r.kept (λ e. omega (arith, e, counts, fits, ap length is, u.more, u.count)))))
        (u.images left.0 left.1)
