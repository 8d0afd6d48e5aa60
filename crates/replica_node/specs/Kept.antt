-- What a replica's journal holds beside the notes that it keeps, and what a stop may leave of it.
use Rattle.std.proofs.Common.{◌≡◌, ◌⊎◌, inl, inr, ⊎_elim, ℕ, ◌+◌, ◌-◌, ◌^◌, min, List, [], ◌∷◌, length, Ok, refl, sym, ap, ◌∙◌, subst, IsTrue, map, Bool, true, false}
use Rattle.replica_node.specs.Terms.{Accepted, Continues, KeepsNotes, KeepsOr, OnDisk, Promised, Ready, ReplicaKept, ReplicaNote, Throughout, kept_of, note, note_view, records_of, vote_record, continues_same}
use Rattle.gate_journal.specs.declared.journal.JournalState.{JournalState}
use Rattle.outside.specs.declared.disk.Disk as disk
use Rattle.output_log.specs.Votes.{spells}
use Rattle.replica_node.specs.declared.vote_records.VoteRecords.{VoteRecords}

pub view_record : (n : ReplicaNote) → vote_record (note_view n) ≡ note n
view_record (Promised s l b) = refl
view_record (Accepted s l b v) = refl

views_record : (notes : List ReplicaNote) → map note notes ≡ records_of (kept_of notes)
views_record [] = refl
views_record (n ∷ notes) = ap (λ (b : List ℕ). b ∷ map note notes) (sym (view_record n)) ∙ ap (λ (bs : List (List ℕ)). vote_record (note_view n) ∷ bs) (views_record notes)

on_disk : (k : ReplicaKept) (notes : List ReplicaNote) (c : List ℕ) → k ≡ kept_of notes → KeepsNotes notes c → OnDisk k c
on_disk k notes c is keeps = subst (λ (x : ReplicaKept). OnDisk x c) (sym is) (keeps.1 ∙ ap (λ (rs : List (List ℕ)). Ok rs) (views_record notes))

pub either_way : (k with : ReplicaKept) (notes next : List ReplicaNote) (c : List ℕ) → k ≡ kept_of notes → with ≡ kept_of next → KeepsOr spells notes next c → OnDisk k c ⊎ OnDisk with c
either_way k with notes next c is with_is left = ⊎_elim (λ old. inl (on_disk k notes c is old)) (λ new. inr (on_disk with next c with_is new)) left

abbrev pub is_ready : JournalState → Bool
is_ready Ready = true
is_ready _ = false

-- how many notes there are, as far as a word of 64 bits counts
abbrev pub counted : List ReplicaNote → ℕ
counted notes = min (length notes) (2 ^ 64 - 1)

module _ {D : Type 0} {d : disk.Ghosts D} where
  -- the disk reads as the kept notes
  pub record Holds (r : VoteRecords D d) (k : ReplicaKept) : Type 0 where
    pub ready : r.journal.state ≡ Ready
    pub notes : List ReplicaNote
    pub is : k ≡ kept_of notes
    pub keeps : KeepsNotes notes (d.seen r.journal.disk)
    pub count : r.kept ≡ counted notes

  -- each image holds the kept notes, or those with one more
  pub record Doubts (r : VoteRecords D d) (k with : ReplicaKept) : Type 0 where
    pub notes : List ReplicaNote
    pub next : List ReplicaNote
    pub is : k ≡ kept_of notes
    pub with_is : with ≡ kept_of next
    pub more : length next ≡ length notes + 1
    pub images : (c : List ℕ) → d.image r.journal.disk c → KeepsOr spells notes next c
    pub count : r.kept ≡ counted notes

  -- what was kept is kept, whatever a stop left since
  abbrev pub IsCalm : (old new : VoteRecords D d) → Type 0
  IsCalm old new = (k : ReplicaKept) → Holds old k
      → Holds new k × ((c : List ℕ) → d.since old.journal.disk new.journal.disk c → OnDisk k c) × ((c : List ℕ) → d.image new.journal.disk c → Continues (d.image old.journal.disk) c)

  pub held_images : (r : VoteRecords D d) (k : ReplicaKept) → IsTrue d.tells → Holds r k → (c : List ℕ) → d.image r.journal.disk c → OnDisk k c
  held_images r k tells h c here = on_disk k h.notes c h.is (subst (KeepsNotes h.notes) (sym ((r.journal.settled tells h.ready).durable c here)) h.keeps)

  pub doubted_images : (r : VoteRecords D d) (k with : ReplicaKept) → Doubts r k with → (c : List ℕ) → d.image r.journal.disk c → OnDisk k c ⊎ OnDisk with c
  doubted_images r k with u c here = either_way k with u.notes u.next c u.is u.with_is (u.images c here)

  -- where the disk reads as before, and each image is an old one
  pub same_calm : (old new : VoteRecords D d) → IsTrue d.tells → new.kept ≡ old.kept → new.journal.state ≡ old.journal.state → d.seen new.journal.disk ≡ d.seen old.journal.disk
      → Throughout d.image d.since old.journal.disk new.journal.disk (d.image old.journal.disk) → IsCalm old new
  same_calm old new tells count state seen all k h = (
    record { ready = state ∙ h.ready; notes = h.notes; is = h.is; keeps = subst (KeepsNotes h.notes) (sym seen) h.keeps; count = count ∙ h.count },
    λ c left. held_images old k tells h c (all.each c left),
    λ c here. continues_same (d.image old.journal.disk) c (all.now c here),
  )

  -- where nothing is called
  pub still_calm : (r : VoteRecords D d) → IsTrue d.tells → ((c : List ℕ) → d.since r.journal.disk r.journal.disk c → d.image r.journal.disk c) → IsCalm r r
  still_calm r tells starts = same_calm r r tells refl refl refl (record { each = starts; now = λ c here. here; before = λ s c left. inl left })
