-- What a joiner's disks may hold, whatever a stop leaves of them.
use Rattle.std.proofs.Common.{◌⊎◌, inl, inr, ⊎_elim, ℕ, List, refl, sym, ◌∙◌, subst}
use Rattle.joiner_node.specs.Terms.{Throughout, JoinerKept, Numbered, JoinerNote}
use Rattle.outside.specs.declared.disk.Disk as disk
use Rattle.gate_journal.proofs.Growth.{continues_same}
use Rattle.joiner_core.specs.declared.turn.JoinerNote.TheVariants as notes
use Rattle.joiner_node.specs.Disks.{Contents, Doubts, EpochOr, HasGrown, Holds, IsCalm, OnDisks, PairsOr, image, since, with_note}
use Rattle.joiner_node.specs.declared.disks.Disks.{Disks}

-- a note is on one disk alone, so both disks have what they had, or both have that with the note
pub on_either : (n : JoinerNote) (k : Numbered JoinerKept) (c : Contents) → EpochOr k.disk (with_note n k).disk c.0 → PairsOr k.disk (with_note n k).disk c.1 → OnDisks k c ⊎ OnDisks (with_note n k) c
on_either (notes.Epoch x) k c e p = let same = ⊎_elim (λ h. h) (λ h. h) p in ⊎_elim (λ old. inl (old, same)) (λ new. inr (new, same)) e
on_either (notes.Pair q) k c e p = let same = ⊎_elim (λ h. h) (λ h. h) e in ⊎_elim (λ old. inl (same, old)) (λ new. inr (same, new)) p

still : {D : Type 0} (image : D → List ℕ → Type 0) (since : D → D → List ℕ → Type 0) (disk : D) → ((c : List ℕ) → since disk disk c → image disk c) → Throughout image since disk disk (image disk)
still image since disk starts = record { each = starts; now = λ c here. here; before = λ s c left. inl left }

module _ {D : Type 0} {d : disk.Ghosts D} where
  pub held_images : (r : Disks D d) (k : Numbered JoinerKept) → Holds r k → (c : Contents) → image r c → OnDisks k c
  held_images r k h c here = (h.epochs c.0 here.0, h.pairs c.1 here.1)

  pub doubt_images : (r : Disks D d) (k with : Numbered JoinerKept) → Doubts r k with → (c : Contents) → image r c → OnDisks k c ⊎ OnDisks with c
  doubt_images r k with h c here = subst (λ (x : Numbered JoinerKept). OnDisks k c ⊎ OnDisks x c) (sym h.with_is) (on_either h.note k c (h.epochs c.0 here.0) (h.pairs c.1 here.1))

  -- where no call is made
  pub calm_still : (r : Disks D d) → ((x : D) (c : List ℕ) → d.since x x c → d.image x c) → IsCalm r r
  calm_still r starts = record { same = record { epoch = refl; written = refl; states = (refl, refl) }; epochs = still d.image d.since _ (starts _); pairs = still d.image d.since _ (starts _) }

  -- room changes nothing of what is kept
  pub calm_stays : (old new : Disks D d) (k : Numbered JoinerKept) → IsCalm old new → Holds old k → Holds new k × ((c : Contents) → since old new c → OnDisks k c) × HasGrown old new
  calm_stays old new k calm h = (
    record {
      reached = record { epoch = calm.same.epoch ∙ h.reached.epoch; written = calm.same.written ∙ h.reached.written };
      epochs = λ c here. h.epochs c (calm.epochs.now c here);
      pairs = λ c here. h.pairs c (calm.pairs.now c here);
    },
    λ c left. (h.epochs c.0 (calm.epochs.each c.0 left.0), h.pairs c.1 (calm.pairs.each c.1 left.1)),
    (λ c here. continues_same _ c (calm.epochs.now c here), λ c here. continues_same _ c (calm.pairs.now c here)),
  )
