-- What disks are read as, one more at a time.
use Rattle.std.proofs.Common.{◌≡◌, ◌<◌, ℕ, ◌+◌, List, [], ◌∷◌, ◌++◌, length, take, get_or, Bool, IsTrue, sym, ◌∙◌, ap, subst, arith}
use Rattle.site_store.proofs.Words.{filter, take_more, filter-append, each_append, KeepsPairs, KeepsNotes, LentDisk, ReadAs, replicas, outputs, notes_in, pairs_in, AreReadFrom, AreAmongImages, IsReadAs, IsAnImage, IsOnlyRead}
use Rattle.site_store.proofs.Walking.{each_with_append}

-- a disk that nothing was done to
pub untouched : {D : Type 0} (tells : Bool) (seen : D → List ℕ) (image : D → List ℕ → Type 0) (since : D → D → List ℕ → Type 0) (faults : D → ℕ) (planned : Bool) (is_down : D → Bool)
    → ((disk : D) (c : List ℕ) → IsTrue tells → since disk disk c → image disk c) → (lent : LentDisk D) → IsOnlyRead tells seen image since faults planned is_down lent lent
untouched tells seen image since faults planned is_down starts lent = grind arith

-- one element more, of those that a test picks
filter_more : {A : Type 0} (p : A → Bool) (xs : List A) (i : ℕ) (d : A) → i < length xs → filter p (take i xs) ++ filter p (get_or xs i d ∷ []) ≡ filter p (take (i + 1) xs)
filter_more p xs i d lt = sym (filter-append p (take i xs) (get_or xs i d ∷ [])) ∙ ap (filter p) (sym (take_more xs i d lt))

module _ {D : Type 0} (tells : Bool) (seen : D → List ℕ) where
  -- what one disk is read as, as lists of lists
  pub of_one : (d : LentDisk D) (read : ReadAs) → IsReadAs tells seen d read → AreReadFrom tells seen KeepsNotes (replicas (d ∷ [])) (notes_in read) × AreReadFrom tells seen KeepsPairs (outputs (d ∷ [])) (pairs_in read)
  of_one d read is = grind arith

  -- one disk more
  pub read_more : {V : Type 0} (keeps : List V → List ℕ → Type 0) (p : LentDisk D → Bool) (disks : List (LentDisk D)) (i : ℕ) (d : LentDisk D) (lists extra now : List (List V)) → i < length disks
      → AreReadFrom tells seen keeps (filter p (take i disks)) lists → AreReadFrom tells seen keeps (filter p (get_or disks i d ∷ [])) extra → now ≡ lists ++ extra
      → AreReadFrom tells seen keeps (filter p (take (i + 1) disks)) now
  read_more {V} keeps p disks i d lists extra now lt so one is =
      subst (λ (xs : List (LentDisk D)). AreReadFrom tells seen keeps xs now) (filter_more p disks i d lt)
      (subst (AreReadFrom tells seen keeps (filter p (take i disks) ++ filter p (get_or disks i d ∷ []))) (sym is)
      (each_with_append (λ (x : LentDisk D) (items : List V). IsTrue tells → keeps items (seen x.disk)) (filter p (take i disks)) (filter p (get_or disks i d ∷ [])) lists extra so one))

  -- what one disk is read from
  pub image_of_one : (image : D → List ℕ → Type 0) (d : LentDisk D) (read : ReadAs) → IsReadAs tells seen d read → IsAnImage tells seen image d read
      → AreAmongImages tells seen image (replicas (d ∷ [])) × AreAmongImages tells seen image (outputs (d ∷ []))
  image_of_one image d read is left = grind arith

  -- one disk more
  pub left_more : (image : D → List ℕ → Type 0) (p : LentDisk D → Bool) (disks : List (LentDisk D)) (i : ℕ) (d : LentDisk D) → i < length disks → AreAmongImages tells seen image (filter p (take i disks))
      → AreAmongImages tells seen image (filter p (get_or disks i d ∷ [])) → AreAmongImages tells seen image (filter p (take (i + 1) disks))
  left_more image p disks i d lt so one = grind (arith, filter_more, each_append)
