-- The first place that doesn't fit, of lists put together.
use Rattle.std.proofs.Common.{zero, suc, ◌≤◌, ◌≡◌, ◌≢◌, inl, inr, ⊎_elim, ℕ, ◌+◌, ◌==◌, true, false, ◌<◌, List, [], ◌∷◌, ◌++◌, length, take, drop, get_or, map, Option, Some, refl, sym, ap, subst, ◌∙◌, append_assoc, arith}
use Rattle.site_store.proofs.Words.{eqb-true, eq-eqb, or_cases, or_left, or_right, map-append, drop_more, take-append-drop, Each, Mem, has, clash, each_append, DiskName, Offset, Retry, ClickLine, Setting, AreKeptPlaces, IsFloorOf, Disks, Kept, OffsetIs, PendingAre, KeptDisk, OpenView, kept_all, Says, AreRecordsOf, FitsOn, KeptPlace, Fits, IsStart, on_disk, places_at, all_kept, IsTold, Misplaced}
use Rattle.site_store.specs.Kept.{IsFirst}
use Rattle.site_store.proofs.Lending.{each_back, each_front, each_mem}
use Rattle.site_store.proofs.Values.{at_name}

-- what has P isn't above its floor
pub floor_misfit : (P : ℕ → Type 0) (kept floor : ℕ) → IsFloorOf P kept floor → floor ≢ kept → P kept → ⊥
floor_misfit P kept floor f other is = f.none kept (let below = f.below in omega arith) (omega arith) is

module _ (ls : List ClickLine) where
  pub first_alone : (disk : DiskName) (kept floor : ℕ) → (FitsOn ls disk kept → ⊥) → IsFloorOf (FitsOn ls disk) kept floor → IsFirst ls (on_disk disk (kept ∷ [])) (record { disk = disk; kept = kept; floor = floor })
  first_alone disk kept floor misfit is = record { before = []; after = []; order = refl; fit = tt; misfit = misfit; floor_is = is }

  pub first_later : (xs ys : List KeptPlace) (m : Misplaced) → Each (Fits ls) xs → IsFirst ls ys m → IsFirst ls (xs ++ ys) m
  first_later xs ys m fit h = grind (arith, append_assoc, each_append)

  pub first_longer : (xs ys : List KeptPlace) (m : Misplaced) → IsFirst ls xs m → IsFirst ls (xs ++ ys) m
  first_longer xs ys m h = grind (arith, append_assoc)

  pub told_later : (xs ys : List KeptPlace) (told : Option Misplaced) → Each (Fits ls) xs → IsTold ls ys told → IsTold ls (xs ++ ys) told
  told_later xs ys told fit h = grind (arith, each_append, first_later)

  -- nothing is told where all fit
  pub none_told : (xs : List KeptPlace) (told : Option Misplaced) → ((m : Misplaced) → told ≡ Some m → ⊥) → IsTold ls xs told → Each (Fits ls) xs
  none_told xs told apart h = grind arith

  pub first_here : (disk : DiskName) (ps : List ℕ) (i : ℕ) (m : Misplaced) → i < length ps → Each (Fits ls) (on_disk disk (take i ps)) → IsFirst ls (on_disk disk (get_or ps i 0 ∷ [])) m → IsFirst ls (on_disk disk ps) m
  first_here disk ps i m lt before this =
      let all : ps ≡ take i ps ++ ((get_or ps i 0 ∷ []) ++ drop (i + 1) ps) = sym (take-append-drop i ps) ∙ ap (λ (qs : List ℕ). take i ps ++ qs) (drop_more ps i 0 lt) in
      let is = ap (on_disk disk) all ∙ map-append _ (take i ps) _ in
      subst (λ (places : List KeptPlace). IsFirst ls places m) (sym is)
      (first_later (on_disk disk (take i ps)) _ m before (first_longer (on_disk disk (get_or ps i 0 ∷ [])) (on_disk disk (drop (i + 1) ps)) m this))

-- ---- those of several disks

-- what is told isn't kept where all fit
pub first_clash : (ls : List ClickLine) (xs : List KeptPlace) (m : Misplaced) → IsFirst ls xs m → Each (Fits ls) xs → ⊥
first_clash ls xs m h all = grind (arith, each_back)

-- the places of a disk among these fit where all do
pub fit_at : (ls : List ClickLine) (disks : List KeptDisk) (d : KeptDisk) → Each (Fits ls) (all_kept disks) → Mem d disks → Each (Fits ls) (places_at d.name d.kept)
fit_at ls [] d all m = absurd m
fit_at ls (o ∷ os) d all h = grind (arith, each_front, each_back, fit_at ls os d)

-- all fit where those of each disk do
pub all_fit : (ls : List ClickLine) (disks : List KeptDisk) → ((d : KeptDisk) → Mem d disks → Each (Fits ls) (places_at d.name d.kept)) → Each (Fits ls) (all_kept disks)
all_fit ls [] each = tt
all_fit ls (d ∷ ds) each = each_append (Fits ls) (places_at d.name d.kept) (all_kept ds) (each d (inl refl)) (all_fit ls ds (λ o m. each o (inr m)))

-- of open disks, one more
module _ {D : Type 0} (ls : List ClickLine) (disks : List (OpenView D)) (i : ℕ) (d or : OpenView D) (is : d ≡ get_or disks i or) (lt : i < length disks) where
  cut : all_kept (kept_all (drop i disks)) ≡ places_at d.name d.kept ++ all_kept (kept_all (drop (i + 1) disks))
  cut = ap (λ (os : List (OpenView D)). all_kept (kept_all os)) (drop_more disks i or lt) ∙ ap (λ (o : OpenView D). places_at o.name o.kept ++ all_kept (kept_all (drop (i + 1) disks))) (sym is)

  pub next_told : (told : Option Misplaced) → Each (Fits ls) (places_at d.name d.kept) → IsTold ls (all_kept (kept_all (drop (i + 1) disks))) told → IsTold ls (all_kept (kept_all (drop i disks))) told
  next_told told fit h = subst (λ (places : List KeptPlace). IsTold ls places told) (sym cut) (told_later ls (places_at d.name d.kept) _ told fit h)

  pub here_told : (m : Misplaced) → IsFirst ls (places_at d.name d.kept) m → IsFirst ls (all_kept (kept_all (drop i disks))) m
  here_told m h = subst (λ (places : List KeptPlace). IsFirst ls places m) (sym cut) (first_longer ls (places_at d.name d.kept) _ m h)

pub none_left : {D : Type 0} (ls : List ClickLine) (disks : List (OpenView D)) (i : ℕ) → length disks ≤ i → Each (Fits ls) (all_kept (kept_all (drop i disks)))
none_left ls [] zero le = tt
none_left ls [] (suc i) le = tt
none_left ls (d ∷ ds) zero le = absurd (omega (arith, le))
none_left ls (d ∷ ds) (suc i) le = none_left ls ds i (omega (arith, le))

module _ (ls : List ClickLine) (site : ℕ) where
  starts_of : (ps : List ℕ) → Each (Fits ls) (on_disk (Retry site) ps) → (p : ℕ) → has ps p ≡ true → IsStart ls p
  starts_of [] h p e = clash false e refl
  starts_of (q ∷ ps) h p e = ⊎_elim (λ here. subst (IsStart ls) (eqb-true q p here) h.0) (λ later. starts_of ps h.1 p later) (or_cases (q == p) (has ps p) e)

  pub of_starts : (ps : List ℕ) → ((p : ℕ) → has ps p ≡ true → IsStart ls p) → Each (Fits ls) (on_disk (Retry site) ps)
  of_starts [] h = tt
  of_starts (q ∷ ps) h = (h q (or_left (q == q) (has ps q) (eq-eqb q q refl)), of_starts ps (λ p e. h p (or_right (q == p) (has ps p) e)))

-- then those of a site's dispatcher do
pub site_fits : (g : Setting) (disks : List KeptDisk) (d : Disks) (s : ℕ) → AreRecordsOf g disks d → Each (Fits g.clicks) (all_kept disks) → Mem (Offset s) (map (λ o. o.name) disks) → Mem (Retry s) (map (λ o. o.name) disks)
    → AreKeptPlaces g (d.dispatchers s)
site_fits g disks d s says all here there =
    let o = at_name (λ (d : KeptDisk). d.name) disks (Offset s) here in
    let r = at_name (λ (d : KeptDisk). d.name) disks (Retry s) there in
    let offset : o.0.kept ≡ OffsetIs (d.dispatchers s).offset = subst (λ (n : DiskName). Says g d n o.0.kept) o.2 (each_mem (λ (x : KeptDisk). Says g d x.name x.kept) o.0 disks says o.1) in
    let pending : r.0.kept ≡ PendingAre (d.dispatchers s).pending = subst (λ (n : DiskName). Says g d n r.0.kept) r.2 (each_mem (λ (x : KeptDisk). Says g d x.name x.kept) r.0 disks says r.1) in
    let one = subst (λ (n : DiskName). Each (Fits g.clicks) (places_at n o.0.kept)) o.2 (fit_at g.clicks disks o.0 all o.1) in
    let two = subst (λ (n : DiskName). Each (Fits g.clicks) (places_at n r.0.kept)) r.2 (fit_at g.clicks disks r.0 all r.1) in
    record {
      offset = (subst (λ (k : Kept). Each (Fits g.clicks) (places_at (Offset s) k)) offset one).0;
      pending = starts_of g.clicks s (d.dispatchers s).pending (subst (λ (k : Kept). Each (Fits g.clicks) (places_at (Retry s) k)) pending two);
    }
