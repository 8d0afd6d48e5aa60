-- Disks that were read back, and are given back then.
use Rattle.std.proofs.Common.{◌≡◌, ◌≢◌, ◌⊎◌, inl, inr, ⊎_elim, ℕ, ◌≤◌, List, [], ◌∷◌, ◌++◌, map, Bool, true, false, refl, sym, ap, ◌∙◌, subst, arith, IsTrue, filter, if◌then◌else◌, Result, Ok, Err, IfErr, IfOk}
use Rattle.site_run.proofs.Words.{Mem, Each, each_at, each_from, at_name, named_mem, DiskName, RunFault, StorePlace, damaged_by, Lent, Lacks, IsOfOne, MayBeLeft, LentDisk, EachWith, OneWith, AreReadFrom, IsOnlyRead, IsToldBy, AreAmongImages, as_lent, IsOfDisks, AreKeptIn, AreUp}
use Rattle.run_fault.specs.declared.fault.StorePlace.TheVariants as place
use Rattle.run_fault.specs.declared.fault.RunFault.TheVariants as fault
use Rattle.site_run.proofs.Lists.{one_of, one_with, with_one}

module _ {D : Type 0} (tells : Bool) (seen : D → List ℕ) (image : D → List ℕ → Type 0) (since : D → D → List ℕ → Type 0) (faults : D → ℕ) (planned : Bool) (is_down : D → Bool) where
  module _ (olds news : List (LentDisk D)) where
    abbrev Only : LentDisk D → LentDisk D → Type 0
    Only = IsOnlyRead tells seen image since faults planned is_down

    abbrev Told : RunFault → Type 0
    Told f = OneWith (λ old new. IsToldBy tells image faults planned is_down old new f) olds news

    among_old : (o : LentDisk D) → Mem o olds → Mem (as_lent o) (map as_lent olds)
    among_old o among = named_mem as_lent olds o among

    module _ (only : EachWith Only olds news) where
      -- the disk that one was read from, and what one that was read is now
      from_old : (l : Lent D) → Mem l (map as_lent news) → (o : LentDisk D) × (n : LentDisk D) × Mem (as_lent o) (map as_lent olds) × (as_lent n ≡ l) × Only o n
      from_old l among =
          let n = at_name as_lent news l among in
          let o = one_with Only olds news only n.0 n.1 in
          (o.0, n.0, among_old o.0 o.1, n.2, o.2)

      to_new : (l : Lent D) → Mem l (map as_lent olds) → (o : LentDisk D) × (n : LentDisk D) × Mem (as_lent n) (map as_lent news) × (as_lent o ≡ l) × Only o n
      to_new l among =
          let o = at_name as_lent olds l among in
          let n = with_one Only olds news only o.0 o.1 in
          (o.0, n.0, named_mem as_lent news n.0 n.1, o.2, n.2)

      -- what is left of the disks as they were read is what was left of them before
      pub left_read : IsTrue tells → (inside : DiskName → List ℕ → Type 0) (disk : DiskName) (c : List ℕ) → MayBeLeft image inside (map as_lent news) disk c → MayBeLeft image inside (map as_lent olds) disk c
      left_read sure inside disk c may =
          ⊎_elim
          (λ in_it. inl (
            each_from (λ (l : Lent D). l.name ≢ disk) (map as_lent olds)
                (λ l among is. let r = to_new l among in each_at (λ (x : Lent D). x.name ≢ disk) (map as_lent news) in_it.0 (as_lent r.1) r.2 (r.4.named ∙ ap (λ (x : Lent D). x.name) r.3 ∙ is)),
            in_it.1,
          ))
          (λ of. let r = from_old of.one of.among in inr (record { one = as_lent r.0; among = r.2; named = sym r.4.named ∙ ap (λ (x : Lent D). x.name) r.3 ∙ of.named; may = (r.4.moments sure).now c (subst (λ (x : Lent D). image x.disk c) (sym r.3) of.may) }))
          may

      -- a disk that had met a fault has met it still
      pub met_read : (l : Lent D) → Mem l (map as_lent olds) → 1 ≤ faults l.disk → (m : Lent D) × Mem m (map as_lent news) × (1 ≤ faults m.disk)
      met_read l among some =
          let r = to_new l among in
          let here : 1 ≤ faults r.0.disk = subst (λ (x : Lent D). 1 ≤ faults x.disk) (sym r.3) some in
          let count = r.4.count in
          (as_lent r.1, r.2, omega (arith, here, count))

      -- disks that are up meet no fault, and none is told of them
      pub calm_read : IsTrue planned → AreUp is_down (map as_lent olds) → Each (λ (l : Lent D). faults l.disk ≡ 0) (map as_lent olds) → Each (λ (l : Lent D). faults l.disk ≡ 0) (map as_lent news)
      calm_read sure up calm =
          each_from (λ (l : Lent D). faults l.disk ≡ 0) (map as_lent news)
          (λ l among.
          let r = from_old l among in
          subst (λ (x : Lent D). faults x.disk ≡ 0) r.3 (r.4.calm sure (each_at _ (map as_lent olds) up (as_lent r.0) r.2) ∙ each_at (λ (x : Lent D). faults x.disk ≡ 0) (map as_lent olds) calm (as_lent r.0) r.2))

    pub up_read : IsTrue planned → AreUp is_down (map as_lent olds) → (f : RunFault) → Told f → (at : StorePlace) → f ≢ fault.Store at
    up_read sure up f one at is =
        let r = one_of _ olds news one in
        let here = each_at _ (map as_lent olds) up (as_lent r.0) (among_old r.0 r.2) in
        let told = r.4 in
        grind arith

    -- a fault of reading is one of a disk, or of bytes that may be left of one
    pub told_counted : (f : RunFault) (rose : Type 0) → ((l : Lent D) → Mem l (map as_lent news) → 1 ≤ faults l.disk → rose) → Told f → IsOfDisks tells image (map as_lent olds) rose f
    told_counted (fault.Store (place.Disk disk)) rose rises one =
        let r = one_of _ olds news one in
        let risen = r.4.2 in
        ((r.4.1, as_lent r.0, among_old r.0 r.2, r.4.0), rises (as_lent r.1) (named_mem as_lent news r.1 r.3) (omega (arith, risen)))
    told_counted (fault.Damaged disk at) rose rises one = λ sure.
        let r = one_of _ olds news one in
        let x = r.4.1 sure in
        (x.0, record { one = as_lent r.0; among = among_old r.0 r.2; named = r.4.0; may = x.1 }, x.2)
    told_counted fault.Memory rose rises one = tt
    told_counted _ rose rises one = absurd (one_of _ olds news one).4

  -- ---- what was read

  pick_lent : (b : Bool) (x : LentDisk D) (xs : List (LentDisk D)) (ys : List (Lent D)) → ys ≡ map as_lent xs → (if b then as_lent x ∷ ys else ys) ≡ map as_lent (if b then x ∷ xs else xs)
  pick_lent true x xs ys is = ap (λ (l : List (Lent D)). as_lent x ∷ l) is
  pick_lent false x xs ys is = is

  filter_lent : (p : DiskName → Bool) (xs : List (LentDisk D)) → filter (λ (l : Lent D). p l.name) (map as_lent xs) ≡ map as_lent (filter (λ (l : LentDisk D). p l.name) xs)
  filter_lent p [] = refl
  filter_lent p (x ∷ xs) = pick_lent (p x.name) x (filter (λ (l : LentDisk D). p l.name) xs) (filter (λ (l : Lent D). p l.name) (map as_lent xs)) (filter_lent p xs)

  kept_each : {V : Type 0} (keeps : List V → List ℕ → Type 0) (xs : List (LentDisk D)) (lists : List (List V)) → EachWith (λ (d : LentDisk D) items. IsTrue tells → keeps items (seen d.disk)) xs lists
      → Each (λ (d : LentDisk D). IsTrue tells → image d.disk (seen d.disk)) xs → AreKeptIn tells image keeps (map as_lent xs) lists
  kept_each keeps [] [] read among = tt
  kept_each keeps [] (l ∷ lists) read among = absurd read
  kept_each keeps (x ∷ xs) [] read among = absurd read
  kept_each keeps (x ∷ xs) (l ∷ lists) read among = (λ sure. (seen x.disk, among.0 sure, read.0 sure), kept_each keeps xs lists read.1 among.1)

  -- what the disks of some names are read as is kept in an image of each
  pub kept_in : {V : Type 0} (keeps : List V → List ℕ → Type 0) (p : DiskName → Bool) (xs : List (LentDisk D)) (lists : List (List V)) → AreReadFrom tells seen keeps (filter (λ (l : LentDisk D). p l.name) xs) lists
      → AreAmongImages tells seen image (filter (λ (l : LentDisk D). p l.name) xs) → AreKeptIn tells image keeps (filter (λ (l : Lent D). p l.name) (map as_lent xs)) lists
  kept_in {V} keeps p xs lists read among =
      subst (λ (l : List (Lent D)). AreKeptIn tells image keeps l lists) (sym (filter_lent p xs)) (kept_each keeps (filter (λ (l : LentDisk D). p l.name) xs) lists read among)

pub ok_three : {T E : Type 0} (A B C Q : T → Type 0) (r : Result T E) → IfOk r A → IfOk r B → IfOk r C → ((x : T) → A x → B x → C x → Q x) → IfOk r Q
ok_three A B C Q (Ok x) a b c q = q x a b c
ok_three A B C Q (Err e) a b c q = tt

pub err_cases : {T E : Type 0} (A B P : E → Type 0) (r : Result T E) → IfErr r (λ e. A e ⊎ B e) → ((e : E) → A e → P e) → ((e : E) → B e → P e) → IfErr r P
err_cases A B P (Ok x) one a b = tt
err_cases A B P (Err e) one a b = ⊎_elim (a e) (b e) one

-- ---- the topology's disk in front of the others

pub in_front : {D : Type 0} (before items : List (LentDisk D)) (t : LentDisk D) (others : List (Lent D)) → before ≡ [] → items ≡ before ++ t ∷ [] → map as_lent items ++ others ≡ as_lent t ∷ others
in_front {D} before items t others none is = ap (λ (l : List (LentDisk D)). map as_lent l ++ others) (is ∙ ap (λ (l : List (LentDisk D)). l ++ t ∷ []) none)
