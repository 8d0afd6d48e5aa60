-- Disks that are out, while they go on and once they are given back.
use Rattle.std.proofs.Common.{◌≡◌, inl, inr, ⊎_elim, ℕ, List, ◌∷◌, sym, ◌∙◌, subst, ◌≢◌}
use Rattle.site_run.proofs.Words.{IsPermutation, All-permutation, IsPermutation-cons, IsPermutation-sym, All-from_recursion, recursion_from_All, Each, Mem, each_at, each_from, DiskName, Within, Continues, Lent, Lacks, MayBeLeft, GoesOn, HaveGoneOn, Images, AreOut, goes_same, goes_through}
use Rattle.site_run.proofs.Lists.{one_with, with_one}
pub use Rattle.site_store.proofs.Stays.{goes_through as goes_on_through, stays_grows as stays_goes_on}

pub goes_on_within : (old new : List ℕ → Type 0) → Within old new → GoesOn old new
goes_on_within old new within c here = goes_same old c (within c here)

-- ---- lists in another order

pub each_moved : {A : Type 0} (P : A → Type 0) (xs ys : List A) → IsPermutation xs ys → Each P xs → Each P ys
each_moved P xs ys moved all = recursion_from_All P ys (All-permutation P xs ys moved (All-from_recursion P xs all))

pub mem_moved : {A : Type 0} (x : A) (xs ys : List A) → IsPermutation xs ys → Mem x ys → Mem x xs
mem_moved x xs ys moved among = each_at (λ y. Mem y xs) ys (each_moved (λ y. Mem y xs) xs ys moved (each_from (λ y. Mem y xs) xs (λ y m. m))) x among

-- ---- disks that are out

module _ {D : Type 0} (left : D → List ℕ → Type 0) where
  pub moved_out : (before inside : Images) (s t : Lent D) (xs ys : List (Lent D)) → s ≡ t → IsPermutation xs ys → AreOut left before inside s xs → AreOut left before inside t ys
  moved_out before inside s t xs ys same moved out = subst (λ (x : Lent D). AreOut left before inside x ys) same (record {
    grown = out.grown;
    went = each_moved (λ (l : Lent D). GoesOn (before l.name) (left l.disk)) xs ys moved out.went;
    in_store = λ disk lacks. out.in_store disk (lacks.0, each_moved (λ (l : Lent D). l.name ≢ disk) ys xs (IsPermutation-sym xs ys moved) lacks.1);
  })

  -- what whatever is left once all are given back goes on from
  pub given_goes_on : (before inside : Images) (topology : Lent D) (others : List (Lent D)) → AreOut left before inside topology others
      → (disk : DiskName) (c : List ℕ) → MayBeLeft left inside (topology ∷ others) disk c → Continues (before disk) c
  given_goes_on before inside topology others out disk c may =
      ⊎_elim
      (λ in_it. goes_on_within (before disk) (inside disk) (out.in_store disk in_it.0) c in_it.1)
      (λ of. subst (λ n. Continues (before n) c) of.named (each_at (λ (l : Lent D). GoesOn (before l.name) (left l.disk)) (topology ∷ others) (out.grown, out.went) of.one of.among c of.may))
      may

  -- disks that have gone on are out still
  pub gone_out : (before inside : Images) (topology : Lent D) (olds news : List (Lent D)) → HaveGoneOn left olds news → AreOut left before inside topology olds → AreOut left before inside topology news
  gone_out before inside topology olds news gone out = record {
    grown = out.grown;
    went = each_from (λ (l : Lent D). GoesOn (before l.name) (left l.disk)) news
        (λ l among.
        let o = one_with _ olds news gone l among in
        subst (λ (m : DiskName). GoesOn (before m) (left l.disk)) (sym o.2.named) (goes_through (before o.0.name) (left o.0.disk) (left l.disk) (each_at (λ (x : Lent D). GoesOn (before x.name) (left x.disk)) olds out.went o.0 o.1) o.2.grown));
    in_store = λ disk lacks. out.in_store disk (
      lacks.0,
      each_from (λ (l : Lent D). l.name ≢ disk) olds (λ l among is. let n = with_one _ olds news gone l among in each_at (λ (x : Lent D). x.name ≢ disk) news lacks.1 n.0 n.1 (n.2.named ∙ is)),
    );
  }

  -- the same disks in another order
  pub may_moved : (inside : Images) (xs ys : List (Lent D)) → IsPermutation xs ys → (disk : DiskName) (c : List ℕ) → MayBeLeft left inside ys disk c → MayBeLeft left inside xs disk c
  may_moved inside xs ys moved disk c may =
      ⊎_elim
      (λ in_it. inl (each_moved (λ (l : Lent D). l.name ≢ disk) ys xs (IsPermutation-sym xs ys moved) in_it.0, in_it.1))
      (λ of. inr (record { one = of.one; among = mem_moved of.one xs ys moved of.among; named = of.named; may = of.may }))
      may

  pub may_behind : (inside : Images) (s t : Lent D) (xs ys : List (Lent D)) → s ≡ t → IsPermutation xs ys → (disk : DiskName) (c : List ℕ) → MayBeLeft left inside (t ∷ ys) disk c → MayBeLeft left inside (s ∷ xs) disk c
  may_behind inside s t xs ys same moved = may_moved inside (s ∷ xs) (t ∷ ys) (subst (λ (x : Lent D). IsPermutation (s ∷ xs) (x ∷ ys)) same (IsPermutation-cons s xs ys moved))
