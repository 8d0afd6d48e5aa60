-- The topology's disk, which is taken first, and the others behind it.
use Rattle.std.proofs.Common.{◌≢◌, inl, inr, ℕ, List, ◌∷◌, Bool, IsTrue, sym, subst, arith}
use Rattle.site_store.proofs.Words.{Each, DiskName, Within, IsOpened, StaysAs, Lacks, OpenView, IsKept, IsKeptIn, IsJournalOf, kept_by, lent_by, lent_all, WereJournals, IsFirst}
use Rattle.site_store.proofs.Lending.{each_front, each_back, each_two, each_unmap, same_or_not}

-- each other disk leaves nothing new
module _ (before mid : DiskName → List ℕ → Type 0) (name : DiskName) (others : (other : DiskName) → other ≢ name → Within (before other) (mid other)) where
  -- what others kept then they kept at first
  pub kept_before : {D : Type 0} (all : List (OpenView D)) → Lacks (lent_all all) name → Each (λ o. IsKept mid (kept_by o)) all → Each (λ o. IsKept before (kept_by o)) all
  kept_before {D} all away kept = each_two (λ (o : OpenView D). o.name ≢ name) (λ o. IsKept mid (kept_by o)) (λ o. IsKept before (kept_by o)) all (λ o not x. (x.0, others o.name not x.0 x.1, x.2)) (each_unmap _ lent_by all away) kept

  -- all were given back, and this disk too
  pub back_again : (inside after : DiskName → List ℕ → Type 0) (left : List ℕ → Type 0) → StaysAs (before name) left → ((n : DiskName) → StaysAs (mid n) (inside n)) → Within left (after name)
      → ((other : DiskName) → other ≢ name → Within (inside other) (after other)) → (n : DiskName) → StaysAs (before n) (after n)
  back_again inside after left stays back give stay n c now = elim (same_or_not n name) [
    | inl same ↦ subst (λ (m : DiskName). IsOpened (before m) c) (sym same) (stays c (give c (subst (λ (m : DiskName). after m c) same now)))
    | inr not ↦ let from = back n c (stay n not c now) in (from.0, others n not from.0 from.1, from.2)
  ]

  journals_before : (names : List DiskName) → Each (λ n. n ≢ name) names → WereJournals mid names → WereJournals before names
  journals_before names = each_two (λ n. n ≢ name) (λ n. IsKeptIn (mid n) (IsJournalOf n)) (λ n. IsKeptIn (before n) (IsJournalOf n)) names (λ n not x. (x.0, others n not x.0 x.1, x.2))

-- none of these is the disk of this name
pub first_other : (tells : Bool) (image : DiskName → List ℕ → Type 0) (name : DiskName) (names : List DiskName) (n : DiskName) → Each (λ m. m ≢ name) names → IsFirst tells image names n → n ≢ name
first_other tells image name names n away first = (each_back (λ (m : DiskName). m ≢ name) first.front (n ∷ first.rest) (subst (Each (λ (m : DiskName). m ≢ name)) first.order away)).0

module _ (tells : Bool) (before mid : DiskName → List ℕ → Type 0) (name : DiskName) (others : IsTrue tells → (other : DiskName) → other ≢ name → Within (before other) (mid other)) where
  -- the first that wasn't opened, in front of which all were journals at first
  pub first_before : (names : List DiskName) (n : DiskName) → Each (λ n. n ≢ name) names → IsFirst tells mid names n → IsFirst tells before names n
  first_before names n away first = grind (arith, journals_before, each_front)
