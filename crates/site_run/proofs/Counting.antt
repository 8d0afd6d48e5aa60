-- Counts of faults that have risen, and elements of lists that are emptied from their ends.
use Rattle.std.proofs.Common.{◌≡◌, ◌⊎◌, inl, inr, ⊎_elim, ℕ, ◌≤◌, List, [], ◌∷◌, ◌++◌, subst, arith}
use Rattle.site_run.proofs.Words.{Mem, mem_split, Rose, added}

pub rose_added : (old now more : ℕ) → old ≤ now → 1 ≤ more → Rose old (added now more)
rose_added old now more le some = omega (arith, le, some)

pub rose_later : (old now new : ℕ) → Rose old now → now ≤ new → Rose old new
rose_later old now new rose le = omega (arith, rose, le)

pub rose_before : (old now new : ℕ) → old ≤ now → Rose now new → Rose old new
rose_before old now new le rose = omega (arith, le, rose)

pub added_grows : (count more : ℕ) → count ≤ added count more
added_grows count more = omega arith

-- an element of a list is in its front, or is its last
pub front_or_last : {A : Type 0} (x : A) (all rest : List A) (one : A) → all ≡ rest ++ one ∷ [] → Mem x all → Mem x rest ⊎ (one ≡ x)
front_or_last x all rest one cut among =
    ⊎_elim (λ m. inl m) (λ m. inr (⊎_elim (λ is. is) (λ no_more. absurd no_more) m)) (mem_split x rest (one ∷ []) (subst (Mem x) cut among))

pub some_rose : (old new : ℕ) → Rose old new → 1 ≤ new
some_rose old new rose = omega (arith, rose)
