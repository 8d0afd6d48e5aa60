-- The first disk that isn't opened.
use Rattle.std.proofs.Common.{◌≡◌, ◌<◌, ℕ, zero, suc, List, [], ◌∷◌, ◌++◌, length, take, get_or, refl, sym, ◌∙◌, ap, arith, Bool, IsTrue}
use Rattle.site_store.proofs.Words.{DiskName, WereJournals, IsFirst}

-- the names up to a place, and behind it
cut_at : (names : List DiskName) (i : ℕ) (d : DiskName) → i < length names → (rest : List DiskName) × (names ≡ take i names ++ get_or names i d ∷ rest)
cut_at [] i d lt = absurd (omega (arith, lt))
cut_at (x ∷ xs) zero d lt = (xs, refl)
cut_at (x ∷ xs) (suc i) d lt = grind (arith, cut_at xs i d)

-- the disk at a place isn't opened, and those in front of it are
pub first_at : (tells : Bool) (before : DiskName → List ℕ → Type 0) (names all : List DiskName) (i : ℕ) (d disk : DiskName) → names ≡ all → i < length names → (IsTrue tells → WereJournals before (take i names)) → disk ≡ get_or names i d
    → IsFirst tells before all disk
first_at tells before names all i d disk named lt opened is =
    let cut = cut_at names i d lt in
    record { front = take i names; rest = cut.0; order = sym named ∙ cut.1 ∙ ap (λ n. take i names ++ n ∷ cut.0) (sym is); opened = opened }
