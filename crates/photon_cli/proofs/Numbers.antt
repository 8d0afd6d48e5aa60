-- Disks of a kind, by their numbers.
use Rattle.std.proofs.Common.{◌≡◌, ℕ, ◌+◌, List, [], ◌∷◌, ◌++◌, Bool, false, ◌&&◌, nat_lt, if◌then◌else◌, Option, Some, None, ◌∙◌, ap, arith, append_assoc}
use Rattle.photon_cli.proofs.Words.{cases_lt, nat_tests, Fuse, DiskKind, named_by, is_at, same_kind}

-- the place is among the first so many
abbrev pub is_below : ℕ → Option (DiskKind × ℕ) → Bool
is_below i None = false
is_below i (Some place) = nat_lt place.1 i

abbrev pub one_if : Bool → Fuse → List Fuse
one_if b fuse = if b then fuse ∷ [] else []

-- the disk of the next number, where it is named
pub next_number : (i : ℕ) (k : DiskKind) (which : Option ℕ) (p : Option (DiskKind × ℕ)) (fuse : Fuse)
    → one_if (is_at k which p && is_below i p) fuse ++ one_if (named_by which i && is_at k (Some i) p) fuse ≡ one_if (is_at k which p && is_below (i + 1) p) fuse
next_number i k which h fuse = grind (arith, named_by, cases_lt, nat_tests, same_kind)

-- a number more
pub counted : (made new old : List Fuse) (i : ℕ) (k : DiskKind) (which : Option ℕ) (p : Option (DiskKind × ℕ)) (fuse : Fuse)
    → new ≡ made ++ one_if (named_by which i && is_at k (Some i) p) fuse
    → made ≡ old ++ one_if (is_at k which p && is_below i p) fuse
    → new ≡ old ++ one_if (is_at k which p && is_below (i + 1) p) fuse
counted made new old i k which p fuse more before =
    more ∙ ap (λ (l : List Fuse). l ++ one_if (named_by which i && is_at k (Some i) p) fuse) before
    ∙ append_assoc old (one_if (is_at k which p && is_below i p) fuse) (one_if (named_by which i && is_at k (Some i) p) fuse)
    ∙ ap (λ (l : List Fuse). old ++ l) (next_number i k which p fuse)
