-- What the disk of a name keeps.
use Rattle.std.proofs.Common.{◌≡◌, ◌≢◌, ◌⊎◌, inl, inr, ℕ, List, [], ◌∷◌, ◌++◌, map, refl, ◌∙◌, ap, subst, arith, flat_map}
use Rattle.site_store.proofs.Words.{Each, EachPair, Mem, DiskName, IsKeptIn, IsJournalOf, WereJournals, Kept, KeptDisk, OpenView, KeepsAs, IsOfKind, IsKept, kept_by, kept_all}
use Rattle.outside.specs.declared.store.DiskName.TheVariants as name
use Rattle.site_store.proofs.Lending.{each_mem, same_or_not}

-- what has a name, where that is among theirs
pub at_name : {A B : Type 0} (f : A → B) (xs : List A) (n : B) → Mem n (map f xs) → (x : A) × Mem x xs × (f x ≡ n)
at_name f [] n m = absurd m
at_name f (x ∷ xs) n h = grind (arith, at_name f xs n)

-- there is one of this name or none
pub find_name : (disks : List KeptDisk) (n : DiskName) → ((d : KeptDisk) × Mem d disks × (d.name ≡ n)) ⊎ ((d : KeptDisk) → Mem d disks → d.name ≡ n → ⊥)
find_name [] n = inr (λ d m e. absurd m)
find_name (d ∷ ds) n = elim (same_or_not d.name n) [
  | inl same ↦ inl (d, inl refl, same)
  | inr not ↦ elim (find_name ds n) [
    | inl found ↦ inl (found.0, inr found.1, found.2)
    | inr none ↦ inr (λ o m e. elim m [ inl here ↦ not (ap (λ (x : KeptDisk). x.name) here ∙ e) | inr later ↦ none o later e ])
  ]
]

pub named_mem : {A B : Type 0} (f : A → B) (xs : List A) (x : A) → Mem x xs → Mem (f x) (map f xs)
named_mem f [] x m = absurd m
named_mem f (y ∷ ys) x h = grind (arith, named_mem f ys x)

-- where names differ, one name is one disk's
pub one_named : {A B : Type 0} (f : A → B) (xs : List A) → EachPair (λ one other. one ≢ other) (map f xs) → (a b : A) → Mem a xs → Mem b xs → f a ≡ f b → a ≡ b
one_named f [] apart a b m k e = absurd m
one_named f (x ∷ xs) apart a b h k e = grind (arith, each_mem, named_mem, one_named f xs apart.1 a b)

-- ---- what it keeps is a journal of its kind

pub journal_of : (n : DiskName) (kept : Kept) (c : List ℕ) → IsOfKind n kept → KeepsAs kept c → IsJournalOf n c
journal_of name.Topology kept c (v, is) keeps = (v, subst (λ (k : Kept). KeepsAs k c) is keeps)
journal_of _ kept c (v, is) keeps = (v, subst (λ (k : Kept). KeepsAs k c) is keeps)

-- the disk of a name was a journal of its kind
pub was_journal : (before : DiskName → List ℕ → Type 0) (disks : List KeptDisk) (n : DiskName) → Each (λ d. IsOfKind d.name d.kept) disks → Each (IsKept before) disks → Mem n (map (λ d. d.name) disks)
    → IsKeptIn (before n) (IsJournalOf n)
was_journal before [] n kinds kept m = absurd m
was_journal before (d ∷ ds) n kinds kept h = grind (arith, was_journal before ds n kinds.1 kept.1)

-- ---- open disks

pub names_kept : {D : Type 0} (all : List (OpenView D)) → map (λ d. d.name) (kept_all all) ≡ map (λ o. o.name) all
names_kept [] = refl
names_kept {D} (o ∷ os) = ap (λ (ns : List DiskName). o.name ∷ ns) (names_kept os)

pub each_kept : {D : Type 0} (P : KeptDisk → Type 0) (all : List (OpenView D)) → Each (λ o. P (kept_by o)) all → Each P (kept_all all)
each_kept P [] h = tt
each_kept P (o ∷ os) h = (h.0, each_kept P os h.1)

pub were_journals : {D : Type 0} (before : DiskName → List ℕ → Type 0) (all : List (OpenView D)) (names : List DiskName) → map (λ o. o.name) all ≡ names → Each (λ o. IsOfKind o.name o.kept) all
    → Each (λ o. IsKept before (kept_by o)) all → WereJournals before names
were_journals {D} before all names named kinds kept = subst (WereJournals before) named (each_were all kinds kept)
  where
    each_were : (all : List (OpenView D)) → Each (λ o. IsOfKind o.name o.kept) all → Each (λ o. IsKept before (kept_by o)) all → WereJournals before (map (λ o. o.name) all)
    each_were [] kinds kept = tt
    each_were (o ∷ os) kinds kept = let x = kept.0 in ((x.0, x.1, journal_of o.name o.kept x.0 kinds.0 x.2), each_were os kinds.1 kept.1)

-- ---- lists that the names give

-- what each disk gives by what it keeps is what its name gives
pub by_names : {X : Type 0} (f : Kept → List X) (h : DiskName → List X) (disks : List KeptDisk) → Each (λ d. f d.kept ≡ h d.name) disks → flat_map (λ (d : KeptDisk). f d.kept) disks ≡ flat_map h (map (λ d. d.name) disks)
by_names f h [] is = refl
by_names {X} f h (d ∷ ds) is = ap (λ (xs : List X). xs ++ flat_map (λ (d : KeptDisk). f d.kept) ds) is.0 ∙ ap (λ (xs : List X). h d.name ++ xs) (by_names f h ds is.1)
