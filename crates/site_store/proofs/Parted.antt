-- Disks and their records, taken apart one by one.
use Rattle.std.proofs.Common.{◌≡◌, ◌≤◌, List, [], ◌∷◌, ◌++◌, length, refl, sym, ap, ◌∙◌, append_assoc, arith, flat_map, append-nil}
use Rattle.site_store.proofs.Words.{map-append, KeptDisk, OpenView, kept_by, kept_all, Lent, LentDisk, lent_of, all_lent, lent_by, lent_all, ReadAs, notes_in, pairs_in}

-- the records of the first that is left are put behind the others
pub records_moved : {D X : Type 0} (f : KeptDisk → List X) (old new extra total : List X) (one : OpenView D) (left rest : List (OpenView D)) → new ≡ old ++ extra → extra ≡ f (kept_by one) → left ≡ one ∷ rest
    → old ++ flat_map f (kept_all left) ≡ total → new ++ flat_map f (kept_all rest) ≡ total
records_moved f old new extra total one left rest put are cut all = grind (arith, append_assoc)

-- and its disk
pub disk_moved : {D : Type 0} (old new : List (LentDisk D)) (disk : LentDisk D) (total : List (Lent D)) (one : OpenView D) (left rest : List (OpenView D)) → new ≡ old ++ disk ∷ [] → lent_of disk ≡ lent_by one → left ≡ one ∷ rest
    → all_lent old ++ lent_all left ≡ total → all_lent new ++ lent_all rest ≡ total
disk_moved old new disk total one left rest put is cut all = grind (arith, map-append, append_assoc)

-- once none is left all are moved
none_of : {A : Type 0} (xs : List A) → length xs ≡ 0 → xs ≡ []
none_of [] e = refl
none_of (x ∷ xs) e = absurd (omega (arith, e))

pub all_moved : {D X : Type 0} (f : KeptDisk → List X) (now total : List X) (left : List (OpenView D)) → length left ≡ 0 → now ++ flat_map f (kept_all left) ≡ total → now ≡ total
all_moved f now total left none all = sym (append-nil now) ∙ ap (λ l. now ++ flat_map f (kept_all l)) (sym (none_of left none)) ∙ all

pub all_out : {D : Type 0} (now : List (LentDisk D)) (total : List (Lent D)) (left : List (OpenView D)) → length left ≡ 0 → all_lent now ++ lent_all left ≡ total → all_lent now ≡ total
all_out now total left none all = sym (append-nil (all_lent now)) ∙ ap (λ l. all_lent now ++ lent_all l) (sym (none_of left none)) ∙ all

pub few_notes : (read : ReadAs) → length (notes_in read) ≤ 1
few_notes read = grind arith

pub few_pairs : (read : ReadAs) → length (pairs_in read) ≤ 1
few_pairs read = grind arith
