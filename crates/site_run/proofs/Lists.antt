-- Lists of nodes that grow at their end, and lists side by side.
use Rattle.std.proofs.Common.{◌≡◌, inl, inr, ℕ, suc, ◌+◌, ◌<◌, List, [], ◌∷◌, ◌++◌, length, Option, Some, None, refl, sym, ap, ◌∙◌, subst, arith, append_assoc, length-append}
use Rattle.site_run.proofs.Words.{append-nil, get_or_append_left, cases_lt, get_or-append_seam, all_from, AllAt, EachWith, OneWith, Mem, Config, NodeFault, RunFault, told_of, or_else, first_fault}

pub all_more : {N X : Type 0} (f : ℕ → N → List X) (i : ℕ) (ns : List N) (n : N) → all_from f i (ns ++ n ∷ []) ≡ all_from f i ns ++ f (i + length ns) n
all_more f i [] n = grind (arith, append-nil)
all_more f i (m ∷ ns) n = grind (arith, append_assoc, all_more f (suc i) ns n)

pub all_last : {N X : Type 0} (f : ℕ → N → List X) (ns : List N) (n : N) → all_from f 0 (ns ++ n ∷ []) ≡ all_from f 0 ns ++ f (length ns) n
all_last f ns n = grind (arith, all_more)

-- the last one is at its place, and the others are as they were
pub all_at_more : {N : Type 0} (Good : ℕ → N → Type 0) (ns new : List N) (n : N) (k : ℕ) → length ns ≡ k → new ≡ ns ++ n ∷ [] → Good k n → AllAt Good ns → AllAt Good new
all_at_more Good ns new n k len is here all = grind (arith, get_or_append_left, length-append, get_or-append_seam, cases_lt)

-- one node more is taken apart
pub parted : {N X : Type 0} (f : ℕ → N → List X) (old new total : List X) (i next : ℕ) (n : N) (ns rest : List N) → new ≡ old ++ f i n → ns ≡ n ∷ rest → next ≡ suc i → old ++ all_from f i ns ≡ total → new ++ all_from f next rest ≡ total
parted f old new total i next n ns rest put is at all =
    ap (λ l. l ++ all_from f next rest) put ∙ ap (λ k. (old ++ f i n) ++ all_from f k rest) at ∙ append_assoc old (f i n) (all_from f (suc i) rest) ∙ ap (λ l. old ++ all_from f i l) (sym is) ∙ all

-- and was looked at for its fault: the first one is told
or_through : (a b c : Option RunFault) → or_else (or_else a b) c ≡ or_else a (or_else b c)
or_through None b c = refl
or_through (Some f) b c = refl

pub faulted : {N : Type 0} (config : Config) (i next : ℕ) (first now total : Option RunFault) (fault : Option NodeFault) (n : N) (w : N × Option NodeFault) (ws rest : List (N × Option NodeFault)) → w ≡ (n, fault) → ws ≡ w ∷ rest → next ≡ suc i
    → now ≡ or_else first (told_of config i fault) → or_else first (first_fault config i ws) ≡ total → or_else now (first_fault config next rest) ≡ total
faulted {N} config i next first now total fault n w ws rest w_is cut step told before = grind (arith, or_through)

pub some_of : {X : Type 0} (xs : List X) → 0 < length xs → X
some_of [] some = absurd (omega (arith, some))
some_of (x ∷ xs) some = x

-- ---- lists side by side

-- each element of the one has one of the other at its place
pub with_one : {A B : Type 0} (R : A → B → Type 0) (xs : List A) (ys : List B) → EachWith R xs ys → (x : A) → Mem x xs → (y : B) × Mem y ys × R x y
with_one R [] ys all z among = absurd among
with_one R (x ∷ xs) [] all z among = absurd all
with_one R (x ∷ xs) (y ∷ ys) all z (inl is) = (y, inl refl, subst (λ w. R w y) is all.0)
with_one R (x ∷ xs) (y ∷ ys) all z (inr later) = let r = with_one R xs ys all.1 z later in (r.0, inr r.1, r.2)

pub one_with : {A B : Type 0} (R : A → B → Type 0) (xs : List A) (ys : List B) → EachWith R xs ys → (y : B) → Mem y ys → (x : A) × Mem x xs × R x y
one_with R xs [] all z among = absurd among
one_with R [] (y ∷ ys) all z among = absurd all
one_with R (x ∷ xs) (y ∷ ys) all z (inl is) = (x, inl refl, subst (λ w. R x w) is all.0)
one_with R (x ∷ xs) (y ∷ ys) all z (inr later) = let r = one_with R xs ys all.1 z later in (r.0, inr r.1, r.2)

pub one_of : {A B : Type 0} (S : A → B → Type 0) (xs : List A) (ys : List B) → OneWith S xs ys → (x : A) × (y : B) × Mem x xs × Mem y ys × S x y
one_of S (x ∷ xs) (y ∷ ys) (inl is) = (x, y, inl refl, inl refl, is)
one_of S (x ∷ xs) (y ∷ ys) (inr later) = let r = one_of S xs ys later in (r.0, r.1, inr r.2, inr r.3, r.4)
one_of S _ _ one = absurd one
