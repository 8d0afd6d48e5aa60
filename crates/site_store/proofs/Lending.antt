-- Disks that are lent and given back, one by one.
use Rattle.std.proofs.Common.{◌≡◌, ◌≢◌, ◌⊎◌, inl, inr, ℕ, ◌+◌, ◌<◌, List, [], ◌∷◌, ◌++◌, length, take, get_or, refl, sym, ◌∙◌, ap, subst, arith, zero, suc, map}
use Rattle.site_store.proofs.Words.{map-append, take_more, length-append, Each, EachPair, Mem, each_append, mem_left, mem_right, DiskName, Within, StaysAs, IsKeptIn, Lent, Lacks, IsLent, MayBeLeft, OpenView, KeepsAs, IsKept, kept_by, lent_by, lent_all, other_names}
use Rattle.site_store.proofs.Names.{others_apart}
use Rattle.site_store.proofs.Stays.{opened_same}

pub same_or_not : (a b : DiskName) → (a ≡ b) ⊎ (a ≢ b)
same_or_not a b = grind arith

pub each_front : {A : Type 0} (P : A → Type 0) (xs ys : List A) → Each P (xs ++ ys) → Each P xs
each_front P [] ys h = tt
each_front P (x ∷ xs) ys h = (h.0, each_front P xs ys h.1)

pub each_back : {A : Type 0} (P : A → Type 0) (xs ys : List A) → Each P (xs ++ ys) → Each P ys
each_back P [] ys h = h
each_back P (x ∷ xs) ys h = each_back P xs ys h.1

pub each_two : {A : Type 0} (P Q R : A → Type 0) (xs : List A) → ((x : A) → P x → Q x → R x) → Each P xs → Each Q xs → Each R xs
each_two P Q R [] f h k = tt
each_two P Q R (x ∷ xs) f h k = (f x h.0 k.0, each_two P Q R xs f h.1 k.1)

pub each_mem : {A : Type 0} (P : A → Type 0) (x : A) (xs : List A) → Each P xs → Mem x xs → P x
each_mem P x [] h m = absurd m
each_mem P x (y ∷ ys) h k = grind (arith, each_mem P x ys h.1)

pub each_at : {A : Type 0} (P : A → Type 0) (xs : List A) (i : ℕ) (d : A) → Each P xs → i < length xs → P (get_or xs i d)
each_at P [] i d h lt = absurd (omega arith)
each_at P (x ∷ xs) zero d h lt = h.0
each_at P (x ∷ xs) (suc i) d h lt = each_at P xs i d h.1 (omega arith)

-- each element before a place stands so to the one there
pair_before : {A : Type 0} (R : A → A → Type 0) (xs : List A) (i : ℕ) (d : A) → EachPair R xs → i < length xs → Each (λ x. R x (get_or xs i d)) (take i xs)
pair_before R [] i d h lt = absurd (omega arith)
pair_before R (x ∷ xs) zero d h lt = tt
pair_before R (x ∷ xs) (suc i) d h lt = (each_at (λ y. R x y) xs i d h.0 (omega arith), pair_before R xs i d h.1 (omega arith))

pub each_unmap : {A B : Type 0} (P : B → Type 0) (f : A → B) (xs : List A) → Each P (map f xs) → Each (λ x. P (f x)) xs
each_unmap P f [] h = tt
each_unmap P f (x ∷ xs) h = (h.0, each_unmap P f xs h.1)

pub each_map : {A B : Type 0} (P : B → Type 0) (f : A → B) (xs : List A) → Each (λ x. P (f x)) xs → Each P (map f xs)
each_map P f [] h = tt
each_map P f (x ∷ xs) h = (h.0, each_map P f xs h.1)

pub each_more : {A : Type 0} (P : A → Type 0) (all now : List A) (one : A) → Each P all → P one → now ≡ all ++ one ∷ [] → Each P now
each_more P all now one so here is = subst (Each P) (sym is) (each_append P all (one ∷ []) so (here, tt))

pub length_more : {A : Type 0} (all now : List A) (one : A) → now ≡ all ++ one ∷ [] → length now ≡ length all + 1
length_more all now one is = ap length is ∙ length-append all (one ∷ [])

-- a disk that was taken, and given back where its journal was refused
pub given_back : (before mid after : DiskName → List ℕ → Type 0) (name : DiskName) (first back : List ℕ → Type 0) → Within (before name) first → StaysAs first back
    → ((other : DiskName) → other ≢ name → Within (before other) (mid other)) → Within back (after name) → ((other : DiskName) → other ≢ name → Within (mid other) (after other))
    → (other : DiskName) → StaysAs (before other) (after other)
given_back before mid after name first back images stays others give stay other c now = grind (arith, opened_same)

module _ {D : Type 0} (left : D → List ℕ → Type 0) where
  -- one disk more
  one_lent : (before mid after : DiskName → List ℕ → Type 0) (lent : List (Lent D)) (one : Lent D) → IsLent left before mid lent → Lacks lent one.name
      → StaysAs (mid one.name) (left one.disk) → ((other : DiskName) → other ≢ one.name → Within (mid other) (after other)) → IsLent left before after (lent ++ one ∷ [])
  one_lent before mid after lent one so lacks stays others = grind (arith, each_append, each_front, each_back)

  -- the first disk, and others that were lent behind it
  pub first_lent : (before mid after : DiskName → List ℕ → Type 0) (one : Lent D) (lent : List (Lent D)) → StaysAs (before one.name) (left one.disk) → ((other : DiskName) → other ≢ one.name → Within (before other) (mid other))
      → IsLent left mid after lent → Lacks lent one.name → IsLent left before after (one ∷ lent)
  first_lent before mid after one lent stays others so lacks = record {
    out = (stays, each_two (λ (l : Lent D). l.name ≢ one.name) (λ l. StaysAs (mid l.name) (left l.disk)) (λ l. StaysAs (before l.name) (left l.disk)) lent (λ l not out c now. let from = out c now in (from.0, others l.name not from.0 from.1, from.2)) lacks so.out);
    others = λ name away c now. others name (λ e. away.0 (sym e)) c (so.others name away.1 c now);
  }

  -- one disk is given back
  pub given : (before after : DiskName → List ℕ → Type 0) (front : List (Lent D)) (one : Lent D) → Within (left one.disk) (after one.name)
      → ((other : DiskName) → other ≢ one.name → Within (before other) (after other)) → (name : DiskName) (c : List ℕ) → MayBeLeft left after front name c → MayBeLeft left before (front ++ one ∷ []) name c
  given before after front one images others name c (inr of) =
      inr (record { one = of.one; among = mem_left of.one front (one ∷ []) of.among; named = of.named; may = of.may })
  given before after front one images others name c (inl stays) = elim (same_or_not name one.name) [
    | inl same ↦ inr (record { one = one; among = mem_right one front (one ∷ []) (inl refl); named = sym same; may = images c (subst (λ (n : DiskName). after n c) same stays.1) })
    | inr not ↦ inl (each_append (λ (l : Lent D). l.name ≢ name) front (one ∷ []) stays.0 ((λ e. not (sym e)), tt), others name not c stays.1)
  ]

  -- the last of some disks is given back
  pub given_last : {X : Type 0} (before after : DiskName → List ℕ → Type 0) (f : X → Lent D) (all rest : List X) (one : X) → all ≡ rest ++ one ∷ [] → Within (left (f one).disk) (after (f one).name)
      → ((other : DiskName) → other ≢ (f one).name → Within (before other) (after other)) → (name : DiskName) (c : List ℕ) → MayBeLeft left after (map f rest) name c → MayBeLeft left before (map f all) name c
  given_last before after f all rest one cut images others name c now =
      subst (λ (l : List (Lent D)). MayBeLeft left before l name c) (sym (ap (map f) cut ∙ map-append f rest (one ∷ []))) (given before after (map f rest) (f one) images others name c now)

  -- the first disk is given back after the others
  pub given_first : (before mid after : DiskName → List ℕ → Type 0) (one : Lent D) (lent : List (Lent D)) → ((name : DiskName) (c : List ℕ) → mid name c → MayBeLeft left before lent name c)
      → Within (left one.disk) (after one.name) → ((other : DiskName) → other ≢ one.name → Within (mid other) (after other)) → (name : DiskName) (c : List ℕ) → after name c → MayBeLeft left before (one ∷ lent) name c
  given_first before mid after one lent give images others name c now = elim (same_or_not name one.name) [
    | inl same ↦ inr (record { one = one; among = inl refl; named = sym same; may = images c (subst (λ (n : DiskName). after n c) same now) })
    | inr not ↦ elim (give name c (others name not c now)) [
      | inl stays ↦ inl ((λ e. not (sym e), stays.0), stays.1)
      | inr of ↦ inr (record { one = of.one; among = inr of.among; named = of.named; may = of.may })
    ]
  ]

  -- what may be left once all were given back stands for what might have been left before they were taken
  pub stays_as : (before mid after : DiskName → List ℕ → Type 0) (lent : List (Lent D)) → IsLent left before mid lent
      → ((name : DiskName) (c : List ℕ) → after name c → MayBeLeft left mid lent name c) → (name : DiskName) → StaysAs (before name) (after name)
  stays_as before mid after lent so give name c now = grind (arith, each_mem)

  -- the same after a refusal: of the others each stands for the same too
  pub cut_back : (before mid inside after : DiskName → List ℕ → Type 0) (lent : List (Lent D)) → IsLent left before mid lent → ((name : DiskName) → StaysAs (mid name) (inside name))
      → ((name : DiskName) (c : List ℕ) → after name c → MayBeLeft left inside lent name c) → (name : DiskName) → StaysAs (before name) (after name)
  cut_back before mid inside after lent so back give name c now = grind (arith, each_mem)

  -- the disk of the next name is opened
  pub opened_more : (before mid after : DiskName → List ℕ → Type 0) (name : DiskName) (all now : List (OpenView D)) (one : OpenView D) → IsLent left before mid (lent_all all) → Lacks (lent_all all) name → one.name ≡ name
      → StaysAs (mid name) (left one.disk) → ((other : DiskName) → other ≢ name → Within (mid other) (after other)) → now ≡ all ++ one ∷ [] → IsLent left before after (lent_all now)
  opened_more before mid after name all now one so lacks named stays others is =
      let whole : lent_all now ≡ lent_all all ++ lent_by one ∷ [] = ap lent_all is ∙ map-append lent_by all (one ∷ []) in
      subst (IsLent left before after) (sym whole)
      (one_lent before mid after (lent_all all) (lent_by one) so (subst (Lacks (lent_all all)) (sym named) lacks)
      (subst (λ (n : DiskName). StaysAs (mid n) (left one.disk)) (sym named) stays)
      (λ other not. others other (λ e. not (e ∙ sym named))))

  -- and keeps what might have been left of it at first
  pub keeps_first : (before mid : DiskName → List ℕ → Type 0) (all : List (OpenView D)) (one : OpenView D) (name : DiskName) → IsLent left before mid (lent_all all) → Lacks (lent_all all) name → one.name ≡ name
      → IsKeptIn (mid name) (KeepsAs one.kept) → IsKept before (kept_by one)
  keeps_first before mid all one name so lacks named kept = grind arith

pub none_each : {A : Type 0} (P : A → Type 0) (xs : List A) → xs ≡ [] → Each P xs
none_each P xs none = subst (Each P) (sym none) tt

-- once none is out, what the store leaves is what was left at first
pub none_left : {D X : Type 0} (left : D → List ℕ → Type 0) (image : DiskName → List ℕ → Type 0) (f : X → Lent D) (disks : List X) (name : DiskName) (c : List ℕ) → disks ≡ [] → image name c → MayBeLeft left image (map f disks) name c
none_left left image f disks name c none now = subst (λ l. MayBeLeft left image (map f l) name c) (sym none) (inl (tt, now))

-- the next name is that of no disk that was opened
pub lacks_next : {D : Type 0} (joiners replicas : ℕ) (names : List DiskName) (i : ℕ) (name : DiskName) (all : List (OpenView D)) → names ≡ other_names joiners replicas → map (λ o. o.name) all ≡ take i names → i < length names
    → name ≡ get_or names i name → Lacks (lent_all all) name
lacks_next {D} joiners replicas names i name all named so lt is =
    let apart = subst (EachPair (λ one other. one ≢ other)) (sym named) (others_apart joiners replicas) in
    let so_far : Each (λ n. n ≢ get_or names i name) (map (λ (o : OpenView D). o.name) all) = subst (Each (λ n. n ≢ get_or names i name)) (sym so) (pair_before (λ one other. one ≢ other) names i name apart lt) in
    subst (Lacks (lent_all all)) (sym is) (each_map (λ (l : Lent D). l.name ≢ get_or names i name) lent_by all (each_unmap (λ n. n ≢ get_or names i name) (λ (o : OpenView D). o.name) all so_far))

-- none of these is the topology's, as their names say
pub lacks_by_names : {D : Type 0} (name : DiskName) (all : List (OpenView D)) (names : List DiskName) → map (λ o. o.name) all ≡ names → Each (λ n. n ≢ name) names → Lacks (lent_all all) name
lacks_by_names {D} name all names is apart = grind (arith, each_map, each_unmap)

pub names_more : {D : Type 0} (names : List DiskName) (i : ℕ) (d : DiskName) (all now : List (OpenView D)) (one : OpenView D) → map (λ o. o.name) all ≡ take i names → i < length names → one.name ≡ get_or names i d
    → now ≡ all ++ one ∷ [] → map (λ o. o.name) now ≡ take (i + 1) names
names_more {D} names i d all now one so lt named is = grind (arith, map-append, take_more)
