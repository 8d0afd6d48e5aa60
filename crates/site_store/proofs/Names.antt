-- The names of the disks that are opened behind the topology's.
use Rattle.std.proofs.Common.{◌≡◌, ◌≢◌, inl, inr, ℕ, zero, suc, ◌+◌, ◌*◌, ◌<◌, ◌≤◌, List, [], ◌∷◌, ◌++◌, length, refl, sym, ◌∙◌, ap, subst, arith, flat_map, append-nil, append_assoc}
use Rattle.std.proofs.lemmas.Grind.{flat_map-append}
use Rattle.site_store.proofs.Words.{Each, EachPair, each_append, each_more, Mem, mem_left, mem_right, DiskName, Setting, IsDisk, values_from, site_names, other_names}
use Rattle.outside.specs.declared.store.DiskName.TheVariants as name

-- ---- lists as the values of a function

each_value : {A : Type 0} (P : A → Type 0) (f : ℕ → A) (from n : ℕ) → ((k : ℕ) → k < from + n → P (f k)) → Each P (values_from f from n)
each_value P f from zero is = tt
each_value P f from (suc n) is = (is from (omega arith), each_value P f (suc from) n (λ k lt. is k (omega (arith, lt))))

value_last : {A : Type 0} (f : ℕ → A) (from n k : ℕ) → k ≡ from + n → values_from f from (suc n) ≡ values_from f from n ++ f k ∷ []
value_last {A} f from zero k is = ap (λ i. f i ∷ []) (omega (arith, is))
value_last {A} f from (suc n) k is = ap (λ (xs : List A). f from ∷ xs) (value_last f (suc from) n k (omega (arith, is)))

-- one more is put behind the others
pub value_more : {A : Type 0} (f : ℕ → A) (n : ℕ) (old mid now : List A) (x : A) → mid ≡ old ++ values_from f 0 n → now ≡ mid ++ x ∷ [] → x ≡ f n → now ≡ old ++ values_from f 0 (n + 1)
value_more {A} f n old mid now x is more at = grind (arith, append_assoc, value_last)

mem_value : {A : Type 0} (f : ℕ → A) (from n k i : ℕ) → k ≡ from + i → i < n → Mem (f k) (values_from f from n)
mem_value f from zero k i is lt = absurd (omega (arith, lt))
mem_value f from (suc n) k zero is lt = inl (ap f (omega (arith, is)))
mem_value f from (suc n) k (suc i) is lt = inr (mem_value f (suc from) n k i (omega (arith, is)) (omega (arith, lt)))

module _ {A X : Type 0} (h : A → List X) where
  flat_value : (f : ℕ → A) (v : ℕ → X) (from n : ℕ) → ((k : ℕ) → h (f k) ≡ v k ∷ []) → flat_map h (values_from f from n) ≡ values_from v from n
  flat_value f v from zero is = refl
  flat_value f v from (suc n) is = ap (λ (xs : List X). xs ++ flat_map h (values_from f (suc from) n)) (is from) ∙ ap (λ (xs : List X). v from ∷ xs) (flat_value f v (suc from) n is)

  pub flat_none : (ns : List A) → Each (λ n. h n ≡ []) ns → flat_map h ns ≡ []
  flat_none [] none = refl
  flat_none (n ∷ ns) none = ap (λ (xs : List X). xs ++ flat_map h ns) none.0 ∙ flat_none ns none.1

  none_value : (f : ℕ → A) (n : ℕ) → ((k : ℕ) → h (f k) ≡ []) → flat_map h (values_from f 0 n) ≡ []
  none_value f n none = flat_none (values_from f 0 n) (each_value (λ x. h x ≡ []) f 0 n (λ k lt. none k))

-- ---- the names with so many joiners and replicas

-- one of these disks, but not the topology's
abbrev pub IsNamed : (joiners replicas : ℕ) → DiskName → Type 0
IsNamed joiners replicas name.Topology = ⊥
IsNamed joiners replicas (name.Offset s) = s < 2
IsNamed joiners replicas (name.Retry s) = s < 2
IsNamed joiners replicas (name.Server s) = s < 2
IsNamed joiners replicas (name.Replica r) = r < replicas
IsNamed joiners replicas (name.Epoch s j) = (s < 2) × (j < joiners)
IsNamed joiners replicas (name.Output s j) = (s < 2) × (j < joiners)

module _ (joiners replicas : ℕ) where
  abbrev all : List DiskName
  all = other_names joiners replicas

  abbrev Named : DiskName → Type 0
  Named = IsNamed joiners replicas

  -- those behind the sites'
  abbrev rest : List DiskName
  rest =
      values_from (λ r. name.Replica r) 0 replicas ++ values_from (λ j. name.Epoch 0 j) 0 joiners ++ values_from (λ j. name.Epoch 1 j) 0 joiners ++ values_from (λ j. name.Output 0 j) 0 joiners ++ values_from (λ j. name.Output 1 j) 0 joiners

  more : (xs : List DiskName) (f : ℕ → DiskName) → ((j : ℕ) → j < joiners → Named (f j)) → Each Named xs → Each Named (xs ++ values_from f 0 joiners)
  more xs f is so = each_append Named xs (values_from f 0 joiners) so (each_value Named f 0 joiners (λ j lt. is j (omega (arith, lt))))

  pub each_named : Each Named all
  each_named =
      let first = each_value Named (λ r. name.Replica r) 0 replicas (λ k lt. omega (arith, lt)) in
      let epochs = more _ (λ j. name.Epoch 1 j) (λ j lt. (omega arith, lt)) (more _ (λ j. name.Epoch 0 j) (λ j lt. (omega arith, lt)) first) in
      let named = more _ (λ j. name.Output 1 j) (λ j lt. (omega arith, lt)) (more _ (λ j. name.Output 0 j) (λ j lt. (omega arith, lt)) epochs) in
      (omega arith, (omega arith, (omega arith, (omega arith, (omega arith, (omega arith, named))))))

  pub is_named : (disk : DiskName) → Named disk → Mem disk all
  is_named (name.Replica r) is = grind (arith, mem_left, mem_right, mem_value (λ r. name.Replica r) 0 replicas r r (omega arith) is)
  is_named (name.Epoch zero j) is = grind (arith, mem_left, mem_right, mem_value (λ j. name.Epoch 0 j) 0 joiners j j (omega arith) is.1)
  is_named (name.Epoch (suc zero) j) is = grind (arith, mem_left, mem_right, mem_value (λ j. name.Epoch 1 j) 0 joiners j j (omega arith) is.1)
  is_named (name.Output zero j) is = grind (arith, mem_left, mem_right, mem_value (λ j. name.Output 0 j) 0 joiners j j (omega arith) is.1)
  is_named (name.Output (suc zero) j) is = grind (arith, mem_right, mem_value (λ j. name.Output 1 j) 0 joiners j j (omega arith) is.1)
  is_named _ is = grind arith

  pub not_topology : Each (λ disk. disk ≢ name.Topology) all
  not_topology = each_more Named (λ (disk : DiskName). disk ≢ name.Topology) all (λ disk is e. subst Named e is) each_named

  -- ---- they differ, since they are numbered in their order

  -- the first number of a site's epochs, or of its outputs, by how many such lists stand before them
  abbrev first : ℕ → ℕ
  first lists = 7 + replicas + lists * joiners

  abbrev number : DiskName → ℕ
  number name.Topology = 0
  number (name.Offset s) = 1 + s
  number (name.Retry s) = 3 + s
  number (name.Server s) = 5 + s
  number (name.Replica r) = 7 + r
  number (name.Epoch s j) = first s + j
  number (name.Output s j) = first (2 + s) + j

  -- the numbers of these follow one another from this one on, up to that one
  abbrev Follow : ℕ → List DiskName → ℕ → Type 0
  Follow from [] end_ = from ≡ end_
  Follow from (n ∷ ns) end_ = (number n ≡ from) × Follow (suc from) ns end_

  follow_more : (f : ℕ → DiskName) (base from mid end_ : ℕ) (xs : List DiskName) (k n : ℕ) → ((i : ℕ) → number (f i) ≡ base + i) → mid ≡ base + k → end_ ≡ mid + n → Follow from xs mid → Follow from (xs ++ values_from f k n) end_
  follow_more f base from mid end_ [] k zero at mid_is end_is is = omega (arith, is, end_is)
  follow_more f base from mid end_ [] k (suc n) at mid_is end_is is = (at k ∙ sym mid_is ∙ sym is, follow_more f base (suc from) (suc mid) end_ [] (suc k) n at (omega (arith, mid_is)) (omega (arith, end_is)) (ap suc is))
  follow_more f base from mid end_ (x ∷ xs) k n at mid_is end_is is = (is.0, follow_more f base (suc from) mid end_ xs k n at mid_is end_is is.1)

  follow_all : Follow 1 all (first 4)
  follow_all =
      let replicas_follow = follow_more (λ r. name.Replica r) 7 7 7 (first 0) [] 0 replicas (λ i. refl) refl (omega arith) refl in
      let one = follow_more (λ j. name.Epoch 0 j) (first 0) 7 (first 0) (first 1) _ 0 joiners (λ i. refl) (omega arith) (omega arith) replicas_follow in
      let two = follow_more (λ j. name.Epoch 1 j) (first 1) 7 (first 1) (first 2) _ 0 joiners (λ i. refl) (omega arith) (omega arith) one in
      let three = follow_more (λ j. name.Output 0 j) (first 2) 7 (first 2) (first 3) _ 0 joiners (λ i. refl) (omega arith) (omega arith) two in
      (refl, (refl, (refl, (refl, (refl, (refl, follow_more (λ j. name.Output 1 j) (first 3) 7 (first 3) (first 4) _ 0 joiners (λ i. refl) (omega arith) (omega arith) three))))))

  above : (from end_ : ℕ) (ns : List DiskName) → Follow from ns end_ → Each (λ n. from ≤ number n) ns
  above from end_ [] is = tt
  above from end_ (n ∷ ns) is = grind (arith, each_more, above (suc from) end_ ns is.1)

  apart : (from end_ : ℕ) (ns : List DiskName) → Follow from ns end_ → EachPair (λ one other. one ≢ other) ns
  apart from end_ [] is = tt
  apart from end_ (n ∷ ns) is = grind (arith, each_more, above, apart (suc from) end_ ns is.1)

  pub others_apart : EachPair (λ one other. one ≢ other) all
  others_apart = apart 1 (first 4) all follow_all

  count_is : (from end_ : ℕ) (ns : List DiskName) → Follow from ns end_ → from + length ns ≡ end_
  count_is from end_ [] is = omega (arith, is)
  count_is from end_ (n ∷ ns) is = omega (arith, count_is (suc from) end_ ns is.1)

  pub others_count : length all ≡ 6 + replicas + 4 * joiners
  others_count = omega (arith, count_is 1 (first 4) all follow_all)

  -- ---- lists that they give

  module _ {X : Type 0} (h : DiskName → List X) (v : ℕ → X) (none : flat_map h site_names ≡ []) (epochs : (s j : ℕ) → h (name.Epoch s j) ≡ []) where
    behind : flat_map h all ≡ flat_map h rest
    behind = flat_map-append h site_names rest ∙ ap (λ (xs : List X). xs ++ flat_map h rest) none

    no_epoch : (s : ℕ) → flat_map h (values_from (λ j. name.Epoch s j) 0 joiners) ≡ []
    no_epoch s = none_value h (λ j. name.Epoch s j) joiners (epochs s)

    pub by_replicas : ((r : ℕ) → h (name.Replica r) ≡ v r ∷ []) → ((s j : ℕ) → h (name.Output s j) ≡ []) → flat_map h all ≡ values_from v 0 replicas
    by_replicas is outputs =
        grind (arith, behind, flat_map-append, append-nil, no_epoch 0, no_epoch 1, none_value h (λ j. name.Output 0 j) joiners (outputs 0), none_value h (λ j. name.Output 1 j) joiners (outputs 1), flat_value h (λ r. name.Replica r) v 0 replicas is)

    pub by_outputs : (w : ℕ → X) → ((r : ℕ) → h (name.Replica r) ≡ []) → ((j : ℕ) → h (name.Output 0 j) ≡ v j ∷ []) → ((j : ℕ) → h (name.Output 1 j) ≡ w j ∷ [])
        → flat_map h all ≡ values_from v 0 joiners ++ values_from w 0 joiners
    by_outputs w replica one other = grind (arith, behind, flat_map-append, none_value, flat_value)

-- ---- they are the setting's

module _ (g : Setting) where
  pub others_are : (n : ℕ) → n ≤ g.config.joiners → Each (IsDisk g) (other_names n g.config.replicas)
  others_are n le = each_more (IsNamed n g.config.replicas) (IsDisk g) (other_names n g.config.replicas) (λ disk is. grind arith) (each_named n g.config.replicas)

  -- and all of them but the topology's
  pub all_named : (disk : DiskName) → IsDisk g disk → disk ≢ name.Topology → Mem disk (other_names g.config.joiners g.config.replicas)
  all_named disk here other = is_named g.config.joiners g.config.replicas disk (grind arith)
