-- Disks that are given back, one by one.
use Rattle.std.proofs.Common.{◌≡◌, ◌≤◌, ◌⊎◌, inl, inr, ℕ, List, [], ◌∷◌, ◌++◌, ◌∙◌, sym, ap, subst, arith}
use Rattle.site_store.proofs.Words.{map-append, Mem, mem_split, DiskName, Within, Rose, added, Lent, Lacks, MayBeLeft, LentDisk, lent_of, all_lent}
use Rattle.site_store.proofs.Lending.{each_mem}

-- a name that no disk has is left as it was
pub others_stay : {D : Type 0} (left : D → List ℕ → Type 0) (before after : DiskName → List ℕ → Type 0) (lent : List (Lent D)) (name : DiskName) → Lacks lent name
    → ((c : List ℕ) → after name c → MayBeLeft left before lent name c) → Within (before name) (after name)
others_stay {D} left before after lent name lacks may c now = grind (arith, each_mem)

-- ---- their faults

-- each disk that met a fault is still out, or the count has risen
pub record OutOrRose {D : Type 0} (faults : D → ℕ) (all out : List (LentDisk D)) (old new : ℕ) : Type 0 where
  pub each : (d : Lent D) → Mem d (all_lent all) → 1 ≤ faults d.disk → Mem d (all_lent out) ⊎ Rose old new

-- the last disk of a list is given back
pub last_counts : {D : Type 0} (faults : D → ℕ) (all out rest : List (LentDisk D)) (one : LentDisk D) (old mid new : ℕ) → out ≡ rest ++ one ∷ [] → old ≤ mid → new ≡ added mid (faults one.disk)
    → OutOrRose faults all out old mid → OutOrRose faults all rest old new
last_counts {D} faults all out rest one old mid new cut later is so =
    let whole : all_lent out ≡ all_lent rest ++ lent_of one ∷ [] = ap all_lent cut ∙ map-append lent_of rest (one ∷ []) in
    record {
      each = λ d among met. elim (so.each d among met) [
        | inr rose ↦ inr (omega (arith, rose, is))
        | inl among ↦ elim (mem_split d (all_lent rest) (lent_of one ∷ []) (subst (Mem d) whole among)) [
          | inl among ↦ inl among
          | inr (inl same) ↦ inr (omega (arith, later, (subst (λ (l : Lent D). 1 ≤ faults l.disk) (sym same) met), is))
          | inr (inr none) ↦ absurd none
        ]
      ];
    }

-- once none is out, it has risen
pub none_out : {D : Type 0} (faults : D → ℕ) (all out : List (LentDisk D)) (old new : ℕ) → out ≡ [] → OutOrRose faults all out old new
    → (d : Lent D) → Mem d (all_lent all) → 1 ≤ faults d.disk → Rose old new
none_out {D} faults all out old new none so d among met = grind arith
