-- Disks that were taken from a store, each under its name.
use Rattle.std.specs.Prelude.{◌≡◌, ◌≢◌, ◌⊎◌, ℕ, List}
use Rattle.site_store.specs.Terms.{DiskName, Each, Mem, StaysAs, Within}

-- a disk under its name
pub record Lent (D : Type 0) : Type 0 where
  pub name : DiskName
  pub disk : D

-- no disk of this name is among these
abbrev pub Lacks : {D : Type 0} → List (Lent D) → DiskName → Type 0
Lacks lent name = Each (λ l. l.name ≢ name) lent

-- What a stop may leave of each of these disks stands for what it might have left of it in the store before. Of each other
-- disk it leaves nothing new.
pub record IsLent {D : Type 0} (left : D → List ℕ → Type 0) (before after : DiskName → List ℕ → Type 0) (lent : List (Lent D)) : Type 0 where
  pub out : Each (λ l. StaysAs (before l.name) (left l.disk)) lent
  pub others : (name : DiskName) → Lacks lent name → Within (before name) (after name)

-- a stop may leave these bytes of one of these disks, which has this name
pub record IsOfOne {D : Type 0} (left : D → List ℕ → Type 0) (lent : List (Lent D)) (name : DiskName) (c : List ℕ) : Type 0 where
  pub one : Lent D
  pub among : Mem one lent
  pub named : one.name ≡ name
  pub may : left one.disk c

-- what a stop may leave of the disk of a name, be it lent or in the store
abbrev pub MayBeLeft : {D : Type 0} → (D → List ℕ → Type 0) → (DiskName → List ℕ → Type 0) → List (Lent D) → DiskName → List ℕ → Type 0
MayBeLeft left image lent name c = (Lacks lent name × image name c) ⊎ IsOfOne left lent name c
