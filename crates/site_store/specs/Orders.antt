-- Relations between what may be left of disks at different times.
use Rattle.std.proofs.Common.{◌⊎◌, inl, inr, ℕ, List}
use Rattle.site_store.specs.Terms.{DiskName}

-- what a stop may leave of a disk of a store, or of one that was taken
abbrev pub left_at : {S D : Type 0} → (S → DiskName → List ℕ → Type 0) → (D → List ℕ → Type 0) → (S × DiskName) ⊎ D → List ℕ → Type 0
left_at stored taken (inl at) = stored at.0 at.1
left_at stored taken (inr disk) = taken disk

-- R holds between each and itself, and between the first and the last of three in a row
pub record IsOrder {A : Type 0} (R : A → A → Type 0) : Type 0 where
  pub same : (x : A) → R x x
  pub through : (x y z : A) → R x y → R y z → R x z
