-- The disks of a store while they are out.
use Rattle.std.specs.Prelude.{ℕ, List, ◌∷◌}
use Rattle.site_run.specs.Terms.{DiskName, Each, GoesOn, Images, Lacks, Lent}
use Rattle.outside.specs.Disk.{Within}

-- The topology's disk and the others have gone on from what might have been left of them before; of a disk that is not out a stop
-- leaves nothing new.
pub record AreOut {D : Type 0} (left : D → List ℕ → Type 0) (before inside : Images) (topology : Lent D) (others : List (Lent D)) : Type 0 where
  pub grown : GoesOn (before topology.name) (left topology.disk)
  pub went : Each (λ (l : Lent D). GoesOn (before l.name) (left l.disk)) others
  pub in_store : (disk : DiskName) → Lacks (topology ∷ others) disk → Within (before disk) (inside disk)
