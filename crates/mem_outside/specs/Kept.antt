-- The disks that a store has.
use Rattle.std.specs.Prelude.{◌≡◌, ⊤, ℕ, List, [], ◌∷◌, Bool, true, false, ◌&&◌, ◌==◌, if◌then◌else◌, Option, Some, None}
use Rattle.outside.specs.declared.store.DiskName.{DiskName}
use Rattle.outside.specs.declared.store.DiskName.TheVariants.{Topology, Offset, Retry, Server, Replica, Epoch, Output}
use Rattle.mem_outside.specs.declared.disk.MemDisk.{MemDisk}
use Rattle.mem_outside.specs.declared.store.Kept.{Kept}
use Rattle.mem_outside.specs.declared.store.Stop.{Stop}
use Rattle.mem_outside.specs.declared.disk.Fuse.{Fuse}
use Rattle.mem_outside.specs.Plan.{is_planned}
use Rattle.mem_outside.specs.Past.{HasImage}

-- two names are the same
abbrev pub same_name : DiskName → DiskName → Bool
same_name Topology Topology = true
same_name (Offset m) (Offset n) = m == n
same_name (Retry m) (Retry n) = m == n
same_name (Server m) (Server n) = m == n
same_name (Replica m) (Replica n) = m == n
same_name (Epoch m j) (Epoch n k) = (m == n) && (j == k)
same_name (Output m j) (Output n k) = (m == n) && (j == k)
same_name m n = false

-- the first disk of this name
abbrev pub disk_of : List Kept → DiskName → Option MemDisk
disk_of [] name = None
disk_of (kept ∷ rest) name = if same_name kept.name name then Some kept.disk else disk_of rest name

-- of a disk that isn't there, a stop leaves no bytes
abbrev pub ImageIn : Option MemDisk → List ℕ → Type 0
ImageIn None c = c ≡ []
ImageIn (Some disk) c = HasImage disk.contents.calls.items disk.contents.bytes.items c

-- the stops that are planned for a disk of this name, in their order
abbrev pub fuses_for : List Stop → DiskName → List Fuse
fuses_for [] name = []
fuses_for (stop ∷ stops) name = if same_name stop.name name then stop.fuse ∷ fuses_for stops name else fuses_for stops name

-- a disk that isn't there has the stops of the plan
abbrev pub stops_in : List Stop → DiskName → Option MemDisk → ℕ → Bool
stops_in stops name None call = is_planned (fuses_for stops name) call
stops_in stops name (Some disk) call = is_planned disk.fuses.items call

abbrev pub made_in : Option MemDisk → ℕ
made_in None = 0
made_in (Some disk) = disk.made

-- the disk under the same name with no stops
pub record IsCalmed (old new : Kept) : Type 0 where
  pub name : new.name ≡ old.name
  pub fuses : new.disk.fuses.items ≡ []
  pub contents : new.disk.contents ≡ old.disk.contents
  pub made : new.disk.made ≡ old.disk.made

-- each disk of the list is so, in its place
abbrev pub AreCalmed : List Kept → List Kept → Type 0
AreCalmed [] [] = ⊤
AreCalmed [] (new ∷ news) = ⊥
AreCalmed (old ∷ olds) [] = ⊥
AreCalmed (old ∷ olds) (new ∷ news) = IsCalmed old new × AreCalmed olds news
