-- The files of the disks.
use Rattle.std.specs.Prelude.{ℕ, ◌<◌, ◌^◌, List, [], ◌∷◌, ◌++◌, Option, Some, None, ◌==◌, codes, decimal, if◌then◌else◌, ⊤}
use Rattle.outside.specs.declared.store.DiskName.{DiskName}
use Rattle.outside.specs.declared.store.DiskName.TheVariants.{Topology, Offset, Retry, Server, Replica, Epoch, Output}

abbrev pub word : DiskName → List ℕ
word Topology = codes "topology"
word (Offset site) = codes "offset-"
word (Retry site) = codes "retry-"
word (Server site) = codes "server-"
word (Replica number) = codes "replica-"
word (Epoch site joiner) = codes "epoch-"
word (Output site joiner) = codes "output-"

-- A or B, and of a site beyond the two its number and a dash
abbrev pub site_text : ℕ → List ℕ
site_text site = if site == 0 then codes "A" else if site == 1 then codes "B" else decimal site ++ codes "-"

-- what stands behind the word
abbrev pub numbers : DiskName → List ℕ
numbers Topology = []
numbers (Offset site) = site_text site
numbers (Retry site) = site_text site
numbers (Server site) = site_text site
numbers (Replica number) = decimal number
numbers (Epoch site joiner) = site_text site ++ decimal joiner
numbers (Output site joiner) = site_text site ++ decimal joiner

abbrev pub name_text : DiskName → List ℕ
name_text name = word name ++ numbers name

-- the file of a disk in this directory
abbrev pub path_text : List ℕ → DiskName → List ℕ
path_text dir name = dir ++ codes "/" ++ name_text name

-- the directory in which the one of this path has its name, by the path's parent
abbrev pub above : List ℕ → Option (List ℕ) → List ℕ
above path None = path
above path (Some []) = codes "."
above path (Some (b ∷ bs)) = b ∷ bs

-- the numbers of a disk's name are bytes
abbrev pub IsOfBytes : DiskName → Type 0
IsOfBytes Topology = ⊤
IsOfBytes (Offset site) = site < 2 ^ 8
IsOfBytes (Retry site) = site < 2 ^ 8
IsOfBytes (Server site) = site < 2 ^ 8
IsOfBytes (Replica number) = number < 2 ^ 8
IsOfBytes (Epoch site joiner) = (site < 2 ^ 8) × (joiner < 2 ^ 8)
IsOfBytes (Output site joiner) = (site < 2 ^ 8) × (joiner < 2 ^ 8)
