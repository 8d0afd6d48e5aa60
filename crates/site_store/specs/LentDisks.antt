-- The disks of a list, as disks that were taken from a store.
use Rattle.std.specs.Prelude.{List, map}
use Rattle.site_store.specs.Lent.{Lent}
use Rattle.site_store.specs.declared.lent.disk.LentDisk.{LentDisk}

-- the disk under its name
abbrev pub lent_of : {D : Type 0} → LentDisk D → Lent D
lent_of d = record { name = d.name; disk = d.disk }

abbrev pub all_lent : {D : Type 0} → List (LentDisk D) → List (Lent D)
all_lent disks = map lent_of disks
