-- What opening a store for a run leaves of its disks.
use Rattle.std.specs.Prelude.{◌≡◌, ◌≢◌, ℕ, List, ◌∷◌}
use Rattle.site_store.specs.Terms.{DiskName, Each, GoesOn, Setting, StaysAs, Topology, Within}
use Rattle.outside.specs.declared.store.DiskName.TheVariants as name
use Rattle.site_store.specs.Lent.{Lent, Lacks}
use Rattle.site_store.specs.Written.{AllKeep, StaysOrKeeps}

-- The disks of a run. The topology's keeps what was asked, whatever a stop leaves of it, and its old records. What a stop
-- may leave of each other disk stands for what it might have left of it in the store. Of a disk that wasn't taken it leaves
-- nothing new.
pub record IsOut {D : Type 0} (asked : Topology) (left : D → List ℕ → Type 0) (before after : DiskName → List ℕ → Type 0) (topology : Lent D) (others : List (Lent D)) : Type 0 where
  pub keeps : AllKeep asked (left topology.disk)
  pub grown : GoesOn (before topology.name) (left topology.disk)
  pub stay : Each (λ l. StaysAs (before l.name) (left l.disk)) others
  pub in_store : (name : DiskName) → Lacks (topology ∷ others) name → Within (before name) (after name)

-- each disk but the topology's stands for nothing new, and the topology's for nothing new but what was asked
pub record StayOrAsked (asked : Topology) (before after : DiskName → List ℕ → Type 0) : Type 0 where
  pub topology : StaysOrKeeps (before name.Topology) asked (after name.Topology)
  pub others : (disk : DiskName) → disk ≢ name.Topology → StaysAs (before disk) (after disk)

-- the setting has the asked topology
pub record IsAsked (asked : Topology) (g : Setting) : Type 0 where
  pub joiners : g.config.joiners ≡ asked.joiners
  pub table : g.config.table ≡ asked.table
