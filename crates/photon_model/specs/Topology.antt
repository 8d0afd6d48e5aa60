-- The topology that a store is kept with, and a whole store with it.
use Rattle.std.specs.Prelude.{◌≡◌, ℕ, ◌<◌, Bool, true, false, List, [], Option, Some}
use Rattle.photon_model.specs.Terms.{IsJoiner, Setting, ShardRow}
use Rattle.photon_model.specs.Runs.{Disks}
use Rattle.photon_model.specs.Sound.{SoundStore}

pub record Topology : Type 0 where
  pub joiners : ℕ
  pub table : List ShardRow

abbrev pub topology_of : Setting → Topology
topology_of g = record { joiners = g.config.joiners; table = g.config.table }

-- the topology's record if there is one, what the other disks hold, and whether any of them has a record
pub record Store : Type 0 where
  pub topology : Option Topology
  pub disks : Disks
  pub is_used : Bool

-- what the disks hold where none has a record
pub record IsBlank (g : Setting) (d : Disks) : Type 0 where
  pub offset : (s : ℕ) → s < 2 → (d.dispatchers s).offset ≡ 0
  pub pending : (s : ℕ) → s < 2 → (d.dispatchers s).pending ≡ []
  pub server_epoch : (s : ℕ) → s < 2 → (d.servers s).epoch ≡ 0
  pub notes : (r : ℕ) → r < g.config.replicas → (d.replicas r).notes ≡ []
  pub joiner_epoch : (j : ℕ) → IsJoiner g j → (d.joiners j).epoch ≡ 0
  pub pairs : (j : ℕ) → IsJoiner g j → (d.joiners j).pairs ≡ []

-- The records are sound, and where any other disk has a record the topology's is that of the setting.
pub record WholeSound (g : Setting) (s : Store) : Type 0 where
  pub records : SoundStore g s.disks
  pub topology : s.is_used ≡ true → s.topology ≡ Some (topology_of g)
  pub blank : s.is_used ≡ false → IsBlank g s.disks
