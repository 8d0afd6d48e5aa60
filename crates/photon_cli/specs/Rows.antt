-- Worked places of disks, and worked stops.
use Rattle.std.specs.Prelude.{◌≡◌, ℕ, List, [], ◌∷◌, Option, Some, None}
use Rattle.outside.specs.declared.store.DiskName.TheVariants as name
use Rattle.photon_cli.specs.Terms.{DiskKind, Epoch, Output, PlanStop, Replica, Retry, Values}
use Rattle.outside.specs.declared.image.Image.{Image}
use Rattle.outside.specs.declared.image.Image.TheVariants.{Old, New, Noise}
use Rattle.photon_cli.specs.Planned.{place_of, planned_for}
use Rattle.photon_cli.specs.Drill.{SparesNodes}

pub record DisksArePlaced : Type 0 where
  pub one_joiner : place_of 1 (name.Output 1 0) ≡ Some (Output, 1)
  pub two_joiners : place_of 2 (name.Output 0 1) ≡ Some (Output, 1)
  pub first_of_second_site : place_of 2 (name.Epoch 1 0) ≡ Some (Epoch, 2)
  pub last_of_all : place_of 4 (name.Epoch 1 3) ≡ Some (Epoch, 7)
  pub second_site : place_of 4 (name.Retry 1) ≡ Some (Retry, 1)
  pub last_replica : place_of 1 (name.Replica 2) ≡ Some (Replica, 2)
  pub no_second_joiner : place_of 1 (name.Output 0 1) ≡ None
  pub no_third_site : place_of 4 (name.Server 2) ≡ None
  pub topology_alone : place_of 4 name.Topology ≡ None

abbrev pub stop_at : DiskKind → Option ℕ → ℕ → Image → PlanStop
stop_at disk which call image = record { disk = disk; which = which; call = call; image = image }

-- every output at its fourth call, the second epoch at its first, a replica twice, and a disk that no run has
abbrev pub some_stops : List PlanStop
some_stops = stop_at Output None 3 Noise ∷ stop_at Epoch (Some 1) 0 Old ∷ stop_at Replica (Some 2) 5 New ∷ stop_at Replica None 5 Old ∷ stop_at Output (Some 8) 0 Old ∷ []

pub record StopsArePlanned : Type 0 where
  pub each_output : planned_for 2 some_stops (name.Output 1 1) ≡ record { call = 3; image = Noise } ∷ []
  pub one_epoch : planned_for 2 some_stops (name.Epoch 0 1) ≡ record { call = 0; image = Old } ∷ []
  pub by_the_joiners : planned_for 1 some_stops (name.Epoch 1 0) ≡ record { call = 0; image = Old } ∷ []
  pub no_other_epoch : planned_for 2 some_stops (name.Epoch 1 0) ≡ []
  pub in_their_order : planned_for 2 some_stops (name.Replica 2) ≡ record { call = 5; image = New } ∷ record { call = 5; image = Old } ∷ []
  pub all_others : planned_for 2 some_stops (name.Replica 0) ≡ record { call = 5; image = Old } ∷ []
  pub none_of_the_topology : planned_for 2 some_stops name.Topology ≡ []

-- for one joiner a site
abbrev pub one_joiner : Values
one_joiner = record { queries = []; clicks = []; horizon = 0; nodes = record { joiners = 1; shards = []; batch = 1 } }

-- one for each of the second joiner's disks
abbrev pub two_stops : List PlanStop
two_stops = stop_at Epoch (Some 1) 3 Old ∷ stop_at Output None 9 New ∷ []

-- none, one of a call that opens a disk, and two of a node
pub record NodesAreSpared : Type 0 where
  pub no_stops : SparesNodes one_joiner []
  pub in_the_opening : SparesNodes one_joiner (stop_at Retry (Some 1) 2 Old ∷ []) → ⊥
  pub two_of_a_node : SparesNodes one_joiner two_stops → ⊥
