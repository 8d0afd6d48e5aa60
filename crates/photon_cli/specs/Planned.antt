-- The stops that a plan has for a disk.
use Rattle.std.specs.Prelude.{ℕ, ◌+◌, ◌*◌, ◌==◌, ◌&&◌, nat_lt, Bool, true, false, if◌then◌else◌, List, map, filter, Option, Some, None}
use Rattle.photon_cli.specs.Terms.{AtMost, DiskKind, DiskName, Epoch, Fuse, Offset, Output, PlanStop, Replica, Retry, Server, is_planned}
use Rattle.outside.specs.declared.store.DiskName.TheVariants as name
use Rattle.photon_cli.specs.declared.engine.run.TheConstants.{REPLICAS}

abbrev pub same_kind : DiskKind → DiskKind → Bool
same_kind Offset Offset = true
same_kind Retry Retry = true
same_kind Server Server = true
same_kind Replica Replica = true
same_kind Epoch Epoch = true
same_kind Output Output = true
same_kind _ _ = false

-- the kind of a disk with its number among those of the kind, the first site's before the second's. The topology's
-- disk has none, and none has a disk that a run with so many joiners a site doesn't have.
abbrev pub place_of : (joiners : ℕ) → DiskName → Option (DiskKind × ℕ)
place_of joiners name.Topology = None
place_of joiners (name.Offset site) = if nat_lt site 2 then Some (Offset, site) else None
place_of joiners (name.Retry site) = if nat_lt site 2 then Some (Retry, site) else None
place_of joiners (name.Server site) = if nat_lt site 2 then Some (Server, site) else None
place_of joiners (name.Replica replica) = if nat_lt replica REPLICAS then Some (Replica, replica) else None
place_of joiners (name.Epoch site joiner) = if nat_lt site 2 && nat_lt joiner joiners then Some (Epoch, site * joiners + joiner) else None
place_of joiners (name.Output site joiner) = if nat_lt site 2 && nat_lt joiner joiners then Some (Output, site * joiners + joiner) else None

-- a stop without a number names all
abbrev pub named_by : Option ℕ → ℕ → Bool
named_by None number = true
named_by (Some which) number = which == number

-- a disk at this place is of the kind and named
abbrev pub is_at : DiskKind → (which : Option ℕ) → Option (DiskKind × ℕ) → Bool
is_at kind which None = false
is_at kind which (Some place) = same_kind kind place.0 && named_by which place.1

-- a stop is for the disk of this name
abbrev pub is_for : (joiners : ℕ) → PlanStop → DiskName → Bool
is_for joiners stop name = is_at stop.disk stop.which (place_of joiners name)

abbrev pub fuse_of : PlanStop → Fuse
fuse_of stop = record { call = stop.call; image = stop.image }

-- the calls of a disk that the stops name, in their order
abbrev pub planned_for : (joiners : ℕ) → List PlanStop → DiskName → List Fuse
planned_for joiners stops name = map fuse_of (filter (λ stop. is_for joiners stop name) stops)

-- at most so many calls of the disk of a name are planned to fail
abbrev pub StopsAtMost : (joiners : ℕ) → List PlanStop → DiskName → ℕ → Type 0
StopsAtMost joiners stops name most = AtMost (is_planned (planned_for joiners stops name)) 0 most

-- a stop is for a joiner's disks
abbrev pub of_joiners : DiskKind → Bool
of_joiners Epoch = true
of_joiners Output = true
of_joiners _ = false

abbrev pub is_joiners : PlanStop → Bool
is_joiners stop = of_joiners stop.disk
