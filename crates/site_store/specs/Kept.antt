-- The places of the click log that the disks of both dispatchers keep, and the first of them that doesn't fit the log.
use Rattle.std.specs.Prelude.{◌≡◌, ℕ, List, [], ◌∷◌, ◌++◌, map, Option, None, Some, ⊤}
use Rattle.site_store.specs.Terms.{ClickLine, DiskName, Each, IsBoundary, Misplaced, Offset, Retry, at}
use Rattle.site_store.specs.Floors.{IsFloorOf}
use Rattle.site_store.specs.Records.{Kept, OffsetIs, PendingAre, KeptDisk}

-- a whole line starts at p
abbrev pub IsStart : List ClickLine → ℕ → Type 0
IsStart ls p = (l : ClickLine) × (at ls p ≡ Some l)

-- what a disk may keep: an offset where a line may start, a pending position where one does; other disks keep no places
abbrev pub FitsOn : List ClickLine → DiskName → ℕ → Type 0
FitsOn ls (Offset site) p = IsBoundary ls p
FitsOn ls (Retry site) p = IsStart ls p
FitsOn ls _ p = ⊤

-- a place that a disk keeps
pub record KeptPlace : Type 0 where
  pub disk : DiskName
  pub kept : ℕ

abbrev pub Fits : List ClickLine → KeptPlace → Type 0
Fits ls k = FitsOn ls k.disk k.kept

-- these places on a disk
abbrev pub on_disk : DiskName → List ℕ → List KeptPlace
on_disk disk places = map (λ p. record { disk = disk; kept = p }) places

-- the places that a disk keeps
abbrev pub places_at : DiskName → Kept → List KeptPlace
places_at disk (OffsetIs offset) = on_disk disk (offset ∷ [])
places_at disk (PendingAre positions) = on_disk disk positions
places_at disk _ = []

-- those of all disks, in order
abbrev pub all_kept : List KeptDisk → List KeptPlace
all_kept [] = []
all_kept (d ∷ ds) = places_at d.name d.kept ++ all_kept ds

-- the first of these places that doesn't fit, with its floor
pub record IsFirst (ls : List ClickLine) (places : List KeptPlace) (told : Misplaced) : Type 0 where
  pub before : List KeptPlace
  pub after : List KeptPlace
  pub order : places ≡ before ++ record { disk = told.disk; kept = told.kept } ∷ after
  pub fit : Each (Fits ls) before
  pub misfit : FitsOn ls told.disk told.kept → ⊥
  pub floor_is : IsFloorOf (FitsOn ls told.disk) told.kept told.floor

-- the first that doesn't fit is told, or all fit
abbrev pub IsTold : List ClickLine → List KeptPlace → Option Misplaced → Type 0
IsTold ls places None = Each (Fits ls) places
IsTold ls places (Some told) = IsFirst ls places told
