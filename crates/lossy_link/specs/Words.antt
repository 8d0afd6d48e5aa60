-- The words of a plan.
use Rattle.std.specs.Prelude.{ℕ, Option, Some, None, if◌then◌else◌, codes}
use Rattle.std.specs.Str.{bytes_eq}
use Rattle.lossy_link.specs.declared.plan.Kind.{Kind}
use Rattle.lossy_link.specs.declared.plan.Kind.TheVariants as kind
use Rattle.lossy_link.specs.declared.plan.Fate.{Fate}
use Rattle.lossy_link.specs.declared.plan.Fate.TheVariants as fate
use Rattle.lossy_link.specs.declared.plan.DiskKind.{DiskKind}
use Rattle.lossy_link.specs.declared.plan.DiskKind.TheVariants as disk
use Rattle.outside.specs.declared.image.Image.{Image}
use Rattle.outside.specs.declared.image.Image.TheVariants as image
use Rattle.lossy_link.specs.Members.{Text}

-- one kind of node, or any
abbrev pub kind_of : Text → Option (Option Kind)
kind_of t = if bytes_eq t (codes "any") then Some None
    else (if bytes_eq t (codes "dispatcher") then Some (Some kind.Dispatcher)
    else (if bytes_eq t (codes "joiner") then Some (Some kind.Joiner)
    else (if bytes_eq t (codes "server") then Some (Some kind.Server)
    else (if bytes_eq t (codes "replica") then Some (Some kind.Replica) else None))))

-- a dropped packet has no delay
abbrev pub fate_of : ℕ → Text → Option Fate
fate_of delay t = if bytes_eq t (codes "drop") then Some fate.Drop
    else (if bytes_eq t (codes "twice") then Some (fate.Twice delay)
    else (if bytes_eq t (codes "late") then Some (fate.Late delay) else None))

abbrev pub disk_of : Text → Option DiskKind
disk_of t = if bytes_eq t (codes "offset") then Some disk.Offset
    else (if bytes_eq t (codes "retry") then Some disk.Retry
    else (if bytes_eq t (codes "server") then Some disk.Server
    else (if bytes_eq t (codes "replica") then Some disk.Replica
    else (if bytes_eq t (codes "epoch") then Some disk.Epoch
    else (if bytes_eq t (codes "output") then Some disk.Output else None)))))

abbrev pub image_of : Text → Option Image
image_of t = if bytes_eq t (codes "old") then Some image.Old
    else (if bytes_eq t (codes "new") then Some image.New
    else (if bytes_eq t (codes "noise") then Some image.Noise else None))
