-- The kinds of journal by the names of their disks.
use Rattle.std.specs.Prelude.{◌≡◌, ℕ, List, Err, Option, None, Some}
use Rattle.site_store.specs.Terms.{DiskName, IsOutputDamaged, IsTopologyDamaged, Topology, epoch_of, offset_of, pending_of}
use Rattle.outside.specs.declared.store.DiskName.TheVariants as name
use Rattle.output_log.specs.Votes.{IsDamagedAt as IsVotesDamaged}

-- a file under this name is damaged at this place, as its kind of journal reads it
abbrev pub damaged_by : DiskName → List ℕ → ℕ → Type 0
damaged_by name.Topology bytes at = IsTopologyDamaged bytes at
damaged_by (name.Offset site) bytes at = offset_of bytes ≡ Err at
damaged_by (name.Retry site) bytes at = pending_of bytes ≡ Err at
damaged_by (name.Server site) bytes at = epoch_of bytes ≡ Err at
damaged_by (name.Replica replica) bytes at = IsVotesDamaged bytes at
damaged_by (name.Epoch site joiner) bytes at = epoch_of bytes ≡ Err at
damaged_by (name.Output site joiner) bytes at = IsOutputDamaged bytes at

-- how many joiners a site has: the kept number, or the asked one where none is kept
abbrev pub joiners_kept : Option Topology → ℕ → ℕ
joiners_kept None asked = asked
joiners_kept (Some t) asked = t.joiners
