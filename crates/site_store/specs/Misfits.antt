-- Why opened disks can't be run as asked.
use Rattle.std.specs.Prelude.{◌≡◌, ◌≢◌, List, [], ◌∷◌, ◌==◌, Bool, ◌||◌, if◌then◌else◌, Option, None, Some, ⊤}
use Rattle.std.specs.List.{list_any}
use Rattle.site_store.specs.Terms.{DiskName, LAST_EPOCH, ReplicaNote, RunFault, Topology}
use Rattle.turn_defs.specs.declared.limits.TheConstants.{LAST_SLOT}
use Rattle.paxos_acceptor.specs.declared.notes.ReplicaNote.TheVariants.{Promised, Accepted}
use Rattle.site_store.specs.Records.{Kept, EpochIs, NotesAre, KeptDisk}
use Rattle.run_fault.specs.declared.fault.Mismatch.TheVariants as mismatch
use Rattle.run_fault.specs.declared.fault.RunFault.TheVariants as fault

-- nothing else than the asked topology is kept
abbrev pub IsFit : Option Topology → Topology → Type 0
IsFit kept asked = (t : Topology) → kept ≡ Some t → t ≡ asked

-- a topology is kept with another number of joiners, or with the same one and another table, and both are told
abbrev pub IsMisfit : Option Topology → Topology → RunFault → Type 0
IsMisfit kept asked (fault.Topology (mismatch.Joiners old new)) = (t : Topology) × (kept ≡ Some t) × (old ≡ t.joiners) × (new ≡ asked.joiners) × (t.joiners ≢ asked.joiners)
IsMisfit kept asked (fault.Topology (mismatch.Table old new)) = (t : Topology) × (kept ≡ Some t) × (t.joiners ≡ asked.joiners) × (old ≡ t.table) × (new ≡ asked.table) × (t.table ≢ asked.table)
IsMisfit kept asked _ = ⊥

-- where nothing is asked, whatever is kept fits
abbrev pub IsFitFor : Option Topology → Option Topology → Type 0
IsFitFor kept None = ⊤
IsFitFor kept (Some asked) = IsFit kept asked

-- a note of the last slot or the last round
abbrev pub is_full_note : ReplicaNote → Bool
is_full_note (Promised shard slot b) = (slot == LAST_SLOT) || (b.round == LAST_SLOT)
is_full_note (Accepted shard slot b v) = (slot == LAST_SLOT) || (b.round == LAST_SLOT)

-- a disk whose epoch is the last one, or that has such a note
abbrev pub limit_at : DiskName → Kept → Option RunFault
limit_at name (EpochIs epoch) = if epoch == LAST_EPOCH then Some (fault.Limit name LAST_EPOCH) else None
limit_at name (NotesAre notes) = if list_any is_full_note notes then Some (fault.Limit name LAST_SLOT) else None
limit_at name _ = None

abbrev pub or_else : Option RunFault → Option RunFault → Option RunFault
or_else None later = later
or_else (Some m) later = Some m

-- the first disk that is at its limit
abbrev pub limit_in : List KeptDisk → Option RunFault
limit_in [] = None
limit_in (d ∷ ds) = or_else (limit_at d.name d.kept) (limit_in ds)
