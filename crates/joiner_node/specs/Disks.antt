-- A joiner's two disks: its epochs are on one of them, and the pairs that it wrote on the other.
use Rattle.std.specs.Prelude.{◌≡◌, ◌⊎◌, ℕ, ◌+◌, ◌-◌, ◌^◌, min, Bool, true, false, not, ◌&&◌, ◌==◌, List, length}
use Rattle.joiner_node.specs.Terms.{Throughout, Ready, PairRec, JoinerKept, MeetsStops, OfBoth, Numbered, joiner_rows, numbered, note_of, IsWritten, JoinerNote}
use Rattle.outside.specs.Plans.{AtMost}
use Rattle.outside.specs.declared.disk.Disk as disk
use Rattle.gate_journal.specs.Disk.{HasRoom}
use Rattle.gate_journal.specs.Growth.{Continues}
use Rattle.gate_journal.specs.declared.journal.JournalState.{JournalState}
use Rattle.epoch_journal.specs.Epochs as epochs
use Rattle.output_log.specs.Pairs as pairs
use Rattle.output_log.specs.declared.pair.TheConstants.{LONGEST}
use Rattle.joiner_core.specs.declared.turn.JoinerNote.TheVariants as notes
use Rattle.joiner_node.specs.Joining.{takes_note}
use Rattle.joiner_node.specs.declared.disks.Disks.{Disks}

-- the bytes of the epochs' disk, and those of the pairs'
abbrev pub Contents : Type 0
Contents = List ℕ × List ℕ

-- the bytes are those of disks that hold these records
abbrev pub OnDisks : Numbered JoinerKept → Contents → Type 0
OnDisks k c = epochs.Keeps k.disk.epoch c.0 × pairs.Keeps k.disk.pairs c.1

-- each disk may hold what k has of it, or what m has
abbrev pub EpochOr : JoinerKept → JoinerKept → List ℕ → Type 0
EpochOr k m c = epochs.KeepsOr k.epoch m.epoch c

abbrev pub PairsOr : JoinerKept → JoinerKept → List ℕ → Type 0
PairsOr k m c = pairs.Keeps k.pairs c ⊎ pairs.Keeps m.pairs c

-- how many pairs these are, as far as a word of 64 bits counts
abbrev pub counted : List PairRec → ℕ
counted ps = min (length ps) (2 ^ 64 - 1)

-- whether the epoch or the count is another than before
abbrev pub has_more : (epoch before written had : ℕ) → Bool
has_more epoch before written had = not ((epoch == before) && (written == had))

-- the records with this note
abbrev pub with_note : JoinerNote → Numbered JoinerKept → Numbered JoinerKept
with_note n k = (numbered joiner_rows).lands (note_of n) k

abbrev pub can_append : JournalState → Bool
can_append Ready = true
can_append _ = false

module _ {D : Type 0} {d : disk.Ghosts D} where
  -- both journals can be appended to
  abbrev pub is_ready : Disks D d → Bool
  is_ready r = can_append r.epochs.journal.state && can_append r.log.state

  -- what a stop now may leave of each disk, and of both; and of both since an earlier moment
  abbrev pub image_of_epochs : Disks D d → List ℕ → Type 0
  image_of_epochs r = d.image r.epochs.journal.disk

  abbrev pub image_of_log : Disks D d → List ℕ → Type 0
  image_of_log r = d.image r.log.disk

  abbrev pub image : Disks D d → Contents → Type 0
  image r c = image_of_epochs r c.0 × image_of_log r c.1

  abbrev pub since : Disks D d → Disks D d → Contents → Type 0
  since old new c = d.since old.epochs.journal.disk new.epochs.journal.disk c.0 × d.since old.log.disk new.log.disk c.1

  -- whatever a stop leaves, the records begin with those of what a stop might have left before
  abbrev pub HasGrown : Disks D d → Disks D d → Type 0
  HasGrown old new = ((c : List ℕ) → image_of_epochs new c → Continues (image_of_epochs old) c) × ((c : List ℕ) → image_of_log new c → Continues (image_of_log old) c)

  -- how many faults the disks have met, and how many stops of them are planned still
  abbrev pub faults : Disks D d → ℕ
  faults r = d.faults r.epochs.journal.disk + d.faults r.log.disk

  abbrev pub StopsLeft : Disks D d → ℕ → Type 0
  StopsLeft r = OfBoth (AtMost (d.stops r.epochs.journal.disk) (d.made r.epochs.journal.disk)) (AtMost (d.stops r.log.disk) (d.made r.log.disk))

  abbrev pub Meets : Bool → Disks D d → Disks D d → Type 0
  Meets met old new = MeetsStops met (StopsLeft old) (StopsLeft new) (faults old) (faults new)

  -- the journals have what they had, and can be appended to as before
  pub record IsSame (old new : Disks D d) : Type 0 where
    pub epoch : new.epochs.value.epoch ≡ old.epochs.value.epoch
    pub written : new.written ≡ old.written
    pub states : (new.epochs.journal.state ≡ old.epochs.journal.state) × (new.log.state ≡ old.log.state)

  -- nothing but room was made
  pub record IsCalm (old new : Disks D d) : Type 0 where
    pub same : IsSame old new
    pub epochs : Throughout d.image d.since old.epochs.journal.disk new.epochs.journal.disk (image_of_epochs old)
    pub pairs : Throughout d.image d.since old.log.disk new.log.disk (image_of_log old)

  -- the epoch and the count are those of these records
  pub record HasReached (r : Disks D d) (k : JoinerKept) : Type 0 where
    pub epoch : r.epochs.value.epoch ≡ k.epoch
    pub written : r.written ≡ counted k.pairs

  -- the journals have these records, and so has whatever a stop leaves
  pub record Holds (r : Disks D d) (k : Numbered JoinerKept) : Type 0 where
    pub reached : HasReached r k.disk
    pub epochs : (c : List ℕ) → image_of_epochs r c → epochs.Keeps k.disk.epoch c
    pub pairs : (c : List ℕ) → image_of_log r c → pairs.Keeps k.disk.pairs c

  -- the journals had these records, and whatever a stop leaves has them, or those with a note more
  pub record Doubts (r : Disks D d) (k with : Numbered JoinerKept) : Type 0 where
    pub reached : HasReached r k.disk
    pub note : JoinerNote
    pub next : takes_note k.disk.epoch (note_of note) ≡ true
    pub with_is : with ≡ with_note note k
    pub epochs : (c : List ℕ) → image_of_epochs r c → EpochOr k.disk (with_note note k).disk c
    pub pairs : (c : List ℕ) → image_of_log r c → PairsOr k.disk (with_note note k).disk c

  -- what is left of the disks' room is enough to write the note
  abbrev pub HasRoomFor : Disks D d → JoinerNote → Type 0
  HasRoomFor r (notes.Epoch e) = HasRoom (d.calls_left r.epochs.journal.disk) (d.bytes_left r.epochs.journal.disk) 5
  HasRoomFor r (notes.Pair p) = HasRoom (d.calls_left r.log.disk) (d.bytes_left r.log.disk) LONGEST

  -- the note can come next, and there is room for it
  pub record MayAppend (r : Disks D d) (n : JoinerNote) : Type 0 where
    pub ready : (r.epochs.journal.state ≡ Ready) × (r.log.state ≡ Ready)
    pub next : takes_note r.epochs.value.epoch (note_of n) ≡ true
    pub spelled : IsWritten n
    pub room : HasRoomFor r n
