-- A replica's core that is up or down, beside the notes that its journal keeps.
use Rattle.std.specs.Prelude.{◌≡◌, List, Bool, true, false, Option, Some, None, IfSome, OnSome}
use Rattle.replica_node.specs.Terms.{Each, IsNote, IsVoted, ReplicaKept, ReplicaNote, Voted, kept_of, land, land_replica, note_view}
use Rattle.replica_node.specs.Core.{Stands, GoesOn, HasRoomIn, noted}
use Rattle.replica_node.specs.declared.turn.Change.{Change}
use Rattle.replica_node.specs.declared.replica_core.ReplicaCore.{ReplicaCore}

-- what contracts see of a voter
pub record VoterView : Type 0 where
  pub core : ReplicaCore
  pub notes : List ReplicaNote
  pub up : Bool

-- up, its core stands for what the disk holds; down, its notes are those
abbrev pub KnowsAs : Bool → ReplicaCore → List ReplicaNote → ReplicaKept → Option (Unit {0}) → Type 0
KnowsAs true core notes k (Some l) = Stands core k
KnowsAs false core notes k None = kept_of notes ≡ k
KnowsAs _ core notes k _ = ⊥

abbrev pub Knows : VoterView → ReplicaKept → Option (Unit {0}) → Type 0
Knows v k live = KnowsAs v.up v.core v.notes k live

-- there are notes with spellings that the core stands for
pub record IsSpelledCore (core : ReplicaCore) : Type 0 where
  pub kept : ReplicaKept
  pub stands : Stands core kept
  pub spelled : Each IsVoted kept.notes

-- the turn can be kept: there is room for its note, which has a spelling, as have the notes that its change goes on from
pub record CanKeep (core : ReplicaCore) (said : Option ReplicaNote) (change : Change) : Type 0 where
  pub room : OnSome said (HasRoomIn core change)
  pub note : IfSome said IsNote
  pub kept : ReplicaKept
  pub goes_on : GoesOn core change kept
  pub spelled : Each IsVoted kept.notes

-- kept, it makes these notes
pub record Makes (core : ReplicaCore) (said : Option ReplicaNote) (change : Change) (k : ReplicaKept) : Type 0 where
  pub was : ReplicaKept
  pub goes_on : GoesOn core change was
  pub is : k ≡ land land_replica (noted said) was

-- the kept notes, with one more behind them
abbrev pub with_note : ReplicaKept → ReplicaNote → ReplicaKept
with_note k n = land_replica (Voted (note_view n)) k
