-- What the program tells on standard error.
use Rattle.std.specs.Prelude.{ℕ, ◌≡◌, ◌⊎◌, List, ◌++◌, Bool, IsTrue, Option, IfSome, IsSomeAnd, ⊤}
use Rattle.photon_cli.specs.Terms.{BulkValues, Images, IsCauseOf, IsFirstBad, NamesFailed, RefusesClick, RunFault, RunLog, Setting, Text, Values, message, status_of}
use Rattle.photon_cli.specs.Drill.{IsBadIn}
use Rattle.photon_cli.specs.Causes.{HasCauseInVerify, IsOverLog}
use Rattle.photon_cli.specs.Join.{IsAsked, Refuses}
use Rattle.photon_cli.specs.LogFaults.{IsNamedBy, OfClicks}

-- nothing is told at status 0, else the text of a fault of this status that is named so
abbrev pub TellsBy : (RunFault → Type 0) → ℕ → List ℕ → List ℕ → Type 0
TellsBy named status old new = ((status ≡ 0) × (new ≡ old)) ⊎ ((f : RunFault) × (status ≡ status_of f) × named f × (new ≡ old ++ message f))

-- Here told says what bytes are under a name.
module _ (told : List ℕ → Option (List ℕ)) where
  -- Of a join: a fault that names a line names the first that is refused, and one that names a row the table's first bad one. It
  -- has no plan, and adds no row.
  abbrev pub IsNamed : Values → RunFault → Type 0
  IsNamed v = IsNamedBy (IsFirstBad v.nodes.shards) (λ place. ⊥) (Refuses told v.queries v.clicks) (λ log. ⊤) ⊥

  -- and where the disks tell what they hold it has its cause, whatever setting the values ask for, and what it names has failed by the history
  -- of a run that began
  abbrev pub IsToldOf : Values → (disks : Bool) → Images → (files faulted unrun : Type 0) → Option RunLog → RunFault → Type 0
  IsToldOf v disks before files faulted unrun ran f =
      IsNamed v f × (IsTrue disks → (g : Setting) → IsAsked told v g → IsCauseOf g before files faulted f × (unrun ⊎ IfSome ran (λ l. NamesFailed g l.air.history l.opened f)))

  -- the same of a drill, and one that names a place of the plan names its first bad one
  abbrev pub IsNamedInDrill : Values → Text → RunFault → Type 0
  IsNamedInDrill v file = IsNamedBy (IsFirstBad v.nodes.shards) (IsBadIn told file) (Refuses told v.queries v.clicks) (λ log. ⊤) ⊤

  -- of a verification, which has neither a table, nor a plan, nor queries
  abbrev pub IsNamedInVerify : Text → RunFault → Type 0
  IsNamedInVerify clicks = IsNamedBy (λ row. ⊥) (λ place. ⊥) (λ log bad. OfClicks (IsSomeAnd (told clicks) (λ bytes. RefusesClick bytes bad)) log) (OfClicks ⊤) ⊥

  -- and where the disks tell what they hold it has its cause, whatever setting is over the log
  abbrev pub IsToldOfVerify : Text → (disks : Bool) → Images → (files faulted : Type 0) → RunFault → Type 0
  IsToldOfVerify clicks disks before files faulted f = IsNamedInVerify clicks f × (IsTrue disks → (g : Setting) → IsOverLog told clicks g → HasCauseInVerify g before files faulted f)

-- of a bulk run, which reads no file
abbrev pub IsNamedInBulk : BulkValues → RunFault → Type 0
IsNamedInBulk v = IsNamedBy (IsFirstBad v.nodes.shards) (λ place. ⊥) (λ log bad. ⊥) (λ log. ⊤) ⊥
