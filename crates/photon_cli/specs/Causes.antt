-- Why a verification gives up, by what a stop might have left of the disks before, and what they may have kept.
use Rattle.std.specs.Prelude.{◌≡◌, ◌≢◌, ℕ, List, true, Option, None, IsSomeAnd, ⊤}
use Rattle.photon_cli.specs.Terms.{HasCause, Images, IsLogOf, Kept, KeptValues, PlacesFit, RunFault, Setting, TellsPlaces, Text, asked_of, first_limit}
use Rattle.site_store.specs.Misfits.{IsFit}
use Rattle.site_store.specs.Causes.{HasPassed as PassesFor}
use Rattle.photon_cli.specs.declared.engine.run.TheConstants.{REPLICAS}

-- whatever the disks kept, no epoch, round or slot is at its limit
abbrev pub IsBelowLimits : Setting → Images → Type 0
IsBelowLimits g before = (k : KeptValues) → Kept g before k → first_limit k ≡ None

-- whatever they kept, one is
abbrev pub IsAtLimit : Setting → Images → Type 0
IsAtLimit g before = (k : KeptValues) → Kept g before k → first_limit k ≢ None

-- whatever they kept, another topology is kept than the setting's, or a place that doesn't fit its click log
abbrev pub IsMismatched : Setting → Images → Type 0
IsMismatched g before = (k : KeptValues) → Kept g before k → IsFit k.topology (asked_of g) → PlacesFit g k → ⊥

-- ---- of a verification

-- It asks for no joiners, so that a store without a topology has none, and reads as many replicas as any run has.
abbrev pub unasked : Setting → Setting
unasked g = record g { config = record g.config { joiners = 0; replicas = REPLICAS } }

-- the setting is over the clicks of this log
abbrev pub IsOverLog : (told : List ℕ → Option (List ℕ)) → Text → Setting → Type 0
IsOverLog told clicks g = IsSomeAnd (told clicks) (λ log. IsLogOf log g)

-- the disks kept values whose places fit the log, and no epoch, round or slot is at its limit
abbrev pub CanBeRead : Setting → Images → Type 0
CanBeRead g before = PassesFor true before REPLICAS None (TellsPlaces g)

-- whatever they kept, a place doesn't fit
abbrev pub AreMisplaced : Setting → Images → Type 0
AreMisplaced g before = (k : KeptValues) → Kept (unasked g) before k → PlacesFit g k → ⊥

-- why it gives up: as a run, but that no topology is asked for, and no node comes to its last epoch
abbrev pub HasCauseInVerify : Setting → Images → (read faulted : Type 0) → RunFault → Type 0
HasCauseInVerify g before read faulted f = HasCause true before REPLICAS None (TellsPlaces g) (λ log. read) (λ at. faulted) ⊥ ⊤ f
