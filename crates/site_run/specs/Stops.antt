-- The stops that are planned for the disks of a run's nodes, and those that its history has.
use Rattle.std.specs.Prelude.{◌≡◌, ◌≢◌, ℕ, ◌+◌, ◌≤◌, List, [], ◌∷◌, Bool, false, Option, IfSome, Result, IfErr}
use Rattle.site_run.specs.Terms.{BusEntry, Config, DiskName, Each, IsNode, Lent, Node, RunFault, Setting, StorePlace, made_by, node_number, stop_count}
use Rattle.outside.specs.Plans.{AtMost}
use Rattle.run_fault.specs.declared.fault.RunFault.TheVariants as fault
use Rattle.site_run.specs.Naming.{names_of}
use Rattle.site_run.specs.declared.ran.RunLog.{RunLog}

-- so many all in all, of each of these as many as it has
abbrev pub AllInAll : {A : Type 0} → (A → ℕ → Type 0) → List A → ℕ → Type 0
AllInAll has [] k = k ≡ 0
AllInAll has (x ∷ xs) k = (i : ℕ) × (j : ℕ) × has x i × AllInAll has xs j × (k ≡ i + j)

-- No node has stopped more often than was planned for its disks. Left says that at most so many stops were of a disk.
abbrev pub StopsAsPlanned : (left : DiskName → ℕ → Type 0) → Setting → List BusEntry → Type 0
StopsAsPlanned left g h = (n : Node) → IsNode g n → (k : ℕ) → AllInAll left (names_of g.config n) k → stop_count (made_by (node_number n) h) ≤ k

-- No disk's stop is met while it is opened, and of each node's disks at most one is planned.
pub record AreSpared (left : DiskName → ℕ → Type 0) (soon : DiskName → Type 0) (g : Setting) : Type 0 where
  pub late : (disk : DiskName) → soon disk → ⊥
  pub few : (n : Node) → IsNode g n → AllInAll left (names_of g.config n) 1

-- A run over a store of whose disks this is said, and whose count of faults stood so before it and stands so after it. Where it began it
-- stops its nodes as planned, where no stop is planned no disk meets a fault, and where nodes are spared it gives up for none of its disks.
pub record RunsAsPlanned {A : Type 0} (left : DiskName → ℕ → Type 0) (soon : DiskName → Type 0) (g : Setting) (ran : Option RunLog) (before after : ℕ) (result : Result A RunFault) : Type 0 where
  pub stops : IfSome ran (λ l. StopsAsPlanned left g l.air.history)
  pub calm : ((disk : DiskName) → left disk 0) → after ≡ before
  pub spared : AreSpared left soon g → IfErr result (λ f. (at : StorePlace) → f ≢ fault.Store at)

-- The stops that are left to a node are those of its disks, and it met faults where they did. Where it isn't waiting they are up.
pub record ArePlanned {N D : Type 0} (stops : D → ℕ → Bool) (made disk_faults : D → ℕ) (is_down : D → Bool) (stops_left : N → ℕ → Type 0) (faults : N → ℕ) (waits : N → Bool) (disks_of : Config → ℕ → N → List (Lent D)) : Type 0 where
  pub left : (config : Config) (number k : ℕ) (v : N) → AllInAll (λ l. AtMost (stops l.disk) (made l.disk)) (disks_of config number v) k → stops_left v k
  pub none : (config : Config) (number : ℕ) (v : N) → Each (λ l. disk_faults l.disk ≡ 0) (disks_of config number v) → faults v ≡ 0
  pub calm : (config : Config) (number : ℕ) (v : N) → faults v ≡ 0 → Each (λ l. disk_faults l.disk ≡ 0) (disks_of config number v)
  pub up : (config : Config) (number : ℕ) (v : N) → waits v ≡ false → Each (λ l. is_down l.disk ≡ false) (disks_of config number v)
