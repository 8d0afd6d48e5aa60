-- What the end of a run makes of its nodes and disks.
use Rattle.std.specs.Prelude.{◌≡◌, ◌≢◌, ℕ, suc, List, [], ◌∷◌, Bool, false, IsTrue, Option, None, Some, filter}
use Rattle.site_run.specs.Terms.{Config, Each, EachWith, Lent, NodeFault, RunFault, TopologyDisk, is_output, is_replica, or_else}
use Rattle.site_run.specs.Causes.{of_node}

-- ---- the fault that is told: that of the first node which has one

abbrev pub told_of : Config → ℕ → Option NodeFault → Option RunFault
told_of config number None = None
told_of config number (Some f) = Some (of_node config number f)

-- of these nodes, the first of which has this number
abbrev pub first_fault : {N : Type 0} → Config → ℕ → List (N × Option NodeFault) → Option RunFault
first_fault config number [] = None
first_fault config number (n ∷ ns) = or_else (told_of config number n.1) (first_fault config (suc number) ns)

-- ---- what is read back

-- the replicas' disks among these, and the outputs
abbrev pub lent_replicas : {D : Type 0} → List (Lent D) → List (Lent D)
lent_replicas disks = filter (λ d. is_replica d.name) disks

abbrev pub lent_outputs : {D : Type 0} → List (Lent D) → List (Lent D)
lent_outputs disks = filter (λ d. is_output d.name) disks

-- these disks are up, but for the topology's, which isn't read
abbrev pub AreUp : {D : Type 0} → (D → Bool) → List (Lent D) → Type 0
AreUp is_down disks = Each (λ l. l.name ≢ TopologyDisk → is_down l.disk ≡ false) disks

-- a list for each disk, in order: an image of the disk keeps it
abbrev pub AreKeptIn : {D V : Type 0} → Bool → (D → List ℕ → Type 0) → (List V → List ℕ → Type 0) → List (Lent D) → List (List V) → Type 0
AreKeptIn {D} tells image keeps disks lists = EachWith (λ (d : Lent D) items. IsTrue tells → (c : List ℕ) × image d.disk c × keeps items c) disks lists
