-- The disks of nodes, under their names.
use Rattle.std.specs.Prelude.{◌≡◌, ℕ, suc, ◌+◌, ◌-◌, ◌*◌, nat_lt, if◌then◌else◌, List, [], ◌∷◌, ◌++◌, Option, None, Some}
use Rattle.site_run.specs.Terms.{Clicks, Config, DiskName, Dispatcher, EpochDisk, Joiner, Lent, LentDisk, LogName, Node, OffsetDisk, OutputDisk, Queries, Replica, ReplicaDisk, RetryDisk, Server, ServerDisk}
use Rattle.site_workers.specs.FourKinds as one
use Rattle.site_workers.specs.declared.one_of.OneOf.{OneOf}

abbrev pub as_lent : {D : Type 0} → LentDisk D → Lent D
as_lent d = record { name = d.name; disk = d.disk }

-- how many nodes there are
abbrev pub count_of : Config → ℕ
count_of config = 4 + config.replicas + 2 * config.joiners

-- the place of a joiner's number among all joiners, its site, and its place there
abbrev pub place_of : Config → ℕ → ℕ
place_of config number = number - 4 - config.replicas

abbrev pub site_of : Config → ℕ → ℕ
site_of config number = if nat_lt (place_of config number) config.joiners then 0 else 1

abbrev pub joiner_of : Config → ℕ → ℕ
joiner_of config number = if nat_lt (place_of config number) config.joiners then place_of config number else place_of config number - config.joiners

-- the names of a node's disks
abbrev pub names_of : Config → Node → List DiskName
names_of config (Dispatcher s) = OffsetDisk s ∷ RetryDisk s ∷ []
names_of config (Server s) = ServerDisk s ∷ []
names_of config (Replica r) = ReplicaDisk r ∷ []
names_of config (Joiner j) = EpochDisk (site_of config j) (joiner_of config j) ∷ OutputDisk (site_of config j) (joiner_of config j) ∷ []

-- the log that a node reads
abbrev pub log_read : Node → Option LogName
log_read (Dispatcher s) = Some Clicks
log_read (Joiner j) = Some Queries
log_read _ = None

-- the disks that a node of each kind has
pub record DisksIn (D A B C E : Type 0) : Type 0 where
  pub offset : A → D
  pub retry : A → D
  pub server : B → D
  pub replica : C → D
  pub epochs : E → D
  pub outputs : E → D

-- they under the names that the node's number gives them
abbrev pub disks_by : {D A B C E : Type 0} → DisksIn D A B C E → Config → ℕ → OneOf A B C E → List (Lent D)
disks_by own config number =
    one.by (λ v. record { name = OffsetDisk number; disk = own.offset v } ∷ record { name = RetryDisk number; disk = own.retry v } ∷ []) (λ v. record { name = ServerDisk (number - 2); disk = own.server v } ∷ [])
    (λ v. record { name = ReplicaDisk (number - 4); disk = own.replica v } ∷ [])
    (λ v. record { name = EpochDisk (site_of config number) (joiner_of config number); disk = own.epochs v } ∷ record { name = OutputDisk (site_of config number) (joiner_of config number); disk = own.outputs v } ∷ [])

-- what each of these has by its place, the first of which is this
abbrev pub all_from : {N X : Type 0} → (ℕ → N → List X) → ℕ → List N → List X
all_from f i [] = []
all_from f i (n ∷ ns) = f i n ++ all_from f (suc i) ns

-- one of these was taken out
abbrev pub IsTakenFrom : {X : Type 0} → List X → X → List X → Type 0
IsTakenFrom {X} old one new = (front : List X) × (back : List X) × (old ≡ front ++ one ∷ back) × (new ≡ front ++ back)
