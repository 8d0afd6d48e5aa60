-- Nodes in the making: what those to come are made of.
use Rattle.std.specs.Prelude.{◌≡◌, ◌<◌, ◌≤◌, ℕ, suc, ◌+◌, ◌-◌, ◌*◌, ◌++◌, Bool, IsTrue, Option, IfSome, List, [], length, map, vec_capacity}
use Rattle.std.specs.List.Sorted.{IsPermutation}
use Rattle.site_run.specs.Terms.{AreKeptPlaces, AreRecordsOf, Config, DiskName, Disks, EpochDisk, IsRunnable, Lent, LentDisk, Mem, OffsetDisk, OpenView, OutputDisk, ReplicaDisk, RetryDisk, ServerDisk, Setting, TopologyDisk, kept_all, lent_all, option_or_else, other_names}
use Rattle.outside.specs.declared.disk.Disk as disk
use Rattle.outside.specs.declared.log.LogFile as log
use Rattle.site_run.specs.Asked.{AreLogsOf}
use Rattle.site_run.specs.AnyNodes.{AnyState}
use Rattle.site_run.specs.Heard.{kinds_of}
use Rattle.site_run.specs.Naming.{as_lent, count_of, place_of}
use Rattle.site_run.specs.Placed.{IsDownAt, IsUpAt}
use Rattle.site_run.specs.declared.built.logs.Logs.{Logs}
use Rattle.site_run.specs.declared.built.stock.Stock.{Stock}
use Rattle.site_run.specs.declared.built.parts.Room.{Room}

-- the kinds of all nodes, room for the nodes, and for what they are made of: two disks and a log a node, and the topology's disk
pub record IsRoomFor {D L N : Type 0} (config : Config) (room : Room D L N) : Type 0 where
  pub kinds : room.kinds.items ≡ kinds_of config.joiners config.replicas
  pub nodes : (room.nodes.items ≡ []) × (count_of config ≤ vec_capacity room.nodes)
  pub disks : (room.parts.disks.items ≡ []) × (2 * count_of config < vec_capacity room.parts.disks)
  pub logs : (room.parts.logs.items ≡ []) × (count_of config ≤ vec_capacity room.parts.logs)

-- a log for each node that reads one
pub record AreEnough {L : Type 0} (joiners : ℕ) (logs : Logs L) : Type 0 where
  pub clicks : length logs.clicks.items ≡ 2
  pub queries : length logs.queries.items ≡ 2 * joiners

-- a run starts over the logs of the setting, and over open disks that keep these records of its nodes
pub record IsStart {D L : Type 0} (bytes : L → List ℕ) (clicks queries : List L) (rest : List (OpenView D)) (config : Config) (g : Setting) (d : Disks) : Type 0 where
  pub logs : AreLogsOf bytes clicks queries config g
  pub records : AreRecordsOf g (kept_all rest) d
  pub places : (s : ℕ) → s < 2 → AreKeptPlaces g (d.dispatchers s)

-- the number of the node that has the disk of this name
abbrev pub number_of : Config → DiskName → ℕ
number_of config TopologyDisk = 0
number_of config (OffsetDisk s) = s
number_of config (RetryDisk s) = s
number_of config (ServerDisk s) = 2 + s
number_of config (ReplicaDisk r) = 4 + r
number_of config (EpochDisk s j) = 4 + config.replicas + s * config.joiners + j
number_of config (OutputDisk s j) = 4 + config.replicas + s * config.joiners + j

-- how many disks and logs the nodes from this number on have
abbrev pub disks_from : Config → ℕ → ℕ
disks_from config number = 2 * (2 - number) + (2 - (number - 2)) + (config.replicas - (number - 4)) + 2 * (2 * config.joiners - place_of config number)

abbrev pub clicks_from : ℕ → ℕ
clicks_from number = 2 - number

abbrev pub queries_from : Config → ℕ → ℕ
queries_from config number = 2 * config.joiners - place_of config number

-- the open disks and the logs of nodes to come, and disks and logs apart
pub record StockView (D L : Type 0) : Type 0 where
  pub config : Config
  pub rest : List (OpenView D)
  pub clicks : List L
  pub queries : List L
  pub disks : List (LentDisk D)
  pub logs : List L

abbrev pub view_of : {D L : Type 0} {d : disk.Ghosts D} {l : log.Ghosts L} → Stock D L d l → StockView D L
view_of m = record { config = m.config; rest = m.rest.items; clicks = m.logs.clicks.items; queries = m.logs.queries.items; disks = m.parts.disks.items; logs = m.parts.logs.items }

module _ {D L : Type 0} where
  -- what the nodes from this number on are made of is there, and nothing else
  pub record AreFrom (number : ℕ) (l : StockView D L) : Type 0 where
    pub ranges : IsRunnable l.config
    pub there : (n : DiskName) → Mem n (other_names l.config.joiners l.config.replicas) → number ≤ number_of l.config n → Mem n (map (λ (o : OpenView D). o.name) l.rest)
    pub disks : length l.rest ≡ disks_from l.config number
    pub clicks : length l.clicks ≡ clicks_from number
    pub queries : length l.queries ≡ queries_from l.config number
    pub none : (l.disks ≡ []) × (l.logs ≡ [])

  -- all disks, each under its name, and all logs
  abbrev pub disks_in : StockView D L → List (Lent D)
  disks_in l = map as_lent l.disks ++ lent_all l.rest

  abbrev pub logs_in : StockView D L → List L
  logs_in l = l.logs ++ (l.clicks ++ l.queries)

module _ {N D L : Type 0} (number : N → ℕ) (waits : N → Bool) (places : N → AnyState → Type 0) (disks_of : Config → ℕ → N → List (Lent D)) (logs_of : N → List L) (tells : Bool) (bytes : L → List ℕ) where
  -- The node of this number is made of its own disks and logs, down over what they keep; or it isn't, and they are put apart.
  pub record Makes (i : ℕ) (old : StockView D L) (made : Option N) (new : StockView D L) : Type 0 where
    pub config : new.config ≡ old.config
    pub left : IfSome made (λ _. AreFrom (suc i) new)
    pub few : (length new.disks ≤ 2) × (length new.logs ≤ 1)
    pub up : IfSome made (IsUpAt number waits i)
    pub over : IsTrue tells → (g : Setting) (d : Disks) → IsStart bytes old.clicks old.queries old.rest old.config g d
        → IsStart bytes new.clicks new.queries new.rest new.config g d × IfSome made (IsDownAt places g d i)
    pub disks : IsPermutation (disks_in old) (option_or_else [] (disks_of old.config i) made ++ disks_in new)
    pub logs : IsPermutation (logs_in old) (option_or_else [] logs_of made ++ logs_in new)
