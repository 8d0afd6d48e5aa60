-- Laws on stores: the empty one, runs, longer logs, records that stay, and the topology.
use Rattle.std.specs.Prelude.{◌≡◌, ℕ, Bool, true, false, List, [], ◌++◌, Some, None}
use Rattle.photon_model.specs.Terms.{Begins, Checked, ClickRec, HoldsClicks, HoldsQueries, Insert, IsOver, Node, QueryRec, Setting, placed}
use Rattle.photon_model.specs.Sound.{Sound, SoundStore}
use Rattle.photon_model.specs.Topology.{Store, WholeSound, topology_of}
use Rattle.photon_model.specs.Runs.{World, Entry, Disks, disks, world_after, IsRun, opening}
use Rattle.photon_model.specs.Images.{image}

abbrev pub empty_disks : Disks
empty_disks =
    record {
      dispatchers = λ s. record { offset = 0; pending = [] };
      servers = λ s. record { epoch = 0 };
      replicas = λ r. record { notes = [] };
      joiners = λ j. record { epoch = 0; pairs = [] };
    }

abbrev pub empty_store : Store
empty_store = record { topology = None; disks = empty_disks; is_used = false }

-- a sound store is sound after every run
abbrev pub RunsKeepStores : Type 0
RunsKeepStores = (g : Setting) (d : Disks) (es : List Entry) → Checked g → SoundStore g d → IsRun g (opening d) es → SoundStore g (disks (world_after g (opening d) es))

-- what was drawn may be taken to be the inserts of accepted records alone
abbrev pub SoundCloses : Type 0
SoundCloses = (g : Setting) (d : Disks) (drawn : List Insert) → Sound g d drawn → SoundStore g d

-- the setting with the records of two logs
abbrev pub with_logs : Setting → List QueryRec → List ClickRec → Setting
with_logs g qs cs = record g { queries = qs; clicks = placed 0 cs }

-- two valid logs have a setting over them
abbrev pub ReadIsOver : Type 0
ReadIsOver =
    (g : Setting) (query_log click_log : List ℕ) (qs : List QueryRec) (cs : List ClickRec) → HoldsQueries query_log qs → HoldsClicks click_log cs → IsOver (with_logs g qs cs) query_log click_log

-- and logs that a setting is over have what the law asks of them
abbrev pub ReadIsChecked : Type 0
ReadIsChecked = (g : Setting) (query_log click_log : List ℕ) → IsOver g query_log click_log → Checked g

-- what two calls have in common: the topology, and the number of replicas
pub record IsOneTopology (g h : Setting) : Type 0 where
  pub joiners : g.config.joiners ≡ h.config.joiners
  pub table : g.config.table ≡ h.config.table
  pub replicas : g.config.replicas ≡ h.config.replicas

-- a later setting over the logs with more bytes at their ends; its horizon and the size of a batch may be others
pub record IsLonger (g h : Setting) (query_log click_log more_queries more_clicks : List ℕ) : Type 0 where
  pub before : IsOver g query_log click_log
  pub after : IsOver h (query_log ++ more_queries) (click_log ++ more_clicks)
  pub topology : IsOneTopology g h

-- a sound store stays so where both logs grow by bytes at their ends and stay valid
abbrev pub LongerKeepsStores : Type 0
LongerKeepsStores =
    (g h : Setting) (query_log click_log more_queries more_clicks : List ℕ) (d : Disks) → IsLonger g h query_log click_log more_queries more_clicks → SoundStore g d → SoundStore h d

-- no pair and no replica's record is lost, whatever entries follow
abbrev pub RecordsStay : Type 0
RecordsStay =
    (g : Setting) (w : World) (es : List Entry) →
    ((j : ℕ) → Begins (w.joiners j).kept.pairs ((world_after g w es).joiners j).kept.pairs) × ((r : ℕ) → Begins (w.replicas r).kept.notes ((world_after g w es).replicas r).kept.notes)

-- ---- whole stores

-- the topology's record may be written to a sound store that has none
abbrev pub TopologyComesFirst : Type 0
TopologyComesFirst = (g : Setting) (s : Store) → WholeSound g s → WholeSound g (record s { topology = Some (topology_of g) })

-- where the topology is kept, a sound store is sound at every moment of every run, whichever notes have landed
abbrev pub RunsKeepWhole : Type 0
RunsKeepWhole =
    (g : Setting) (s : Store) (es : List Entry) (landed : Node → Bool) →
    Checked g → WholeSound g s → s.topology ≡ Some (topology_of g) → IsRun g (opening s.disks) es →
    WholeSound g (record { topology = s.topology; disks = image g (world_after g (opening s.disks) es) landed; is_used = true })

-- and so where both logs grow by bytes at their ends and stay valid
abbrev pub LongerKeepsWhole : Type 0
LongerKeepsWhole =
    (g h : Setting) (query_log click_log more_queries more_clicks : List ℕ) (s : Store) →
    IsLonger g h query_log click_log more_queries more_clicks → WholeSound g s → WholeSound h s
