-- What is fixed for a run: the logs, the horizon, the topology.
use Rattle.std.specs.Prelude.{◌≡◌, ℕ, ◌+◌, ◌*◌, ◌<◌, ◌≤◌, nat_lt, List, if◌then◌else◌, Some}
use Rattle.event_id.specs.declared.id.EventId.{EventId}
use Rattle.time_shards.specs.Shards.{shard_of, shard_count}
use Rattle.log_records.specs.declared.records.QueryRec.{QueryRec as Query}
use Rattle.log_records.specs.declared.records.ClickRec.{ClickRec as Click}
use Rattle.log_records.specs.Lines.{ClickLine, HoldsLines, IsPair, Follow, NoConflict}
use Rattle.log_records.specs.Log.{first, HoldsQueries}
use Rattle.list_words.specs.Lists.{Mem}
use Rattle.turn_defs.specs.declared.config.Config.{Config}

-- the records of both logs, and the numbers of the run
pub record Setting : Type 0 where
  pub queries : List Query
  pub clicks : List ClickLine
  pub config : Config

-- Nodes are numbered: two dispatchers, two servers, the replicas, the joiners of site 0, then those of site 1.
abbrev pub first_joiner : Setting → ℕ
first_joiner g = 4 + g.config.replicas

abbrev pub IsJoiner : Setting → ℕ → Type 0
IsJoiner g n = (first_joiner g ≤ n) × (n < first_joiner g + 2 * g.config.joiners)

abbrev pub site_of_joiner : Setting → ℕ → ℕ
site_of_joiner g n = if nat_lt n (first_joiner g + g.config.joiners) then 0 else 1

-- the shards are the numbers below this
abbrev pub shards : Setting → ℕ
shards g = shard_count g.config.table

abbrev pub shard : Setting → EventId → ℕ
shard g i = shard_of g.config.table i

-- (c, q) is the pair of c's id
abbrev pub IsJoin : Setting → Click → Query → Type 0
IsJoin g c q = IsPair g.queries g.clicks c q

-- i is the id of a click whose query is in the query log
abbrev pub IsJoinable : Setting → EventId → Type 0
IsJoinable g i = (l : ClickLine) × Mem l g.clicks × (l.click.id ≡ i) × ((q : Query) × (first g.queries l.click.query ≡ Some q))

-- both logs were checked
pub record Checked (g : Setting) : Type 0 where
  pub follow : Follow 0 g.clicks
  pub no_conflict : NoConflict g.clicks

-- the setting is over these logs
pub record IsOver (g : Setting) (query_log click_log : List ℕ) : Type 0 where
  pub queries : HoldsQueries query_log g.queries
  pub clicks : HoldsLines click_log g.clicks
