-- The setting of a run: what is asked for, and what the logs hold.
use Rattle.std.specs.Prelude.{◌≡◌, ℕ, List, Option, IsSomeAnd}
use Rattle.site_run.specs.Terms.{Config, Each, IsLogOf, Setting, end_from}
use Rattle.log_records.specs.Check.{IsQueryLog}

-- The setting has this config, and the records of the logs of these names, which are valid; the last whole line of the clicks
-- ends there. Here told says what bytes are under a name.
pub record IsSettingOf (told : List ℕ → Option (List ℕ)) (queries clicks : List ℕ) (config : Config) (end_ : ℕ) (g : Setting) : Type 0 where
  pub numbers : g.config ≡ config
  pub queries_are : IsSomeAnd (told queries) (λ log. IsQueryLog log g.queries)
  pub clicks_are : IsSomeAnd (told clicks) (λ log. IsLogOf log g)
  pub ends : end_ ≡ end_from 0 g.clicks

-- the same of the logs that are open: the click log and the query log, each opened so many times
pub record AreLogsOf {L : Type 0} (bytes : L → List ℕ) (clicks queries : List L) (config : Config) (g : Setting) : Type 0 where
  pub numbers : g.config ≡ config
  pub clicks_are : Each (λ l. IsLogOf (bytes l) g) clicks
  pub queries_are : Each (λ l. IsQueryLog (bytes l) g.queries) queries

pub record IsSettingOver {L : Type 0} (bytes : L → List ℕ) (clicks queries : List L) (config : Config) (end_ : ℕ) (g : Setting) : Type 0 where
  pub logs : AreLogsOf bytes clicks queries config g
  pub ends : end_ ≡ end_from 0 g.clicks

-- P holds of each setting of such logs under names
abbrev pub OfSetting : (told : List ℕ → Option (List ℕ)) (queries clicks : List ℕ) → Config → ℕ → (Setting → Type 0) → Type 0
OfSetting told queries clicks config end_ P = (g : Setting) → IsSettingOf told queries clicks config end_ g → P g
