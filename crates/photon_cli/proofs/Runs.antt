-- What a run that has come to rest gives the report, and the setting that it is of.
use Rattle.std.proofs.Common.{arith, Ok, ◌≡◌, ℕ, suc, ◌+◌, List, [], ◌∷◌, map, Option, Some, None, refl, sym, ap, ◌∙◌, length, subst}
use Rattle.photon_cli.proofs.Words.{⊤, Config, IfSome, IsSomeAnd, PlanView, AreLinesBy, Images, IsSoundStore, IsTable, Joins, JoinsAfresh, LeavesNothing, RanAfresh, ReportLine, RestJoins, RestJoinsAfresh, RestLeft, RestRanAfresh, RunLeft, RunLog, RunOutcome, RunsOver, ShardRow, distinct, line_of, only_table, EventId, QueryRec, ClickRec, click_line, ClickLine, placed, end_from, lines_follow, Setting, Checked, IsLogOf, IsSettingOf, Values, EndsAt, AreLogs, AreValid, HaveIds, IsAsked, IsHeardOf, IsHistory, config_of, IsTextOf}
use Rattle.photon_cli.proofs.Refusals.{within}

pub taken : {A : Type 0} (o : Option A) (P : A → Type 0) → IsSomeAnd o P → (x : A) × P x
taken None P h = absurd h
taken (Some x) P h = (x, h)

-- a fault that names nothing
pub none_named : (o : Option RunLog) → IfSome o (λ l. ⊤)
none_named None = tt
none_named (Some l) = tt

-- what is left of a run, and whatever is known of it where it has begun
pub if_history : (o : Option RunLog) (g : Setting) (before after : Images) (plan : PlanView) (joiners : ℕ) → g.config.joiners ≡ joiners → IfSome o (RunLeft g before after) → IfSome o (IsHeardOf plan joiners) → IfSome o (IsHistory g before after plan)
if_history None g before after plan joiners same left heard = tt
if_history (Some log) g before after plan joiners same left heard = record { left = left; heard = subst (λ j. IsHeardOf plan j log) (sym same) heard }

pub history : (o : Option RunLog) (g : Setting) (before after : Images) (plan : PlanView) (joiners : ℕ) → g.config.joiners ≡ joiners → IsSomeAnd o (RunLeft g before after) → IfSome o (IsHeardOf plan joiners) → IsSomeAnd o (IsHistory g before after plan)
history None g before after plan joiners same left heard = absurd left
history (Some log) g before after plan joiners same left heard = record { left = left; heard = subst (λ j. IsHeardOf plan j log) (sym same) heard }

-- the setting of a log that was checked has what the law asks of it
pub log_checked : (o : Option (List ℕ)) (g : Setting) → IsSomeAnd o (λ log. IsLogOf log g) → Checked g
log_checked None g h = absurd h
log_checked (Some log) g h = let x = lines_follow log g.clicks h.lines in record { follow = x.0; no_conflict = x.1 }

-- the clicks of lines that were placed
pub clicks_back : (p : ℕ) (cs : List ClickRec) → map (λ (l : ClickLine). l.click) (placed p cs) ≡ cs
clicks_back p [] = refl
clicks_back p (c ∷ cs) = ap (λ (ds : List ClickRec). c ∷ ds) (clicks_back (suc (p + length (click_line c))) cs)

-- the clicks of lines that were placed have the ids that were read
pub placed_ids : (ids : List EventId) (cs : List ClickRec) → ids ≡ map (λ (c : ClickRec). c.id) cs → map (λ (c : ClickRec). c.id) (map (λ (l : ClickLine). l.click) (placed 0 cs)) ≡ ids
placed_ids ids cs are = ap (map (λ (c : ClickRec). c.id)) (clicks_back 0 cs) ∙ sym are

-- ---- the setting

-- the setting of these values and records
abbrev pub setting_of : Values → List ShardRow → List QueryRec → List ClickRec → Setting
setting_of v table qs cs = record { queries = qs; clicks = placed 0 cs; config = config_of v.horizon v.nodes table }

pub is_asked : (told : List ℕ → Option (List ℕ)) (v : Values) (table : List ShardRow) (qs : List QueryRec) (cs : List ClickRec) → IsTextOf v.nodes.shards table → AreLogs told v.queries v.clicks qs cs → IsAsked told v (setting_of v table qs cs)
is_asked told v table qs cs text logs = grind (arith, within)

-- two valid logs and a table give it
pub setting_there : (told : List ℕ → Option (List ℕ)) (v : Values) (table : List ShardRow) → IsTextOf v.nodes.shards table → AreValid told v.queries v.clicks → (g : Setting) × IsAsked told v g
setting_there told v table text (qs, cs, logs) = (setting_of v table qs cs, is_asked told v table qs cs text logs)

pub ends_there : (o : Option (List ℕ)) (g : Setting) (end_ : ℕ) → IsSomeAnd o (λ log. IsLogOf log g) → IsSomeAnd o (λ log. EndsAt log end_) → end_ ≡ end_from 0 g.clicks
ends_there None g end_ h k = absurd h
ends_there (Some log) g end_ h k = k g.clicks h.lines

-- the setting that is asked for is that of the run: of the table that was read, and of the click log's end
pub run_setting : (told now : List ℕ → Option (List ℕ)) (v : Values) (table : List ShardRow) (config : Config) → config ≡ config_of v.horizon v.nodes table → (end_ : ℕ) (g : Setting)
    → IsAsked told v g → IsTextOf v.nodes.shards table → ((n : List ℕ) → now n ≡ told n) → IsSomeAnd (told v.clicks) (λ log. EndsAt log end_) → IsSettingOf now v.queries v.clicks config end_ g
run_setting told now v table config made end_ g asked text same ends =
    let n = asked.setting.numbers in
    let is : table ≡ g.config.table = only_table v.nodes.shards table g.config.table text.0 asked.table.0 text.1 asked.table.1 in
    grind (arith, ends_there)

-- ---- a run that ended well, and the lines of the journals that were read back

module _ (g : Setting) (before after : Images) (read faulted : Type 0) (ran : Option RunLog) (outcome : RunOutcome) (over : RunsOver g before after read faulted ran (Ok outcome)) where
  pub began : IsSomeAnd ran (RunLeft g before after)
  began = grind arith

  module _ (o : Option (List ℕ)) (of_log : IsSomeAnd o (λ log. IsLogOf log g)) (table : List ShardRow) (same : table ≡ g.config.table) (ids : List EventId) (own : HaveIds g ids)
      (lines : List ReportLine) (are : (clicks : List ClickRec) → map (λ (c : ClickRec). c.id) clicks ≡ ids → lines ≡ map (λ (c : ClickRec). line_of outcome.journals table c.id) (distinct clicks)) where
    made : AreLinesBy g outcome.journals lines
    made =
        let clicks : List ClickRec = map (λ (l : ClickLine). l.click) g.clicks in
        are clicks own ∙ (λ k. map (λ (x : ClickRec). line_of outcome.journals (same k) x.id) (distinct clicks))

    pub joined : RestJoins g before after faulted → IsSoundStore g before → Joins g before after faulted lines
    joined law sound = let rest = taken ran (λ l. RestLeft g before after l.air.history faulted outcome.journals) over.rest in law rest.0.air.history outcome.journals lines (log_checked o g of_log) sound rest.1 made

    pub joined_afresh : RestJoinsAfresh g before after faulted → IsTable g.config.table → LeavesNothing g before → JoinsAfresh g faulted lines
    joined_afresh law is nothing = let rest = taken ran (λ l. RestLeft g before after l.air.history faulted outcome.journals) over.rest in law rest.0.air.history outcome.journals lines (log_checked o g of_log) is nothing rest.1 made

    pub ran_afresh : RestRanAfresh g before after faulted → IsTable g.config.table → LeavesNothing g before → IsSomeAnd ran (λ l. RanAfresh g l.air.history lines)
    ran_afresh law is nothing = within ran (λ l. RestLeft g before after l.air.history faulted outcome.journals) (λ l. RanAfresh g l.air.history lines) (λ l rest. law l.air.history outcome.journals lines (log_checked o g of_log) is nothing rest made) over.rest
