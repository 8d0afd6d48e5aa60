-- What the status of a fault says of it, and what a fault is named by where it is known when it was told.
use Rattle.std.proofs.Common.{◌⊎◌, inl, inr, ⊎_elim, ◌≡◌, ◌≢◌, ℕ, List, Option, refl, ap, subst, arith}
use Rattle.photon_cli.proofs.Words.{⊤, BadLine, IsNamedBy, IsSomeAnd, none_bad, DiskName, Why, RefusesClick, Field, BulkValues, Text, Values, LogName, Clicks, StorePlace, Mismatch, RunFault, IsWelcome, Refuses, status_of, IsBadIn, IsBeforeLogs, IsEarly, IsFailedRead, IsLogFault, IsOfDrill, IsOfLogs, IsOfPlanOrLogs, IsOfRun, IsOfVerify, IsPast, IsPlanFault, failed_read, HasTable, IsNamed, IsNamedInBulk, IsNamedInDrill, IsNamedInVerify}
use Rattle.time_shards.specs.Text.{IsFirstBad}
use Rattle.run_fault.specs.declared.fault.RunFault.TheVariants as fault

-- ---- the fault of a status

pub no_zero : (f : RunFault) → status_of f ≢ 0
no_zero f e = grind arith

pub no_one : (f : RunFault) → status_of f ≢ 1
no_one f e = grind arith

-- the table's first bad row, or the plan's first bad place
pub two_of : (f : RunFault) → status_of f ≡ 2 → ((n : ℕ) × (f ≡ fault.Table n)) ⊎ ((place : Field) × (f ≡ fault.Plan place))
two_of f e = grind arith

pub line_of : (f : RunFault) → status_of f ≡ 3 → (log : LogName) × (line : ℕ) × (w : Why) × (f ≡ fault.Refused log line w)
line_of f e = grind arith

pub failed_of : (f : RunFault) → status_of f ≡ 4 → IsFailedRead f
failed_of f e = grind arith

pub write_of : (f : RunFault) → status_of f ≡ 5 → f ≡ fault.Write
write_of f e = grind arith

pub place_of : (f : RunFault) → status_of f ≡ 6 → (place : StorePlace) × (f ≡ (fault.Store place))
place_of f e = grind arith

pub damaged_of : (f : RunFault) → status_of f ≡ 7 → (disk : DiskName) × (at : ℕ) × (f ≡ (fault.Damaged disk at))
damaged_of f e = grind arith

pub mismatch_of : (f : RunFault) → status_of f ≡ 9 → (what : Mismatch) × (f ≡ (fault.Topology what))
mismatch_of f e = grind arith

-- ---- what is told of a store

pub fair_status : (f : RunFault) (holds : Type 0) → holds → IsWelcome holds f → (status_of f ≢ 7) × (status_of f ≢ 9)
fair_status f holds x h = grind (arith, damaged_of, mismatch_of)

-- what is wrong with a log or a plan tells nothing of a store
pub log_fair : (f : RunFault) (log : LogName) → IsLogFault log f → IsWelcome ⊤ f
log_fair f log h = grind arith

pub plan_fair : (stops : Type 0) (f : RunFault) → IsPlanFault f → IsOfDrill stops f
plan_fair stops f h = grind arith

-- a drill's fault, by whether there are stops
module _ (stops : Type 0) (f : RunFault) (is : IsOfDrill stops f) where
  pub drill_fair : (status_of f ≢ 7) × (status_of f ≢ 9) × (status_of f ≢ 10)
  drill_fair = grind (arith, damaged_of, mismatch_of)

  pub needs_stops : status_of f ≡ 6 → stops
  needs_stops six = let p = place_of f six in subst (IsOfDrill stops) p.1 is

-- ---- when a fault is told

-- of each that is told of a log
pub of_log : (P : RunFault → Type 0) (log : LogName) → ((line : ℕ) (w : Why) → P (fault.Refused log line w)) → P (failed_read log) → P fault.Memory → (f : RunFault) → IsLogFault log f → P f
of_log h log refused read memory f k = grind arith

-- a run's fault is told behind all that comes before the run
pub run_past : (f : RunFault) → IsOfRun f → IsPast f
run_past k h = grind arith

-- none of these is of status 2 or 3
pub past_status : (f : RunFault) → IsPast f → (status_of f ≢ 2) × (status_of f ≢ 3)
past_status f h = grind (arith, two_of, line_of)

-- what names nothing is told there
pub past_of : (row : ℕ → Type 0) (place : Field → Type 0) (line : LogName → BadLine → Type 0) (read : LogName → Type 0) (file : Type 0) (f : RunFault) → IsNamedBy row place line read file f → ((n : ℕ) → row n → ⊥) → ((at : Field) → place at → ⊥) → ((log : LogName) (bad : BadLine) → line log bad → ⊥)
    → (f ≡ fault.PlanRead → file → ⊥) → IsPast f
past_of row place line read file f named no_row no_place no_line no_file = grind arith

-- A fault is told before the run, or, behind a table, later.
module _ (behind : RunFault → Type 0) (shards : Text) (f : RunFault) where
  abbrev pub IsKnown : Type 0
  IsKnown = IsEarly behind shards f ⊎ (HasTable shards × IsPast f)

  -- where the table is bad, that is told
  pub bad_row : (n : ℕ) → IsFirstBad shards n → IsKnown → status_of f ≡ 2
  bad_row n first (inl (inl (row, e, other))) = ap status_of e
  bad_row n first (inl (inr ((table, text), h))) = absurd (none_bad shards n table first text.0 text.1)
  bad_row n first (inr ((table, text), h)) = absurd (none_bad shards n table first text.0 text.1)

-- ---- of a join

pub join_two : (shards : Text) (f : RunFault) → IsKnown IsOfLogs shards f → status_of f ≡ 2 → (n : ℕ) × IsFirstBad shards n
join_two shards f known two = grind (arith, two_of)

-- what is told before the run behind a table, but for a read
pub early_left : (shards : Text) (f : RunFault) → IsEarly IsOfLogs shards f → HasTable shards → (IsFailedRead f → ⊥) → (status_of f ≡ 3) ⊎ (status_of f ≡ 8)
early_left shards f (inl (row, e, first)) (table, text) read = absurd (none_bad shards row table first text.0 text.1)
early_left shards f (inr (other, (log, inl (line, w, e)))) table read = inl (ap status_of e)
early_left shards f (inr (other, (log, inr (inl e)))) table read = absurd (read (inr (log, e)))
early_left shards f (inr (other, (log, inr (inr e)))) table read = inr (ap status_of e)

pub named : (told : List ℕ → Option (List ℕ)) (v : Values) (f : RunFault) → IsKnown IsOfLogs v.nodes.shards f
    → ((log : LogName) (line : ℕ) (w : Why) → f ≡ fault.Refused log line w → Refuses told v.queries v.clicks log (record { line = line; why = w })) → IsNamed told v f
named told v f known line = grind arith

-- ---- of a drill

-- what is told before the run behind a table, but for a read
pub drill_early : (shards : Text) (f : RunFault) → IsEarly IsOfPlanOrLogs shards f → HasTable shards → (IsFailedRead f → ⊥) → (status_of f ≡ 2) ⊎ ((status_of f ≡ 3) ⊎ (status_of f ≡ 8))
drill_early shards f h k read = grind (arith, early_left)

-- what is told where the plan is bad
pub plan_left : (f : RunFault) (place : Field) → IsBeforeLogs place f → (IsFailedRead f → ⊥) → (status_of f ≡ 2) ⊎ (status_of f ≡ 8)
plan_left f place h read = grind arith

-- what is left of a drill where no count rose and nothing is refused
pub drill_left : (stops : Type 0) (f : RunFault) → IsPast f → (IsFailedRead f → ⊥) → (f ≡ fault.Write → ⊥) → IsOfDrill stops f → ((status_of f ≡ 6) × stops) ⊎ (status_of f ≡ 8)
drill_left stops h past read write fair = grind arith

pub named_in_drill : (told : List ℕ → Option (List ℕ)) (v : Values) (file : Text) (f : RunFault) → IsKnown IsOfPlanOrLogs v.nodes.shards f → ((place : Field) → f ≡ fault.Plan place → IsBadIn told file place)
    → ((log : LogName) (line : ℕ) (w : Why) → f ≡ fault.Refused log line w → Refuses told v.queries v.clicks log (record { line = line; why = w })) → IsNamedInDrill told v file f
named_in_drill told v file f known bad line = grind arith

-- ---- of a bulk run

pub bulk_two : (shards : Text) (f : RunFault) → IsKnown (λ e. e ≡ fault.Memory) shards f → status_of f ≡ 2 → (n : ℕ) × IsFirstBad shards n
bulk_two shards f known two = grind (arith, two_of)

pub named_in_bulk : (v : BulkValues) (f : RunFault) → IsKnown (λ e. e ≡ fault.Memory) v.nodes.shards f → IsNamedInBulk v f
named_in_bulk v f known = grind arith

-- ---- of a verification

pub log_verify : (f : RunFault) → IsLogFault Clicks f → IsOfVerify f
log_verify f h = of_log IsOfVerify Clicks (λ line w. tt) tt tt f h

pub never_two : (f : RunFault) → IsOfVerify f → status_of f ≢ 2
never_two f own two = ⊎_elim (λ row. subst IsOfVerify row.1 own) (λ place. subst IsOfVerify place.1 own) (two_of f two)

pub click_line : (f : RunFault) → IsOfVerify f → status_of f ≡ 3 → (line : ℕ) × (w : Why) × (f ≡ fault.Refused Clicks line w)
click_line f own three = grind (arith, line_of)

pub never_written : (f : RunFault) → IsLogFault Clicks f → f ≡ fault.Write → ⊥
never_written f h is = grind arith

-- what is told of a log that isn't valid
pub unreadable : (f : RunFault) → IsLogFault Clicks f → (IsFailedRead f → ⊥) → (status_of f ≡ 3) ⊎ (status_of f ≡ 8)
unreadable f h read = grind arith

pub named_in_verify : (told : List ℕ → Option (List ℕ)) (clicks : Text) (f : RunFault) → IsOfVerify f → ((line : ℕ) (w : Why) → f ≡ fault.Refused Clicks line w → IsSomeAnd (told clicks) (λ log. RefusesClick log (record { line = line; why = w }))) → IsNamedInVerify told clicks f
named_in_verify told clicks (fault.Refused Clicks n w) own line = line n w refl
named_in_verify told clicks _ own line = own

pub named_past : (told : List ℕ → Option (List ℕ)) (clicks : Text) (f : RunFault) → IsNamedInVerify told clicks f → ((bad : BadLine) → IsSomeAnd (told clicks) (λ log. RefusesClick log bad) → ⊥) → IsPast f
named_past told clicks (fault.Refused Clicks n w) h none = none (record { line = n; why = w }) h
named_past told clicks h k none = grind arith
