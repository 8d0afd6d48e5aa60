-- Which line each click has in the report.
use Rattle.std.proofs.Common.{◌≡◌, ◌≢◌, ℕ, zero, suc, ◌+◌, ◌*◌, ◌%◌, ◌<◌, ◌≤◌, ◌++◌, Bool, true, false, cond, ◌&&◌, ◌==◌, Option, Some, None, is_some, find, [], ◌∷◌, map, codes, decimal, refl, ap, ◌∙◌, arith}
use Rattle.std.specs.List.{range_with_len, count_by}
use Rattle.std.specs.declared.cmp.Ordering.TheVariants.{Equal}
use Rattle.std.proofs.lemmas.Bool.{cond_both, ltb-true, eqb-true, eqb-false, ne_eqb, eq-eqb, and_from}
use Rattle.event_id.specs.declared.id.EventId.{EventId}
use Rattle.event_id.specs.EventId.{is_same, id_cmp}
use Rattle.log_records.specs.declared.records.QueryRec.{QueryRec}
use Rattle.log_records.specs.declared.records.ClickRec.{ClickRec}
use Rattle.log_records.specs.Log.{line_feed, first}
use Rattle.log_records.specs.declared.report.ReportLine.{ReportLine}
use Rattle.log_records.specs.declared.report.ReportLine.TheVariants.{J, M, X, U}
use Rattle.log_records.specs.Report.{is_joined, is_missing, is_expired, is_unmatched, totals, line_of, pair_or_none}
use Rattle.bulk_logs.specs.Bulk.{drawn, query_id, click_micros, nowhere, query_at, click_at, queries, clicks, horizon, lines, kinds, kinds_made, totals_made, joined, expired, unmatched}
use Rattle.bulk_logs.proofs.Counting.{count_lines, apart_made, counted}

-- ---- what is found in a list that is made from places

module _ {R : Type 0} (test : R → Bool) (at : ℕ → R) where
  none_found : (a n : ℕ) → ((k : ℕ) → test (at k) ≡ false) → find test (map at (range_with_len a n)) ≡ None
  none_found a zero h = refl
  none_found a (suc n) h = ap (λ b. cond b (Some (at a)) (find test (map at (range_with_len (a + 1) n)))) (h a) ∙ none_found (a + 1) n h

  some_found : (a n k : ℕ) → k < n → test (at (a + k)) ≡ true → is_some (find test (map at (range_with_len a n))) ≡ true
  some_found a zero k lt e = absurd (omega arith)
  some_found a (suc n) zero lt e = grind arith
  some_found a (suc n) (suc k) lt e = grind (arith, some_found (a + 1) n k (omega arith))

same_itself : (i : EventId) → is_same i i ≡ true
same_itself i = and_from (i.ip == i.ip) ((i.pid == i.pid) && (i.micros == i.micros)) (eq-eqb i.ip i.ip refl) (and_from (i.pid == i.pid) (i.micros == i.micros) (eq-eqb i.pid i.pid refl) (eq-eqb i.micros i.micros refl))

-- no query has an id at 9.9.9.9
elsewhere : (m k one other : ℕ) → is_same (nowhere m) (query_id k one other) ≡ false
elsewhere m k one other = ap (λ b. b && ((9 == other % 64) && (m == 1000000 + 10 * k))) (ne_eqb 151587081 (167772160 + one % 16) (λ e. omega arith))

no_query : (seed n m : ℕ) → first (queries seed n) (nowhere m) ≡ None
no_query seed n m = none_found (λ (q : QueryRec). is_same (nowhere m) q.id) (query_at seed) 0 n (λ k. elsewhere m k (drawn seed (2 * k)) (drawn seed (2 * k + 1)))

a_query : (seed n k : ℕ) → k < n → is_some (first (queries seed n) (query_at seed k).id) ≡ true
a_query seed n k lt =
    let here : 0 + k ≡ k = omega arith in
    some_found (λ (q : QueryRec). is_same (query_at seed k).id q.id) (query_at seed) 0 n k lt (ap (λ m. is_same (query_at seed k).id (query_at seed m).id) here ∙ same_itself (query_at seed k).id)

-- ---- the line of click k

-- what kind it is of, by the last digit of its place
abbrev Fits : ℕ → ReportLine → Type 0
Fits k (J c q) = (k % 10 ≢ 4) × (k % 10 ≢ 9)
Fits k (M id) = ⊥
Fits k (X id) = k % 10 ≡ 4
Fits k (U id) = k % 10 ≡ 9

is_old : (k : ℕ) → click_micros k < horizon → k % 10 ≡ 4
is_old k = cond_both (k % 10 == 4) (500000 + k) (2000000 + 10 * k) (λ m. m < horizon → k % 10 ≡ 4) (λ t lt. eqb-true (k % 10) 4 t) (λ _ lt. absurd (omega arith))

is_young : (k : ℕ) → k < 100000 → horizon ≤ click_micros k → k % 10 ≢ 4
is_young k low = cond_both (k % 10 == 4) (500000 + k) (2000000 + 10 * k) (λ m. horizon ≤ m → k % 10 ≢ 4) (λ _ le. absurd (omega arith)) (λ f le. eqb-false (k % 10) 4 f)

pair_fits : (k : ℕ) (c : ClickRec) (o : Option QueryRec) → is_some o ≡ true → k % 10 ≢ 4 → k % 10 ≢ 9 → Fits k (pair_or_none c o)
pair_fits k c h e a b = grind arith

young_fits : (seed n k : ℕ) → k < n → k % 10 ≢ 4 → Fits k (pair_or_none (click_at seed k) (first (queries seed n) (click_at seed k).query))
young_fits seed n k lt young = grind (arith, cond_both, no_query, pair_fits, a_query)

line_fits : (seed n k : ℕ) → n ≤ 100000 → k < n → Fits k (line_of (queries seed n) horizon (click_at seed k))
line_fits seed n k le lt = grind (arith, cond_both, is_old, ltb-true, young_fits)

-- ---- how many lines there are of each kind

joined_more : (k : ℕ) (l : ReportLine) → Fits k l → joined (k + 1) ≡ joined k + cond (is_joined l) 1 0
joined_more k e h = grind arith

missing_more : (k : ℕ) (l : ReportLine) → Fits k l → 0 ≡ 0 + cond (is_missing l) 1 0
missing_more k e h = grind arith

expired_more : (k : ℕ) (l : ReportLine) → Fits k l → expired (k + 1) ≡ expired k + cond (is_expired l) 1 0
expired_more k e h = grind arith

unmatched_more : (k : ℕ) (l : ReportLine) → Fits k l → unmatched (k + 1) ≡ unmatched k + cond (is_unmatched l) 1 0
unmatched_more k e h = grind arith

module _ (seed n : ℕ) (le : n ≤ 100000) where
  apart : (j k : ℕ) → 0 ≤ j → j < k → k < 0 + n → id_cmp (click_at seed j).id (click_at seed k).id ≡ Equal → ⊥
  apart j k ge less lt e = grind arith

  count_is : (test : ReportLine → Bool) (F : ℕ → ℕ) → F 0 ≡ 0 → ((k : ℕ) (l : ReportLine) → Fits k l → F (k + 1) ≡ F k + cond (test l) 1 0) → count_by test (lines seed n) ≡ F n
  count_is test F none more =
      let line = line_of (queries seed n) horizon in
      count_lines test line (clicks seed n) (apart_made (click_at seed) 0 n apart)
      ∙ counted (λ c. test (line c)) (click_at seed) F n none (λ k lt. more k (line (click_at seed k)) (line_fits seed n k le lt))

  joined_is : count_by is_joined (lines seed n) ≡ joined n
  joined_is = count_is is_joined joined refl joined_more

  missing_is : count_by is_missing (lines seed n) ≡ 0
  missing_is = count_is is_missing (λ k. 0) refl missing_more

  expired_is : count_by is_expired (lines seed n) ≡ expired n
  expired_is = count_is is_expired expired refl expired_more

  unmatched_is : count_by is_unmatched (lines seed n) ≡ unmatched n
  unmatched_is = count_is is_unmatched unmatched refl unmatched_more

  pub kinds_are : kinds (lines seed n) ≡ kinds_made n
  kinds_are = λ i. joined_is i ∷ missing_is i ∷ expired_is i ∷ unmatched_is i ∷ []

  pub totals_are : totals (lines seed n) ≡ totals_made n
  totals_are = λ i. codes "= " ++ decimal (joined_is i) ++ codes " " ++ decimal (missing_is i) ++ codes " " ++ decimal (expired_is i) ++ codes " " ++ decimal (unmatched_is i) ++ line_feed ∷ []
