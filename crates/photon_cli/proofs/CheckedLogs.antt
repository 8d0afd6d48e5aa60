-- Whole logs.
use Rattle.std.proofs.Common.{◌≡◌, ◌≢◌, inl, inr, ℕ, suc, ◌+◌, ◌-◌, ◌^◌, ◌<◌, ◌≤◌, min, IsTrue, Bool, true, false, Option, Some, None, List, [], ◌∷◌, ◌++◌, length, map, refl, sym, ap, subst, ◌∙◌, arith, if◌then◌else◌, ◌↔◌}
use Rattle.photon_cli.proofs.Words.{cases_lt, map_push, take_all, length-append, length-map, Lacks, lacks_none, IsSomeAnd, EventId, QueryRec, ClickRec, Why, BadLine, query_line, IsQuery, IsQueryLog, queries_found, click_line, IsClick, IsClickLog, OrMemory, placed, end_from, line_feed, whole, MAX_LOG, IsLog, NextWhy, clicks_same, clicks_found, Places, place_at, Keeps, Step, Lines, SoFar, AtEnd, WrongNext, IsStep, EndsAt, kept, AreLines, IsChecked, length-one}
use Rattle.log_records.specs.declared.why.Why.TheVariants as why
use Rattle.log_records.specs.Check.{Refuses}
use Rattle.photon_cli.specs.declared.log_check.step.Step.TheVariants as step
use Rattle.photon_cli.proofs.LogCuts.{first_or_none, take_line, behind_front, length-whole}

module _ {R : Type 0} (line_of : R → List ℕ) (IsRecord : R → Type 0) (id_of : R → EventId) where
  -- the lines before the place, which were counted, and whose ids were kept
  pub record Before (keep : Bool) (log : List ℕ) (place : ℕ) (places : Places) (count : ℕ) (ids : List EventId) (rs : List R) : Type 0 where
    pub so_far : SoFar line_of IsRecord id_of log place rs
    pub keeps : Keeps line_of id_of places rs
    pub counted : count ≡ length rs
    pub ids_are : ids ≡ kept keep (map id_of rs)

  pub starts : (keep : Bool) (log : List ℕ) (place : ℕ) (places : Places) (ids : List EventId) → place ≡ 0 → ((k : EventId) → place_at places k ≡ None) → ids ≡ [] → Before keep log place places 0 ids []
  starts keep log place places ids at empty none = grind arith

  few_lines : (log : List ℕ) (place : ℕ) (rs : List R) → SoFar line_of IsRecord id_of log place rs → length rs ≤ MAX_LOG
  few_lines log place rs so_far = omega (arith, so_far.at, so_far.fits, length-whole (map line_of rs), length-map rs line_of)

  pub few : (keep : Bool) (log : List ℕ) (place : ℕ) (places : Places) (count : ℕ) (ids : List EventId) (rs : List R) → Before keep log place places count ids rs → count ≤ MAX_LOG
  few keep log place places count ids rs h = omega (arith, few_lines log place rs h.so_far, h.counted)

  module _ (LineWhy : List ℕ → Why → Type 0) where
    -- what the next line came to
    pub stepped : (keep : Bool) (log log' : List ℕ) (place place' : ℕ) (old new : Places) (count : ℕ) (ids : List EventId) (rs : List R) (to to' : Step) → log' ≡ log → to ≡ to' → Before keep log place old count ids rs
        → ((xs : List R) → SoFar line_of IsRecord id_of log' place xs → Keeps line_of id_of old xs → IsStep line_of IsRecord id_of LineWhy log' place' new xs to) → IsStep line_of IsRecord id_of LineWhy log place' new rs to'
    stepped keep log log' place place' old new count ids rs to to' same is before told = grind arith

    pub one_more_line : (keep : Bool) (log : List ℕ) (place place' : ℕ) (old new : Places) (count : ℕ) (ids ids' : List EventId) (id : EventId) (rs : List R) → Before keep log place old count ids rs → IsStep line_of IsRecord id_of LineWhy log place' new rs (step.Line id) → ids' ≡ ids ++ (if keep then id ∷ [] else [])
        → (xs : List R) × Before keep log place' new (count + 1) ids' xs
    one_more_line keep log place place' old new count ids ids' id rs before h ids_is = grind (arith, length-append, kept, map_push)

    refuses : (log : List ℕ) (place : ℕ) (rs : List R) (count : ℕ) (w : Why) (bad : BadLine) → SoFar line_of IsRecord id_of log place rs → count ≡ length rs → bad ≡ record { line = count + 1; why = w } → NextWhy line_of IsRecord id_of LineWhy log rs w → Refuses line_of IsRecord id_of LineWhy log bad
    refuses log place rs count w bad so_far counted is told = grind arith

    -- the next line is refused
    pub refuses_next : (keep : Bool) (log : List ℕ) (place : ℕ) (places : Places) (count : ℕ) (ids : List EventId) (rs : List R) (w : Why) (bad : BadLine) → Before keep log place places count ids rs → OrMemory (WrongNext line_of IsRecord id_of LineWhy log rs) w → (bad ≡ record { line = count + 1; why = w }) × (w ≢ why.Memory) → Refuses line_of IsRecord id_of LineWhy log bad
    refuses_next keep log place places count ids rs w bad before h is = grind arith

    -- a line that ends behind the limit, or the rest of the log without an end
    big_next : (log : List ℕ) (place : ℕ) (rs : List R) → AtEnd line_of IsRecord id_of log place rs → MAX_LOG < length log → NextWhy line_of IsRecord id_of LineWhy log rs why.TooBig
    big_next log place rs h big =
        let front = whole (map line_of rs) in
        let rest = h.so_far.begins.0 in
        elim (first_or_none line_feed rest) [
          | inr none ↦ inr (rest, h.so_far.begins.1, none, big, refl)
          | inl cut ↦
              let e : log ≡ front ++ (cut.0 ++ line_feed ∷ cut.1) = h.so_far.begins.1 ∙ ap (λ (x : List ℕ). front ++ x) cut.2 in
              let far : (length front + length cut.0 < MAX_LOG) → ⊥ = λ lt.
              let short : length cut.0 < MAX_LOG - place = omega (arith, h.so_far.at, h.so_far.fits, lt) in
              lacks_none line_feed cut.0 _ (subst (Lacks line_feed) (behind_front log front (cut.0 ++ line_feed ∷ cut.1) place e h.so_far.at h.so_far.fits ∙ take_line (MAX_LOG - place) cut.0 cut.1 short) h.none) in
              inl (cut.0, cut.1, e, cut.3, inl (far, refl))
        ]

    pub too_big : (keep : Bool) (log : List ℕ) (rs : List R) (read : Lines) (bad : BadLine) → AreLines line_of IsRecord id_of keep log rs read → MAX_LOG < length log → bad ≡ record { line = read.count + 1; why = why.TooBig } → Refuses line_of IsRecord id_of LineWhy log bad
    too_big keep log rs read bad h big is = refuses log read.end rs read.count why.TooBig bad h.at_end.so_far h.count is (big_next log read.end rs h.at_end big)

  pub counted_few : (keep : Bool) (log : List ℕ) (rs : List R) (read : Lines) → AreLines line_of IsRecord id_of keep log rs read → read.count ≤ MAX_LOG
  counted_few keep log rs read h = omega (arith, few_lines log read.end rs h.at_end.so_far, h.count)

  -- where the log isn't too big its lines are read to its end
  pub checked : (keep : Bool) (log : List ℕ) (rs : List R) (read : Lines) → AreLines line_of IsRecord id_of keep log rs read → length log ≤ MAX_LOG → IsChecked line_of IsRecord id_of keep log rs read
  checked keep log rs read h fits =
      let front = whole (map line_of rs) in
      let so_far = h.at_end.so_far in
      let rest = so_far.begins.0 in
      let all : length rest ≤ MAX_LOG - read.end = omega (arith, so_far.at, ap length so_far.begins.1, length-append front rest) in
      let none : Lacks line_feed rest = subst (Lacks line_feed) (behind_front log front rest read.end so_far.begins.1 so_far.at so_far.fits ∙ take_all (MAX_LOG - read.end) rest all) h.at_end.none in
      grind arith

-- what the byte at the limit says
not_big : (n : ℕ) (big : Bool) → big ≡ false → IsTrue big ↔ (MAX_LOG < n) → n ≤ MAX_LOG
not_big n big is tells = grind (arith, cases_lt)

module _ {R : Type 0} (line_of : R → List ℕ) (IsRecord : R → Type 0) (id_of : R → EventId) (LineWhy : List ℕ → Why → Type 0) (keep : Bool) (log log0 log1 : List ℕ) (read : Lines) (big : Bool) (first : log0 ≡ log) (last : log1 ≡ log) (tells : IsTrue big ↔ (MAX_LOG < length log1)) (h : (rs : List R) × AreLines line_of IsRecord id_of keep log0 rs read) where
  here : AreLines line_of IsRecord id_of keep log h.0 read
  here = subst (λ (b : List ℕ). AreLines line_of IsRecord id_of keep b h.0 read) first h.1

  pub all_checked : big ≡ false → (rs : List R) × IsChecked line_of IsRecord id_of keep log rs read
  all_checked is = (h.0, checked line_of IsRecord id_of keep log h.0 read here (omega (arith, not_big (length log1) big is tells, ap length last)))

  pub told_big : (line : ℕ) (bad : BadLine) → big ≡ true → line ≡ min (read.count + 1) (2 ^ 64 - 1) → bad ≡ record { line = line; why = why.TooBig } → Refuses line_of IsRecord id_of LineWhy log bad
  told_big line bad is line_is bad_is =
      let lt = tells.0 is in
      let few_lines = counted_few line_of IsRecord id_of keep log h.0 read here in
      let number : line ≡ read.count + 1 = omega arith in
      too_big line_of IsRecord id_of LineWhy keep log h.0 read bad here (omega (arith, lt, ap length last)) (bad_is ∙ ap (λ (n : ℕ). record { line = n; why = why.TooBig }) number)

-- ---- clicks

ends_placed : (p : ℕ) (cs : List ClickRec) → end_from p (placed p cs) ≡ p + length (whole (map click_line cs))
ends_placed p [] = omega arith
ends_placed p (c ∷ cs) = let rest = ends_placed (suc (p + length (click_line c))) cs in omega (arith, rest, length-one (click_line c) (map click_line cs))

clicks_end : (log : List ℕ) (cs : List ClickRec) (end_ : ℕ) → IsLog click_line IsClick (λ c. c.id) log cs → end_ ≡ length (whole (map click_line cs)) → EndsAt log end_
clicks_end log cs end_ h is ls holds =
    let same : holds.clicks ≡ cs = clicks_same log holds.clicks cs holds.holds (clicks_found log cs h).0 in
    let there : ls ≡ placed 0 cs = holds.lines ∙ ap (placed 0) same in
    let from_start : 0 + length (whole (map click_line cs)) ≡ length (whole (map click_line cs)) = omega arith in
    is ∙ sym (ap (end_from 0) there ∙ ends_placed 0 cs ∙ from_start)

-- ---- what the check of a log answers, by what it held when it was read

pub queries_read : (o : Option (List ℕ)) (read : Lines) → IsSomeAnd o (λ b. (qs : List QueryRec) × IsChecked query_line IsQuery (λ q. q.id) false b qs read) → (qs : List QueryRec) × IsSomeAnd o (λ b. IsQueryLog b qs)
queries_read k read h = grind (arith, queries_found)

-- the clicks, which have the ids that were kept, and the end of the last whole line
pub clicks_read : (o now : Option (List ℕ)) (read : Lines) → now ≡ o → IsSomeAnd now (λ b. (cs : List ClickRec) × IsChecked click_line IsClick (λ c. c.id) true b cs read)
    → (x : (cs : List ClickRec) × IsSomeAnd o (λ b. IsClickLog b cs)) × (read.ids.items ≡ map (λ (c : ClickRec). c.id) x.0) × IsSomeAnd o (λ b. EndsAt b read.end)
clicks_read o None read same h = absurd h
clicks_read o (Some log) read same (cs, h) =
    ((cs, subst (λ p. IsSomeAnd p (λ b. IsClickLog b cs)) same (clicks_found log cs h.holds)), h.ids, subst (λ p. IsSomeAnd p (λ b. EndsAt b read.end)) same (clicks_end log cs read.end h.holds h.end_is))
