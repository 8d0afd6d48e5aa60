-- What a check of either kind says of a log of queries and of one of clicks.
use Rattle.std.proofs.Common.{◌≡◌, ◌⊎◌, inl, inr, ℕ, ◌≤◌, List, [], ◌∷◌, ◌++◌, length, map, Contains, Result, refl, sym, ap, subst, ◌∙◌, arith}
use Rattle.std.specs.Prelude.{IfOk, IfErr, MatchResult}
use Rattle.log_records.proofs.Words.{AfterWhy, All-contains, All-from_recursion, AllByRecursion, ClickRec, ClickWhy, Contains-append_left, Contains-append_right, EventId, Holds, IsClick, IsClickLog, IsLog, IsQuery, IsQueryLog, Lacks, NextWhy, QueryRec, QueryWhy, Refuses, RefusesClick, RefusesQuery, Why, click_line, lacks_none, length-append, line_feed, query_line, split_same, whole}
use Rattle.log_records.specs.declared.why.Why.TheVariants as why
use Rattle.log_records.specs.declared.check.BadLine.{BadLine}
use Rattle.log_records.specs.declared.check.TheConstants.{MAX_LOG}
use Rattle.log_records.proofs.Grammar.{query_same, click_same, query_right, click_right}
use Rattle.log_records.proofs.Reading.{one_more, query_lacks, click_lacks}

module _ {R : Type 0} (line_of : R → List ℕ) (IsRecord : R → Type 0) (id_of : R → EventId) (same : (r s : R) → IsRecord r → IsRecord s → line_of r ≡ line_of s → r ≡ s) where
  valid_at : (rs : List R) → AllByRecursion IsRecord rs → (r : R) → Contains rs r → IsRecord r
  valid_at rs each r among = All-contains IsRecord rs r (All-from_recursion IsRecord rs each) among

  -- records of a log that are known by their lines
  pub holds_from : (log : List ℕ) (rs : List R) → IsLog line_of IsRecord id_of log rs → Holds line_of IsRecord id_of log rs
  holds_from log rs h = grind (arith, valid_at)

  module _ (LineWhy : List ℕ → Why → Type 0) (lacks : (r : R) → IsRecord r → Lacks line_feed (line_of r)) (right : (line : List ℕ) (r : R) (w : Why) → IsRecord r → line ≡ line_of r → LineWhy line w → ⊥) where
    -- the records before a place of the log begin its own, and the others are behind that place
    strip : (earlier all : List R) (behind rest : List ℕ) → AllByRecursion IsRecord earlier → AllByRecursion IsRecord all → Lacks line_feed rest → whole (map line_of earlier) ++ behind ≡ whole (map line_of all) ++ rest → (left : List R) × (all ≡ earlier ++ left) × (behind ≡ whole (map line_of left) ++ rest)
    strip [] all behind rest h k none e = (all, refl, e)
    strip (r ∷ rs) [] behind rest h k none e = absurd (lacks_none line_feed (line_of r) (whole (map line_of rs) ++ behind) (subst (Lacks line_feed) (sym e ∙ one_more (line_of r) (map line_of rs) behind) none))
    strip (r ∷ rs) (s ∷ ss) behind rest h k none e = grind (arith, split_same, one_more, strip rs ss behind rest h.1 k.1 none)

    -- the line behind them is that of the next record
    next_is : (left : List R) (line after rest : List ℕ) → ((r : R) → Contains left r → IsRecord r) → Lacks line_feed line → Lacks line_feed rest → line ++ line_feed ∷ after ≡ whole (map line_of left) ++ rest → (s : R) × Contains left s × (line ≡ line_of s)
    next_is [] line after rest valid whole_line none e = absurd (lacks_none line_feed line after (subst (Lacks line_feed) (sym e) none))
    next_is (s ∷ ss) line after rest valid whole_line none e = grind (arith, split_same, one_more)

    module _ (log : List ℕ) (all : List R) (h : Holds line_of IsRecord id_of log all) (fits : length log ≤ MAX_LOG) (earlier : List R) (each : AllByRecursion IsRecord earlier) where
      -- nothing is wrong with a line of the log
      line_right : (line after : List ℕ) (w : Why) → log ≡ whole (map line_of earlier) ++ (line ++ line_feed ∷ after) → Lacks line_feed line → AfterWhy line_of IsRecord id_of LineWhy earlier line w → ⊥
      line_right line after w e whole_line told =
          let split = strip earlier all (line ++ line_feed ∷ after) h.lines.0 each h.each h.lines.2 (sym e ∙ h.lines.1) in
          let inside : (r : R) → Contains split.0 r → Contains all r = λ r a. subst (λ (rs : List R). Contains rs r) (sym split.1) (Contains-append_right earlier split.0 r a) in
          let next = next_is split.0 line after h.lines.0 (λ r a. valid_at all h.each r (inside r a)) whole_line h.lines.2 split.2 in
          let s = next.0 in
          let valid = valid_at all h.each s (inside s next.1) in
          elim told [
            | inl wrong ↦ right line s w valid next.2 wrong
            | inr told ↦
                let c = told.0 in
                let is_next : c.1 ≡ s = same c.1 s c.3 valid (sym c.4 ∙ next.2) in
                let before : Contains all c.0 = subst (λ (rs : List R). Contains rs c.0) (sym split.1) (Contains-append_left earlier split.0 c.0 c.2) in
                let one : c.0 ≡ s = h.one c.0 s before (inside s next.1) (c.5 ∙ ap id_of is_next) in
                c.6 (ap line_of one ∙ sym next.2)
          ]

      pub next_right : (w : Why) → NextWhy line_of IsRecord id_of LineWhy log earlier w → ⊥
      next_right w (inl (line, after, e, whole_line, inl (too_long, told))) = too_long (omega (arith, ap length e, length-append (whole (map line_of earlier)) (line ++ line_feed ∷ after), length-append line (line_feed ∷ after)))
      next_right w (inl (line, after, e, whole_line, inr (short, told))) = line_right line after w e whole_line told
      next_right w (inr (line, e, none, big, told)) = absurd (omega arith)

    -- so no line of a log of records is refused
    pub none_refused : (log : List ℕ) (all : List R) (bad : BadLine) → Holds line_of IsRecord id_of log all → length log ≤ MAX_LOG → Refuses line_of IsRecord id_of LineWhy log bad → ⊥
    none_refused log all bad h fits refused = next_right log all h fits refused.earlier refused.records.each bad.why refused.told

pub queries_right : (log : List ℕ) (qs : List QueryRec) (bad : BadLine) → IsQueryLog log qs → RefusesQuery log bad → ⊥
queries_right log qs bad h refused = none_refused query_line IsQuery (λ q. q.id) query_same QueryWhy query_lacks query_right log qs bad h.0 h.1 refused

pub clicks_right : (log : List ℕ) (cs : List ClickRec) (bad : BadLine) → IsClickLog log cs → RefusesClick log bad → ⊥
clicks_right log cs bad h refused = none_refused click_line IsClick (λ c. c.id) click_same ClickWhy click_lacks click_right log cs bad h.0 h.1 refused

pub queries_found : (log : List ℕ) (qs : List QueryRec) → IsLog query_line IsQuery (λ q. q.id) log qs → IsQueryLog log qs
queries_found log qs h = (holds_from query_line IsQuery (λ q. q.id) query_same log qs h, h.fits)

pub clicks_found : (log : List ℕ) (cs : List ClickRec) → IsLog click_line IsClick (λ c. c.id) log cs → IsClickLog log cs
clicks_found log cs h = (holds_from click_line IsClick (λ c. c.id) click_same log cs h, h.fits)

-- where a log of records is not answered by what they are, memory ran out
pub only_answer : {T : Type 0} (r : Result T BadLine) (P : T → Type 0) (Refused : BadLine → Type 0) → IfOk r P → IfErr r (λ bad. (bad.why ≡ why.Memory) ⊎ Refused bad) → ((bad : BadLine) → Refused bad → ⊥) → MatchResult r P (λ bad. bad.why ≡ why.Memory)
only_answer r P Refused found refused none = grind arith
