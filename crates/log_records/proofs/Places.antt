-- Longer logs, and the places of click lines.
use Rattle.std.proofs.Common.{◌≡◌, ℕ, suc, ◌+◌, inl, inr, List, [], ◌∷◌, ◌++◌, length, map, refl, sym, ap, subst, ◌∙◌, append_assoc, arith}
use Rattle.std.specs.Prelude.{Contains}
use Rattle.log_records.proofs.Words.{AllByRecursion, ClickRec, HasLines, IsClick, IsQuery, Lacks, click_line, lacks_none, length-append, line_feed, query_line, split_same, whole}
use Rattle.list_words.specs.Lists.{Mem, Begins}
use Rattle.log_records.proofs.Grammar.{query_same, click_same}
use Rattle.log_records.specs.Lines.{ClickLine, placed, end_from, Follow, QueriesBegin, LinesBegin, LinesFollow, IsInLog, LinesStand, LinesEnd}
use Rattle.log_records.proofs.Reading.{one_more, query_lacks, click_lacks}

-- ---- longer logs

module _ {R : Type 0} (line : R → List ℕ) (P : R → Type 0) (lacks : (r : R) → P r → Lacks line_feed (line r)) (same : (r s : R) → P r → P s → line r ≡ line s → r ≡ s) where
  records_begin : (rs ss : List R) (tail rest : List ℕ) → AllByRecursion P rs → AllByRecursion P ss → Lacks line_feed rest → whole (map line rs) ++ tail ≡ whole (map line ss) ++ rest → Begins rs ss
  records_begin [] ss tail rest h k none e = (ss, refl)
  records_begin (r ∷ rs) [] tail rest h k none e = absurd (lacks_none line_feed (line r) (whole (map line rs) ++ tail) (subst (Lacks line_feed) (sym e ∙ one_more (line r) (map line rs) tail) none))
  records_begin (r ∷ rs) (s ∷ ss) tail rest h k none e = grind (arith, split_same, one_more, records_begin rs ss tail rest h.1 k.1 none)

  log_begins : (log more : List ℕ) (rs ss : List R) → AllByRecursion P rs → AllByRecursion P ss → HasLines log (map line rs) → HasLines (log ++ more) (map line ss) → Begins rs ss
  log_begins log more rs ss h k p q = records_begin rs ss (p.0 ++ more) q.0 h k q.2 (sym (append_assoc (whole (map line rs)) p.0 more) ∙ ap (λ (x : List ℕ). x ++ more) (sym p.1) ∙ q.1)

pub queries_begin : QueriesBegin
queries_begin log more qs rs h k = log_begins query_line IsQuery query_lacks query_same log more qs rs h.each k.each h.lines k.lines

-- where a list begins another, so do their places
placed_append : (p : ℕ) (cs ds : List ClickRec) → placed p (cs ++ ds) ≡ placed p cs ++ placed (end_from p (placed p cs)) ds
placed_append p [] ds = refl
placed_append p (c ∷ cs) ds = let rest = placed_append (suc (p + length (click_line c))) cs ds in ap (λ (ls : List ClickLine). record { place = p; end_ = suc (p + length (click_line c)); click = c } ∷ ls) rest

pub lines_begin : LinesBegin
lines_begin log more ls ms h k =
    let b = log_begins click_line IsClick click_lacks click_same log more h.clicks k.clicks h.holds.each k.holds.each h.holds.lines k.holds.lines in
    let rest = placed (end_from 0 (placed 0 h.clicks)) b.0 in
    (rest, k.lines ∙ ap (placed 0) b.1 ∙ placed_append 0 h.clicks b.0 ∙ ap (λ (x : List ClickLine). x ++ rest) (sym h.lines))

-- ---- places

placed_follow : (p : ℕ) (cs : List ClickRec) → Follow p (placed p cs)
placed_follow p [] = tt
placed_follow p (c ∷ cs) = (refl, omega arith, placed_follow (suc (p + length (click_line c))) cs)

placed_contains : (p : ℕ) (cs : List ClickRec) (l : ClickLine) → Mem l (placed p cs) → Contains cs l.click
placed_contains p [] l m = absurd m
placed_contains p (c ∷ cs) l (inl e) = (0, omega arith, ap (λ (y : ClickLine). y.click) e)
placed_contains p (c ∷ cs) l (inr m) = let h = placed_contains (suc (p + length (click_line c))) cs l m in let lt = h.1 in (suc h.0, omega arith, h.2)

pub lines_follow : LinesFollow
lines_follow log ls h = grind (arith, placed_follow, placed_contains)

longer : (c : ClickRec) (front : List ℕ) (p : ℕ) → length front ≡ p → length (front ++ (click_line c ++ line_feed ∷ [])) ≡ suc (p + length (click_line c))
longer c front p len = grind (arith, length-append)

-- the lines of a list stand behind some bytes
module _ (log : List ℕ) where
  stands : (p : ℕ) (cs : List ClickRec) (front rest : List ℕ) → length front ≡ p → log ≡ front ++ (whole (map click_line cs) ++ rest) → (l : ClickLine) → Mem l (placed p cs) → IsInLog log l
  stands p [] front rest len e l m = absurd m
  stands p (c ∷ cs) front rest len e l (inl s) =
      subst (IsInLog log) s (front, whole (map click_line cs) ++ rest, e ∙ ap (λ (x : List ℕ). front ++ x) (one_more (click_line c) (map click_line cs) rest), len, refl)
  stands p (c ∷ cs) front rest len e l (inr m) =
      stands (suc (p + length (click_line c))) cs (front ++ (click_line c ++ line_feed ∷ [])) rest (longer c front p len) (e ∙ ap (λ (x : List ℕ). front ++ x) (append_assoc (click_line c ++ line_feed ∷ []) (whole (map click_line cs)) rest) ∙ sym (append_assoc front (click_line c ++ line_feed ∷ []) (whole (map click_line cs) ++ rest))) l m

  ends : (p : ℕ) (cs : List ClickRec) (front rest : List ℕ) → length front ≡ p → log ≡ front ++ (whole (map click_line cs) ++ rest) → Lacks line_feed rest → (before after : List ℕ) × (log ≡ before ++ after) × (length before ≡ end_from p (placed p cs)) × Lacks line_feed after
  ends p [] front rest len e none = (front, rest, e, len, none)
  ends p (c ∷ cs) front rest len e none =
      ends (suc (p + length (click_line c))) cs (front ++ (click_line c ++ line_feed ∷ [])) rest (longer c front p len) (e ∙ ap (λ (x : List ℕ). front ++ x) (append_assoc (click_line c ++ line_feed ∷ []) (whole (map click_line cs)) rest) ∙ sym (append_assoc front (click_line c ++ line_feed ∷ []) (whole (map click_line cs) ++ rest))) none

pub lines_stand : LinesStand
lines_stand log ls h l m = stands log 0 h.clicks [] h.holds.lines.0 refl h.holds.lines.1 l (subst (Mem l) h.lines m)

pub lines_end : LinesEnd
lines_end log ls h =
    subst (λ (x : List ClickLine). (front rest : List ℕ) × (log ≡ front ++ rest) × (length front ≡ end_from 0 x) × Lacks line_feed rest) (sym h.lines) (ends log 0 h.clicks [] h.holds.lines.0 refl h.holds.lines.1 h.holds.lines.2)
