-- A log holds the records of one list.
use Rattle.std.proofs.Common.{◌≡◌, ℕ, List, [], ◌∷◌, ◌++◌, map, refl, sym, subst, ◌∙◌, append_assoc, arith}
use Rattle.log_records.proofs.Words.{AllByRecursion, ClickRec, HasLines, HoldsClicks, HoldsQueries, IsClick, IsQuery, Lacks, QueryRec, click_line, lacks_append, lacks_none, line_feed, query_line, recursion_from_All, spell_lacks, split_same, whole}
use Rattle.log_records.specs.Text.{IsText, IsPrintable}
use Rattle.log_records.proofs.Grammar.{query_same, click_same}

-- the first line, and the log behind it
pub one_more : (line : List ℕ) (lines : List (List ℕ)) (rest : List ℕ) → whole (line ∷ lines) ++ rest ≡ line ++ line_feed ∷ (whole lines ++ rest)
one_more line lines rest = append_assoc (line ++ line_feed ∷ []) (whole lines) rest ∙ append_assoc line (line_feed ∷ []) (whole lines ++ rest)

lines_same : (ls ks : List (List ℕ)) (r s : List ℕ) → AllByRecursion (Lacks line_feed) ls → AllByRecursion (Lacks line_feed) ks → Lacks line_feed r → Lacks line_feed s → whole ls ++ r ≡ whole ks ++ s → ls ≡ ks
lines_same [] [] r s p q u v e = refl
lines_same [] (k ∷ ks) r s p q u v e = absurd (lacks_none line_feed k (whole ks ++ s) (subst (Lacks line_feed) (e ∙ one_more k ks s) u))
lines_same (l ∷ ls) [] r s p q u v e = absurd (lacks_none line_feed l (whole ls ++ r) (subst (Lacks line_feed) (sym e ∙ one_more l ls r) v))
lines_same (l ∷ ls) (k ∷ ks) r s p q u v e = grind (arith, split_same, one_more, lines_same ls ks r s p.1 q.1 u v)

printable_lacks : (text : List ℕ) → AllByRecursion IsPrintable text → Lacks line_feed text
printable_lacks [] h = tt
printable_lacks (x ∷ xs) h = (λ e. omega (arith, h.0.0), printable_lacks xs h.1)

text_lacks : (text : List ℕ) → IsText text → Lacks line_feed text
text_lacks text h = printable_lacks text (recursion_from_All IsPrintable text h.bytes)

pub query_lacks : (q : QueryRec) → IsQuery q → Lacks line_feed (query_line q)
query_lacks q h = lacks_append line_feed _ _ (spell_lacks line_feed q.id (omega arith) h.id) (λ e. omega arith, text_lacks q.text h.text)

pub click_lacks : (c : ClickRec) → IsClick c → Lacks line_feed (click_line c)
click_lacks c h =
    lacks_append line_feed _ _ (spell_lacks line_feed c.id (omega arith) h.id) (λ e. omega arith, lacks_append line_feed _ _ (spell_lacks line_feed c.query (omega arith) h.query) (λ e. omega arith, text_lacks c.text h.text))

pub all_lack : {R : Type 0} (line : R → List ℕ) (P : R → Type 0) → ((r : R) → P r → Lacks line_feed (line r)) → (rs : List R) → AllByRecursion P rs → AllByRecursion (Lacks line_feed) (map line rs)
all_lack line P lacks [] h = tt
all_lack line P lacks (r ∷ rs) h = (lacks r h.0, all_lack line P lacks rs h.1)

records_same : {R : Type 0} (line : R → List ℕ) (P : R → Type 0) → ((r s : R) → P r → P s → line r ≡ line s → r ≡ s) → (rs ss : List R) → AllByRecursion P rs → AllByRecursion P ss → map line rs ≡ map line ss → rs ≡ ss
records_same line P same [] [] h k e = refl
records_same line P same [] (s ∷ ss) h k e = absurd cc
records_same line P same (r ∷ rs) [] h k e = absurd cc
records_same {R} line P same (r ∷ rs) (s ∷ ss) h k e = grind (arith, records_same line P same rs ss h.1 k.1)

log_same : {R : Type 0} (line : R → List ℕ) (P : R → Type 0) → ((r : R) → P r → Lacks line_feed (line r)) → ((r s : R) → P r → P s → line r ≡ line s → r ≡ s) → (log : List ℕ) (rs ss : List R) → AllByRecursion P rs → AllByRecursion P ss → HasLines log (map line rs) → HasLines log (map line ss) → rs ≡ ss
log_same line P lacks same log rs ss h k p q = grind (arith, records_same, lines_same, all_lack)

pub queries_same : (log : List ℕ) (qs rs : List QueryRec) → HoldsQueries log qs → HoldsQueries log rs → qs ≡ rs
queries_same log qs rs h k = log_same query_line IsQuery query_lacks query_same log qs rs h.each k.each h.lines k.lines

pub clicks_same : (log : List ℕ) (cs ds : List ClickRec) → HoldsClicks log cs → HoldsClicks log ds → cs ≡ ds
clicks_same log cs ds h k = log_same click_line IsClick click_lacks click_same log cs ds h.each k.each h.lines k.lines
