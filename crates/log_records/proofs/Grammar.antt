-- Lines and their parts.
use Rattle.std.proofs.Common.{◌≡◌, ℕ, ◌+◌, ◌≤◌, inl, inr, List, [], ◌∷◌, ◌++◌, length, Result, Ok, Err, Contains, refl, sym, ap, subst, ◌∙◌, append_assoc, arith}
use Rattle.std.specs.Result.{MatchResult, IfOk, IfErr}
use Rattle.log_records.proofs.Words.{AreClickParts, AreQueryParts, ClickRec, ClickWhy, EventId, IsClick, IsIdText, IsQuery, Lacks, OrMemory, QueryRec, QueryWhy, TextWhy, Why, click_line, drop_at, get_or_at, head, length-append, length-spell-le, position_at, query_line, space, spell_lacks, spell_same, split_same, tail, take_at}
use Rattle.event_id.specs.EventId.{spell, IsId}
use Rattle.log_records.specs.declared.lines.TheConstants.{MAX_LINE}
use Rattle.log_records.specs.declared.why.Why.TheVariants as why
use Rattle.log_records.specs.Text.{IsText}

pub head_is : (front rest : List ℕ) → Lacks space front → head (front ++ space ∷ rest) ≡ front
head_is front rest h = rw (position_at space front rest h) (take_at front (space ∷ rest) (length front) refl)

pub tail_is : (front rest : List ℕ) → Lacks space front → tail (front ++ space ∷ rest) ≡ rest
tail_is front rest h =
    let regrouped : front ++ space ∷ rest ≡ (front ++ space ∷ []) ++ rest = sym (append_assoc front (space ∷ []) rest) in
    rw (position_at space front rest h, regrouped) (drop_at (front ++ space ∷ []) rest (length front + 1) (omega (arith, length-append front (space ∷ []))))

pub has_space : (front rest : List ℕ) → Contains (front ++ space ∷ rest) space
has_space front rest = (length front, omega (arith, length-append front (space ∷ rest)), get_or_at front space rest space (length front) refl)

-- nothing is wrong with a text
text_right : (text : List ℕ) (w : Why) → IsText text → TextWhy text w → ⊥
text_right text w h k = grind arith

-- nothing is wrong with a line of the grammar
pub query_right : (line : List ℕ) (q : QueryRec) (w : Why) → IsQuery q → line ≡ query_line q → QueryWhy line w → ⊥
query_right line q w h e (inl d) = grind (arith, length-append, length-spell-le)
query_right line q w h e (inr (long, inl d)) = d.0 (subst (λ l. Contains l space) (sym e) (has_space (spell q.id) q.text))
query_right line q w h e (inr (long, inr (some, inl d))) = d.0 (q.id, h.id, ap head e ∙ head_is (spell q.id) q.text (spell_lacks space q.id (omega arith) h.id))
query_right line q w h e (inr (long, inr (some, inr (id, t)))) =
    text_right q.text w h.text (subst (λ l. TextWhy l w) (ap tail e ∙ tail_is (spell q.id) q.text (spell_lacks space q.id (omega arith) h.id)) t)

-- what follows the first space of a click line
abbrev rest_of : ClickRec → List ℕ
rest_of c = spell c.query ++ space ∷ c.text

click_tail : (line : List ℕ) (c : ClickRec) → IsClick c → line ≡ click_line c → tail line ≡ rest_of c
click_tail line c h e = ap tail e ∙ tail_is (spell c.id) (rest_of c) (spell_lacks space c.id (omega arith) h.id)

pub click_right : (line : List ℕ) (c : ClickRec) (w : Why) → IsClick c → line ≡ click_line c → ClickWhy line w → ⊥
click_right line c w h e (inl d) = grind (arith, length-append, length-spell-le)
click_right line c w h e (inr (long, inl d)) =
    d.0 (subst (λ l. Contains l space) (sym e) (has_space (spell c.id) (rest_of c)), subst (λ l. Contains l space) (sym (click_tail line c h e)) (has_space (spell c.query) c.text))
click_right line c w h e (inr (long, inr (some, inl d))) = d.0 (c.id, h.id, ap head e ∙ head_is (spell c.id) (rest_of c) (spell_lacks space c.id (omega arith) h.id))
click_right line c w h e (inr (long, inr (some, inr (id, inl d)))) =
    d.0 (c.query, h.query, ap head (click_tail line c h e) ∙ head_is (spell c.query) c.text (spell_lacks space c.query (omega arith) h.query))
click_right line c w h e (inr (long, inr (some, inr (id, inr (query, t))))) =
    text_right c.text w h.text (subst (λ l. TextWhy l w) (ap tail (click_tail line c h e) ∙ tail_is (spell c.query) c.text (spell_lacks space c.query (omega arith) h.query)) t)

-- a line has one record
pub query_same : (q r : QueryRec) → IsQuery q → IsQuery r → query_line q ≡ query_line r → q ≡ r
query_same q r h k e =
    let parts = split_same space (spell q.id) q.text (spell r.id) r.text (spell_lacks space q.id (omega arith) h.id) (spell_lacks space r.id (omega arith) k.id) e in
    let id : q.id ≡ r.id = spell_same q.id r.id h.id k.id parts.0 in
    let of : (x : EventId) (t : List ℕ) → QueryRec = λ x t. record { id = x; text = t } in
    ap (λ (x : EventId). of x q.text) id ∙ ap (λ (t : List ℕ). of r.id t) parts.1

pub click_same : (c d : ClickRec) → IsClick c → IsClick d → click_line c ≡ click_line d → c ≡ d
click_same c d h k e =
    let outer = split_same space (spell c.id) (rest_of c) (spell d.id) (rest_of d) (spell_lacks space c.id (omega arith) h.id) (spell_lacks space d.id (omega arith) k.id) e in
    let inner = split_same space (spell c.query) c.text (spell d.query) d.text (spell_lacks space c.query (omega arith) h.query) (spell_lacks space d.query (omega arith) k.query) outer.1 in
    let id : c.id ≡ d.id = spell_same c.id d.id h.id k.id outer.0 in
    let query : c.query ≡ d.query = spell_same c.query d.query h.query k.query inner.0 in
    let of : (x y : EventId) (t : List ℕ) → ClickRec = λ x y t. record { id = x; query = y; text = t } in
    ap (λ (x : EventId). of x c.query c.text) id ∙ ap (λ (y : EventId). of d.id y c.text) query ∙ ap (λ (t : List ℕ). of d.id d.query t) inner.1

-- so what is spelled so is read, unless memory runs out
pub only_query : (r : Result QueryRec Why) (line : List ℕ) → IfOk r (λ q. IsQuery q × (line ≡ query_line q)) → IfErr r (OrMemory (QueryWhy line)) → (q : QueryRec) → IsQuery q → line ≡ query_line q → MatchResult r (λ p. p ≡ q) (λ w. w ≡ why.Memory)
only_query (Ok p) line found wrong q h e = query_same p q found.0 h (sym found.1 ∙ e)
only_query (Err w) line found (inl memory) q h e = memory
only_query (Err w) line found (inr wrong) q h e = absurd (query_right line q w h e wrong)

pub only_click : (r : Result ClickRec Why) (line : List ℕ) → IfOk r (λ c. IsClick c × (line ≡ click_line c)) → IfErr r (OrMemory (ClickWhy line)) → (c : ClickRec) → IsClick c → line ≡ click_line c → MatchResult r (λ d. d ≡ c) (λ w. w ≡ why.Memory)
only_click (Ok p) line found wrong q h e = click_same p q found.0 h (sym found.1 ∙ e)
only_click (Err w) line found (inl memory) q h e = memory
only_click (Err w) line found (inr wrong) q h e = absurd (click_right line q w h e wrong)

-- ---- the parts of a line

pub query_parts_are : (line : List ℕ) (id : EventId) (front text : List ℕ) → line ≡ front ++ space ∷ text → IsId id × (front ≡ spell id) → IsText text → AreQueryParts id text line
query_parts_are line id front text e is h = (record { id = id; text = text }, record { id = is.0; text = h }, e ∙ ap (λ (f : List ℕ). f ++ space ∷ text) is.1, refl, refl)

pub click_parts_are : (line : List ℕ) (id query : EventId) (front rest middle text : List ℕ) → line ≡ front ++ space ∷ rest → rest ≡ middle ++ space ∷ text → IsId id × (front ≡ spell id) → IsId query × (middle ≡ spell query) → IsText text → AreClickParts id query text line
click_parts_are line id query front rest middle text e f is is-query h = (
  record { id = id; query = query; text = text },
  record { id = is.0; query = is-query.0; text = h },
  e ∙ ap (λ (x : List ℕ). x ++ space ∷ rest) is.1 ∙ ap (λ (x : List ℕ). spell id ++ space ∷ x) (f ∙ ap (λ (x : List ℕ). x ++ space ∷ text) is-query.1),
  refl,
  refl,
  refl,
)

-- ---- the first that is wrong

-- what is wrong with the text is wrong with the line, where all before it is right
pub wrong_text : (line text : List ℕ) (w : Why) → length line ≤ MAX_LINE → Contains line space → IsIdText (head line) → text ≡ tail line → TextWhy text w → QueryWhy line w
wrong_text line text w long some id e wrong = inr (long, inr (some, inr (id, subst (λ t. TextWhy t w) e wrong)))

pub wrong_id : (line bytes : List ℕ) (w : Why) → length line ≤ MAX_LINE → Contains line space → bytes ≡ head line → (w ≡ why.Id) × (IsIdText bytes → ⊥) → QueryWhy line w
wrong_id line bytes w long some e wrong = inr (long, inr (some, inl (subst (λ b. IsIdText b → ⊥) e wrong.1, wrong.0)))

abbrev pub SpacedTwice : List ℕ → Type 0
SpacedTwice line = Contains line space × Contains (tail line) space

pub wrong_click_text : (line text : List ℕ) (w : Why) → length line ≤ MAX_LINE → SpacedTwice line → IsIdText (head line) → IsIdText (head (tail line)) → text ≡ tail (tail line) → TextWhy text w → ClickWhy line w
wrong_click_text line text w long some id query e wrong = inr (long, inr (some, inr (id, inr (query, subst (λ t. TextWhy t w) e wrong))))

pub wrong_click_id : (line bytes : List ℕ) (w : Why) → length line ≤ MAX_LINE → SpacedTwice line → bytes ≡ head line → (w ≡ why.Id) × (IsIdText bytes → ⊥) → ClickWhy line w
wrong_click_id line bytes w long some e wrong = inr (long, inr (some, inl (subst (λ b. IsIdText b → ⊥) e wrong.1, wrong.0)))

pub wrong_query_id : (line bytes : List ℕ) (w : Why) → length line ≤ MAX_LINE → SpacedTwice line → IsIdText (head line) → bytes ≡ head (tail line) → (w ≡ why.QueryId) × (IsIdText bytes → ⊥) → ClickWhy line w
wrong_query_id line bytes w long some id e wrong = inr (long, inr (some, inr (id, inl (subst (λ b. IsIdText b → ⊥) e wrong.1, wrong.0))))
