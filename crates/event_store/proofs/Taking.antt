-- What is known after one line more.
use Rattle.std.proofs.Common.{◌≡◌, ℕ, ◌+◌, ◌<◌, Bool, true, false, cond, List, [], ◌∷◌, ◌++◌, Option, Some, None, MatchOption, refl, sym, ap, ◌∙◌, arith, length-append}
use Rattle.event_store.proofs.Words.{option_or, EventId, is_same, QueryRec, Index, ReadsNext, AreRead, found, ids_onto, Mark, First, Keeps, as_first, first_of, ids_of, Falls, Starts, IsCache, Holds}
use Rattle.event_store.proofs.Orders.{same_id, same_itself}
use Rattle.event_store.proofs.Walks.{next_beyond, walk_push, found_append, found_new}

-- the line among those with a record
abbrev pub with_line : ℕ → Option QueryRec → List Mark → List Mark
with_line place None marks = marks
with_line place (Some q) marks = record { place = place; id = q.id } ∷ marks

falls_more : (place e : ℕ) (marks : List Mark) → place < e → Falls place marks → Falls e marks
falls_more place e [] lt falls = tt
falls_more place e (m ∷ marks) lt falls = (omega (arith, falls.0, lt), falls.1)

falls_with : (place e : ℕ) (r : Option QueryRec) (marks : List Mark) → place < e → Falls place marks → Falls e (with_line place r marks)
falls_with place e r marks lt falls = grind (arith, falls_more)

pub ids_append : (earlier : List EventId) (lines more : List (Option QueryRec)) → ids_onto earlier (lines ++ more) ≡ ids_onto (ids_onto earlier lines) more
ids_append earlier [] more = refl
ids_append earlier (None ∷ lines) more = ids_append earlier lines more
ids_append earlier (Some q ∷ lines) more = ids_append (q.id ∷ earlier) lines more

ids_with : (place : ℕ) (r : Option QueryRec) (marks : List Mark) → ids_of (with_line place r marks) ≡ ids_onto (ids_of marks) (r ∷ [])
ids_with place r marks = grind arith

pub cached_more : (kept : List (EventId × QueryRec)) (lines : List (Option QueryRec)) (r : Option QueryRec) → IsCache kept lines → IsCache kept (lines ++ r ∷ [])
cached_more kept lines r cache = λ e has. found_append lines (r ∷ []) e.0 ∙ ap (λ (o : Option QueryRec). option_or o (found (r ∷ []) e.0)) (cache e has)

abbrev Tied : List ℕ → List (Option QueryRec) → List Mark → EventId → Type 0
Tied log lines marks id = MatchOption (first_of marks id) (found lines id ≡ None) (λ (f : First). Starts log id f.place)

tied_with : (log : List ℕ) (place e : ℕ) (r : Option QueryRec) (lines : List (Option QueryRec)) (marks : List Mark) → AreRead log place lines → ReadsNext log place e r → (id : EventId) → Tied log lines marks id → Tied log (lines ++ r ∷ []) (with_line place r marks) id
tied_with log place e None lines marks walk step id tied = grind (arith, found_new)
tied_with log place e (Some q) lines marks walk step id tied = here (first_of marks id) (is_same id q.id) refl tied
  where
    here : (o : Option First) (t : Bool) → is_same id q.id ≡ t → MatchOption o (found lines id ≡ None) (λ (f : First). Starts log id f.place) → MatchOption (option_or o (cond (is_same id q.id) (Some (as_first (record { place = place; id = q.id }) marks)) None)) (found (lines ++ Some q ∷ []) id ≡ None) (λ (f : First). Starts log id f.place)
    here (Some f) t is starts = starts
    here None true is none = rw is (lines, walk, none, (e, q, step, sym (same_id id q.id is)))
    here None false is none = rw is (found_new lines (Some q) id none ∙ (rw is refl))

-- one line more, with what is then kept of it
pub grown : (log : List ℕ) (place e count : ℕ) (r : Option QueryRec) (index after : Index) (kept now : List (EventId × QueryRec)) → (h : Holds log place count index kept) → ReadsNext log place e r → Keeps after (with_line place r h.marks) → IsCache now (h.lines ++ r ∷ []) → Holds log e (count + 1) after now
grown log place e count r index after kept now h step keeps cache = record {
  lines = h.lines ++ r ∷ [];
  marks = with_line place r h.marks;
  knows = record {
    walk = walk_push log 0 place e h.lines r h.knows.walk step;
    falls = falls_with place e r h.marks (next_beyond log place e r step) h.knows.falls;
    tied = λ id. tied_with log place e r h.lines h.marks h.knows.walk step id (h.knows.tied id);
    ids = ids_with place r h.marks ∙ ap (λ (is : List EventId). ids_onto is (r ∷ [])) h.knows.ids ∙ sym (ids_append [] h.lines (r ∷ []));
    keeps = keeps;
  };
  counts = let l = length-append h.lines (r ∷ []) in let had = h.counts in omega (arith, l, had);
  cached = cache;
}

-- a new id's line is the first of it
pub first_now : (lines : List (Option QueryRec)) (q : QueryRec) → found lines q.id ≡ None → found (lines ++ Some q ∷ []) q.id ≡ Some q
first_now lines q none = found_new lines (Some q) q.id none ∙ rw (same_itself q.id) refl
