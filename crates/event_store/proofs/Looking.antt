-- What one line more says of an id.
use Rattle.std.proofs.Common.{◌≡◌, ℕ, ◌<◌, List, [], ◌∷◌, ◌++◌, Bool, Option, Some, None, true, false, refl, sym, ap, ◌∙◌, subst, arith}
use Rattle.std.specs.Option.{option_eq}
use Rattle.event_store.proofs.Words.{both_ways, split_same, EventId, is_same, spell, QueryRec, IsQuery, query_line, QueryWhy, Why, query_right, space, Line, Long, IsNext, ReadsAs, ReadsNext, AreRead, TellsId, found, Starts}
use Rattle.event_store.proofs.Orders.{same_id, same_itself}
use Rattle.event_store.proofs.Refused.{long_line}
use Rattle.event_store.proofs.Walks.{read_same, next_same, next_beyond, line_at, walk_push, found_new}

-- the line that is handed out is the next one
pub handed_out : (log : List ℕ) (place p e next : ℕ) (line : List ℕ) (read : Option QueryRec) → IsNext log place (Line p e) line → ReadsNext log place next read → (e ≡ next) × ReadsAs line read
handed_out log place p e next line read h k = grind (arith, split_same)

-- a line that is too long is none
pub passed_over : (log : List ℕ) (place p e next : ℕ) (line front : List ℕ) (read : Option QueryRec) → IsNext log place (Long p e) line → ReadsNext log place next read → (e ≡ next) × TellsId front read None
passed_over log place p e next line front read told step =
    let one = next_same log place e next None read (long_line log place p e told) step in
    (one.0, subst (λ (r : Option QueryRec). TellsId front r None) one.1 refl)

-- a line that doesn't begin with the front
pub not_begun : (line front : List ℕ) (read : Option QueryRec) (begins : Bool) → ((rest : List ℕ) → line ≡ front ++ rest → begins ≡ true) → begins ≡ false → ReadsAs line read → TellsId front read None
not_begun line front read begins only not reads = grind arith

-- a line that is a record's, and one that isn't
pub told_record : (line front : List ℕ) (read : Option QueryRec) (id : EventId) (q : QueryRec) → IsQuery q → line ≡ query_line q → q.id ≡ id → ReadsAs line read → TellsId front read (Some id)
told_record line front read id q is line_is own reads =
    subst (λ (r : Option QueryRec). TellsId front r (Some id)) (read_same line (Some q) read (is, line_is) reads) (sym own, λ rest begins. ap (λ (i : EventId). Some i) (sym own))

pub told_none : (line front : List ℕ) (read : Option QueryRec) (w : Why) → QueryWhy line w → ReadsAs line read → TellsId front read None
told_none line front None w why reads = refl
told_none line front (Some q) w why reads = absurd (query_right line q w reads.0 reads.1 why)

-- the line has the id that is told
pub told_id : (front : List ℕ) (read : Option QueryRec) (id : EventId) → TellsId front read (Some id) → (q : QueryRec) × (read ≡ Some q) × (q.id ≡ id)
told_id front read id told = grind arith

-- and hasn't another one
told_other : (id : EventId) (read : Option QueryRec) (told : Option EventId) → TellsId (spell id) read told → (told ≡ Some id → ⊥) → found (read ∷ []) id ≡ None
told_other id None told tells other = refl
told_other id (Some q) told tells other = here (is_same id q.id) refl
  where
    here : (t : Bool) → is_same id q.id ≡ t → found (Some q ∷ []) id ≡ None
    here false is = rw is refl
    here true is =
        let same : q.id ≡ id = sym (same_id id q.id is) in
        absurd (other (tells.1 (space ∷ q.text) (ap (λ (i : EventId). spell i ++ space ∷ q.text) same) ∙ ap (λ (i : EventId). Some i) same))

-- by a comparison of ids
pub is_told : (eq : EventId → EventId → Bool) → ((a b : EventId) → eq a b ≡ is_same a b) → (told : Option EventId) (id : EventId) → true ≡ option_eq eq told (Some id) → told ≡ Some id
is_told eq same told id e = grind arith

pub not_told : (eq : EventId → EventId → Bool) → ((a b : EventId) → eq a b ≡ is_same a b) → (told : Option EventId) (id : EventId) → false ≡ option_eq eq told (Some id) → told ≡ Some id → ⊥
not_told eq same told id e is = both_ways (option_eq eq told (Some id)) (sym e) (ap (λ (o : Option EventId). option_eq eq o (Some id)) is ∙ same id id ∙ same_itself id)

-- none of these lines up to the place has the id
abbrev pub Lacking : List ℕ → ℕ → EventId → Type 0
Lacking log place id = (front : List (Option QueryRec)) × AreRead log place front × (found front id ≡ None)

-- a line that was looked at: it is the first with the id, or the next ones follow
pub looked_at : (log : List ℕ) (place new end_ : ℕ) (lines : List (Option QueryRec)) (id : EventId) (told : Option EventId) → Lacking log place id → AreRead log end_ lines → place < end_ → ((next : ℕ) (read : Option QueryRec) → ReadsNext log place next read → (new ≡ next) × TellsId (spell id) read told) → (place < new) × (told ≡ Some id → Starts log id place) × ((told ≡ Some id → ⊥) → Lacking log new id)
looked_at log place new end_ lines id told (front, walk, none) all lt look =
    let at = line_at log place end_ front lines walk all lt in
    let one = look at.0 at.1 at.2 in
    let beyond = next_beyond log place at.0 at.1 at.2 in (
      omega (arith, beyond, one.0),
      λ is.
          let own = told_id (spell id) at.1 id (subst (TellsId (spell id) at.1) is one.1) in
          (front, walk, none, (at.0, own.0, subst (ReadsNext log place at.0) own.1 at.2, own.2)),
      λ other. (front ++ at.1 ∷ [], subst (λ (n : ℕ). AreRead log n (front ++ at.1 ∷ [])) (sym one.0) (walk_push log 0 place at.0 front at.1 walk at.2), found_new front at.1 id none ∙ told_other id at.1 told one.1 other),
    )
