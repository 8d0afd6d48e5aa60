-- Where the first line with an id stands, and what an index says of it.
use Rattle.std.proofs.Common.{◌≡◌, ◌≢◌, ℕ, ◌<◌, ◌≤◌, ◌%◌, ◌⊎◌, inl, inr, Bool, true, false, ◌&&◌, ◌==◌, cond, List, [], ◌∷◌, Option, Some, None, is_some, refl, sym, ap, ◌∙◌, subst, arith, eq-eqb}
use Rattle.event_store.proofs.Words.{option_or, list_any, and_from, cases_eq, cond-true, none-some, EventId, is_same, Process, same_process, is_in_order, strays, Mark, First, as_first, ids_of, same_key, key_of, progress, begins, entry_of, stray_of, first_of, Falls}
use Rattle.event_store.proofs.Orders.{same_itself, keys_one, key_itself, above}

cond_is : {A : Type 0} (t : Bool) (x : A) (o : Option A) → (t ≡ false → (y : A) × (o ≡ Some y)) → (y : A) × (cond t (Some x) o ≡ Some y)
cond_is true x o other = (x, refl)
cond_is false x o other = other refl

-- the first of m and earlier ones: an earlier one, or m where it has the id
first_cases : (m : Mark) (earlier : List Mark) (id : EventId) (f : First) → first_of (m ∷ earlier) id ≡ Some f → (first_of earlier id ≡ Some f) ⊎ ((id ≡ m.id) × (m.place ≡ f.place) × (is_in_order (ids_of earlier) m.id ≡ f.ordered))
first_cases m earlier id f e = grind arith

any_first : (marks : List Mark) (id : EventId) (f : First) → first_of marks id ≡ Some f → list_any (is_same id) (ids_of marks) ≡ true
any_first [] id f e = absurd (none-some f e)
any_first (m ∷ earlier) id f e = grind (arith, any_first earlier id f)

pub first_below : (place : ℕ) (marks : List Mark) (id : EventId) (f : First) → Falls place marks → first_of marks id ≡ Some f → f.place < place
first_below place [] id f falls e = absurd (none-some f e)
first_below place (m ∷ earlier) id f falls e = grind (arith, first_below m.place earlier id f falls.1)

-- an entry is of m, or of an earlier line
entry_cases : (m : Mark) (earlier : List Mark) (k : EventId) (s : ℕ) → entry_of (m ∷ earlier) k ≡ Some s → ((k ≡ m.id) × (is_in_order (ids_of earlier) m.id ≡ true) × (m.place ≡ s)) ⊎ (entry_of earlier k ≡ Some s)
entry_cases m earlier k s e = grind arith

any_entry : (marks : List Mark) (k : EventId) (s : ℕ) → entry_of marks k ≡ Some s → list_any (is_same k) (ids_of marks) ≡ true
any_entry [] k s e = absurd (none-some s e)
any_entry (m ∷ earlier) k s e = grind (arith, any_entry earlier k s)

entry_below : (place : ℕ) (marks : List Mark) (k : EventId) (s : ℕ) → Falls place marks → entry_of marks k ≡ Some s → s < place
entry_below place [] k s falls e = absurd (none-some s e)
entry_below place (m ∷ earlier) k s falls e = grind (arith, entry_below m.place earlier k s falls.1)

-- an entry's line is the first with its id
pub entry_first : (marks : List Mark) (k : EventId) (s : ℕ) → entry_of marks k ≡ Some s → (f : First) × (first_of marks k ≡ Some f) × (f.place ≡ s) × (f.ordered ≡ true)
entry_first [] k s e = absurd (none-some s e)
entry_first (m ∷ earlier) k s e = elim (entry_cases m earlier k s e) [
  | inl h ↦ alone (first_of earlier k) refl h
  | inr h ↦ let before = entry_first earlier k s h in (before.0, ap (λ (o : Option First). option_or o (cond (is_same k m.id) (Some (as_first m earlier)) None)) before.1, before.2, before.3)
]
  where
    alone : (o : Option First) → first_of earlier k ≡ o → (k ≡ m.id) × (is_in_order (ids_of earlier) m.id ≡ true) × (m.place ≡ s) → (f : First) × (first_of (m ∷ earlier) k ≡ Some f) × (f.place ≡ s) × (f.ordered ≡ true)
    alone (Some f) is h = absurd (let l = above (ids_of earlier) m.id k h.1 (any_first earlier k f is) (subst (λ (i : EventId). same_process m.id i ≡ true) (sym h.0) (key_itself (key_of m.id))) in let e : k.micros ≡ m.id.micros = ap (λ (i : EventId). i.micros) h.0 in omega (arith, l, e))
    alone None is h = (as_first m earlier, ap (λ (o : Option First). option_or o (cond (is_same k m.id) (Some (as_first m earlier)) None)) is ∙ cond-true (is_same k m.id) (Some (as_first m earlier)) None (subst (λ (i : EventId). is_same k i ≡ true) h.0 (same_itself k)), h.2, h.1)

module _ (k id : EventId) (one : same_process k id ≡ true) where
  keys : key_of k ≡ key_of id
  keys = keys_one (key_of k) (key_of id) one

  back : same_process id k ≡ true
  back = subst (λ (p : Process). same_key (key_of id) p ≡ true) (sym keys) (key_itself (key_of id))

  -- no line with the id stands before an entry of its process that isn't above it
  pub from_entry : (place : ℕ) (marks : List Mark) (s : ℕ) (f : First) → Falls place marks → k.micros ≤ id.micros → entry_of marks k ≡ Some s → first_of marks id ≡ Some f → s ≤ f.place
  from_entry place [] s f falls le e first = absurd (none-some s e)
  from_entry place (m ∷ earlier) s f falls le e first = grind (arith, entry_cases, above, any_first, entry_below, from_entry m.place earlier s f falls.1 le)

  -- an in-order line with the id stands before an entry of its process that is above it
  pub before_entry : (place : ℕ) (marks : List Mark) (s : ℕ) (f : First) → Falls place marks → id.micros < k.micros → entry_of marks k ≡ Some s → first_of marks id ≡ Some f → f.ordered ≡ true → f.place < s
  before_entry place [] s f falls lt e first order = absurd (none-some s e)
  before_entry place (m ∷ earlier) s f falls lt e first order = grind (arith, entry_cases, first_cases, first_below, above, any_entry, before_entry m.place earlier s f falls.1 lt)

-- an entry stays
entry_more : (m : Mark) (earlier : List Mark) (k : EventId) → (s : ℕ) × (entry_of earlier k ≡ Some s) → (s : ℕ) × (entry_of (m ∷ earlier) k ≡ Some s)
entry_more m earlier k had = cond_is (is_same k m.id && begins (ids_of earlier) m.id) m.place (entry_of earlier k) (λ _. had)

entry_new : (m : Mark) (earlier : List Mark) → begins (ids_of earlier) m.id ≡ true → entry_of (m ∷ earlier) m.id ≡ Some m.place
entry_new m earlier is = cond-true (is_same m.id m.id && begins (ids_of earlier) m.id) (Some m.place) (entry_of earlier m.id) (and_from (is_same m.id m.id) (begins (ids_of earlier) m.id) (same_itself m.id) is)

-- a process that has in-order lines has an entry
started : (marks : List Mark) (p : Process) → (progress (ids_of marks) p).lines ≢ 0 → (k : EventId) × (key_of k ≡ p) × ((s : ℕ) × (entry_of marks k ≡ Some s))
started [] p some = absurd (some refl)
started (m ∷ earlier) p some = here (started earlier p) (same_key p (key_of m.id)) (is_in_order (ids_of earlier) m.id) refl refl
  where
    old : ((progress (ids_of earlier) p).lines ≢ 0 → (k : EventId) × (key_of k ≡ p) × ((s : ℕ) × (entry_of earlier k ≡ Some s))) → (progress (ids_of earlier) p).lines ≢ 0 → (k : EventId) × (key_of k ≡ p) × ((s : ℕ) × (entry_of (m ∷ earlier) k ≡ Some s))
    old had h = let was = had h in (was.0, was.1, entry_more m earlier was.0 was.2)

    here : ((progress (ids_of earlier) p).lines ≢ 0 → (k : EventId) × (key_of k ≡ p) × ((s : ℕ) × (entry_of earlier k ≡ Some s))) → (t o : Bool) → same_key p (key_of m.id) ≡ t → is_in_order (ids_of earlier) m.id ≡ o → (k : EventId) × (key_of k ≡ p) × ((s : ℕ) × (entry_of (m ∷ earlier) k ≡ Some s))
    here had false o t e = old had (rw t at some)
    here had true false t e = old had (rw (t, e) at some)
    here had true true t e = elim (cases_eq (progress (ids_of earlier) p).lines 0) [
      | inr h ↦ old had h
      | inl h ↦
          let same : p ≡ key_of m.id = keys_one p (key_of m.id) t in
          let none : (progress (ids_of earlier) (key_of m.id)).lines ≡ 0 = subst (λ (q : Process). (progress (ids_of earlier) q).lines ≡ 0) same h in (
            m.id,
            sym same,
            (m.place, entry_new m earlier (and_from (is_in_order (ids_of earlier) m.id) _ e (ap (λ (n : ℕ). (n % 16) == 0) none))),
          )
    ]

-- an in-order line has an entry of its process that isn't above it
pub has_entry : (marks : List Mark) (id : EventId) (f : First) → first_of marks id ≡ Some f → f.ordered ≡ true → (k : EventId) × (key_of k ≡ key_of id) × (k.micros ≤ id.micros) × ((s : ℕ) × (entry_of marks k ≡ Some s))
has_entry [] id f first order = absurd (none-some f first)
has_entry (m ∷ earlier) id f first order = elim (first_cases m earlier id f first) [
  | inl g ↦ let was = has_entry earlier id f g order in (was.0, was.1, was.2, entry_more m earlier was.0 was.3)
  | inr g ↦ elim (cases_eq ((progress (ids_of earlier) (key_of m.id)).lines % 16) 0) [
    | inl h ↦ (m.id, ap key_of (sym g.0), omega (arith, ap (λ (i : EventId). i.micros) g.0), (m.place, entry_new m earlier (and_from (is_in_order (ids_of earlier) m.id) _ (g.2 ∙ order) (eq-eqb _ 0 h))))
    | inr h ↦
        let was = started earlier (key_of m.id) (λ (z : (progress (ids_of earlier) (key_of m.id)).lines ≡ 0). h (ap (λ (n : ℕ). n % 16) z)) in
        let l : was.0.micros < m.id.micros = above (ids_of earlier) m.id was.0 (g.2 ∙ order) (any_entry earlier was.0 was.2.0 was.2.1) (subst (λ (p : Process). same_key (key_of m.id) p ≡ true) (sym was.1) (key_itself (key_of m.id))) in
        (was.0, was.1 ∙ ap key_of (sym g.0), omega (arith, l, ap (λ (i : EventId). i.micros) g.0), entry_more m earlier was.0 was.2)
  ]
]

pub no_stray : (marks : List Mark) (id : EventId) → first_of marks id ≡ None → stray_of marks id ≡ None
no_stray [] id e = refl
no_stray (m ∷ earlier) id e = grind (arith, no_stray earlier id)

-- where the first line with an id is a stray, it is the one kept
pub stray_first : (marks : List Mark) (id : EventId) (f : First) → first_of marks id ≡ Some f → f.ordered ≡ false → stray_of marks id ≡ Some f.place
stray_first [] id f first stray = absurd (none-some f first)
stray_first (m ∷ earlier) id f first stray = grind (arith, no_stray, stray_first earlier id f)

-- no line has an id that would be in order
pub no_first : (marks : List Mark) (id : EventId) → is_in_order (ids_of marks) id ≡ true → first_of marks id ≡ None
no_first marks id order = grind (arith, above, any_first)

-- which ids have a stray line
pub stray_any : (marks : List Mark) (id : EventId) → list_any (is_same id) (strays (ids_of marks)) ≡ is_some (stray_of marks id)
stray_any [] id = refl
stray_any (m ∷ earlier) id = grind (arith, stray_any earlier id)
