-- What forbids a start, batch by batch.
use Rattle.std.proofs.Common.{◌≡◌, ⊎_elim, ℕ, ◌<◌, ◌≤◌, Bool, List, [], ◌∷◌, ◌++◌, map, Option, Some, None, refl, sym, ◌∙◌, ap, arith, lt-ltb, max, if◌then◌else◌}
use Rattle.verify_pass.proofs.Words.{option_map, flat_map, fold, flat_map-append, map-append, cases_lt, le-ltb, fold-append, Each, each_at, each_from, each_append, mem_left, mem_right, Note, note_view, ReplicaNote, EventId, Insert, Batch, bound_of, Latest, TooSoon, Bound, Id, batches_in, batches_of, inserts_of, lesser, least_with, least_from, too_soon_for, taken, IsEarlier, IsBefore}

abbrev pub latest : ℕ → Option EventId → Latest
latest bound id = record { bound = bound; id = id }

-- what is found of batches is the greatest bound, and the least id of all inserts
pub taken_all : (start : ℕ) (l : Latest) (vs : List Batch) → fold (taken start) l vs ≡ latest (max l.bound (bound_of vs)) (least_from start l.id (inserts_of vs))
taken_all start l [] = ap (λ (n : ℕ). latest n l.id) (let e : l.bound ≡ max l.bound 0 = omega arith in e)
taken_all start l (v ∷ vs) =
    taken_all start (taken start l v) vs
    ∙ ap (λ (n : ℕ). latest n (least_from start (least_from start l.id v.inserts) (inserts_of vs))) (let e : max (max l.bound v.bound) (bound_of vs) ≡ max l.bound (max v.bound (bound_of vs)) = omega arith in e)
    ∙ ap (λ (o : Option EventId). latest (max l.bound (max v.bound (bound_of vs))) o) (sym (fold-append (least_with start) l.id v.inserts (inserts_of vs)))

-- what is found with the batches of one thing more
fold_more : {X : Type 0} (f : X → List Batch) (start : ℕ) (l : Latest) (xs : List X) (x : X) → fold (taken start) (fold (taken start) l (flat_map f xs)) (f x) ≡ fold (taken start) l (flat_map f (xs ++ x ∷ []))
fold_more f start l xs x = grind (arith, fold-append, flat_map-append)

pub notes_more : (start : ℕ) (l : Latest) (ns : List ReplicaNote) (n : ReplicaNote)
    → fold (taken start) (fold (taken start) l (batches_in (map note_view ns))) (batches_of (note_view n)) ≡ fold (taken start) l (batches_in (map note_view (ns ++ n ∷ [])))
notes_more start l ns n = fold_more batches_of start l (map note_view ns) (note_view n) ∙ ap (λ (xs : List (Note Batch)). fold (taken start) l (batches_in xs)) (sym (map-append note_view ns (n ∷ [])))

-- an insert that is earlier than the start, and another one
passes : (start : ℕ) (o : Option EventId) (x : Insert) (xs : List Insert) → x.id.micros < start → least_from start o (x ∷ xs) ≡ least_from start o xs
passes start o x xs lt = ap (λ (b : Bool). least_from start (if b then o else Some (lesser o x.id)) xs) (lt-ltb x.id.micros start lt)

takes : (start : ℕ) (o : Option EventId) (x : Insert) (xs : List Insert) → start ≤ x.id.micros → least_from start o (x ∷ xs) ≡ least_from start (Some (lesser o x.id)) xs
takes start o x xs le = ap (λ (b : Bool). least_from start (if b then o else Some (lesser o x.id)) xs) (le-ltb x.id.micros start le)

stays : (start : ℕ) (i : EventId) (xs : List Insert) → least_from start (Some i) xs ≡ None → ⊥
stays start i [] e = grind arith
stays start i (x ∷ xs) e =
    ⊎_elim (λ lt. stays start i xs (sym (passes start (Some i) x xs lt) ∙ e)) (λ le. stays start (lesser (Some i) x.id) xs (sym (takes start (Some i) x xs le) ∙ e)) (cases_lt x.id.micros start)

none_each : (start : ℕ) (xs : List Insert) → least_from start None xs ≡ None → Each (IsEarlier start) xs
none_each start [] e = tt
none_each start (x ∷ xs) e = grind (arith, stays, takes, none_each start xs)

each_none : (start : ℕ) (xs : List Insert) → Each (IsEarlier start) xs → least_from start None xs ≡ None
each_none start [] h = refl
each_none start (x ∷ xs) h = passes start None x xs h.0 ∙ each_none start xs h.1

each_before : (start : ℕ) (vs : List Batch) → bound_of vs ≤ start → Each (IsEarlier start) (inserts_of vs) → Each (IsBefore start) vs
each_before start [] b h = tt
each_before start (v ∷ vs) b h = grind (arith, each_from, each_at, mem_left, mem_right, each_before start vs)

before_each : (start : ℕ) (vs : List Batch) → Each (IsBefore start) vs → (bound_of vs ≤ start) × Each (IsEarlier start) (inserts_of vs)
before_each start [] h = (omega arith, tt)
before_each start (v ∷ vs) h = grind (arith, each_append, before_each start vs h.1)

abbrev told : List Batch → ℕ → Bool → Option TooSoon
told vs start above = if above then Some (Bound (bound_of vs)) else option_map Id (least_from start None (inserts_of vs))

-- nothing forbids a start exactly where each bound and each insert lies before it
pub none_before : (vs : List Batch) (start : ℕ) → too_soon_for vs start ≡ None → Each (IsBefore start) vs
none_before vs start e = grind (arith, each_before, none_each, le-ltb, cases_lt)

pub before_none : (vs : List Batch) (start : ℕ) → Each (IsBefore start) vs → too_soon_for vs start ≡ None
before_none vs start h = grind (arith, before_each, each_none)

-- what is found of all batches is told
module _ (vs : List Batch) (start : ℕ) (l : Latest) (is : l ≡ fold (taken start) (latest 0 None) vs) where
  found : l ≡ latest (bound_of vs) (least_from start None (inserts_of vs))
  found = is ∙ taken_all start (latest 0 None) vs ∙ ap (λ (n : ℕ). latest n (least_from start None (inserts_of vs))) (let e : max 0 (bound_of vs) ≡ bound_of vs = omega arith in e)

  bound_is : l.bound ≡ bound_of vs
  bound_is = ap (λ (x : Latest). x.bound) found

  pub tells_bound : start < l.bound → Some (Bound l.bound) ≡ too_soon_for vs start
  tells_bound lt = ap (λ (n : ℕ). Some (Bound n)) bound_is ∙ sym (ap (told vs start) (lt-ltb start (bound_of vs) (omega (arith, lt, bound_is))))

  pub tells_id : l.bound ≤ start → option_map Id l.id ≡ too_soon_for vs start
  tells_id le = ap (λ (x : Latest). option_map Id x.id) found ∙ sym (ap (told vs start) (le-ltb start (bound_of vs) (omega (arith, le, bound_is))))
