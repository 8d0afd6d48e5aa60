-- What a store holds, after a call.
use Rattle.std.proofs.Common.{◌≡◌, ℕ, ◌+◌, ◌-◌, ◌^◌, ◌≤◌, min, true, false, List, [], ◌∷◌, length, take, length-drop, length-take, length-append, Result, OnOk, OnErr, is_err, Option, None, refl, sym, ap, subst, arith}
use Rattle.event_store.proofs.Words.{MAX_LOG, props, line_feed, ∥∥₁_elim, ∥∥₁_map, EventId, QueryRec, Index, ReadsNext, AreRead, found, Mark, Keeps, Knows, IsCache, Holds}
use Rattle.event_store.proofs.Recents.{none_kept}
use Rattle.event_store.proofs.Walks.{walk_same, walk_beyond}

-- nothing is read yet, and nothing is at hand
pub held_none : {T : Type 0} (log : T → List ℕ) (index : Index) (kept : List (EventId × QueryRec)) → Keeps index [] → kept ≡ [] → ∥ ((t : T) → Holds (log t) 0 0 index kept) ∥₁
held_none log index kept keeps none = ∣ (λ t. record {
  lines = [];
  marks = [];
  knows = record { walk = refl; falls = tt; tied = λ id. refl; ids = refl; keeps = keeps };
  counts = refl;
  cached = none_kept kept none [];
}) ∣₁

-- the same log, and the same place
pub held_on : {T : Type 0} (log now : List ℕ) (place at count : ℕ) (index : Index) (kept : List (EventId × QueryRec)) → ∥ (T → Holds log place count index kept) ∥₁ → (T → now ≡ log) → at ≡ place → ∥ (T → Holds now at count index kept) ∥₁
held_on {T} log now place at count index kept held same stays = ∥∥₁_map held (λ (f : T → Holds log place count index kept) (t : T). subst (λ (l : List ℕ). Holds l at count index kept) (sym (same t)) (subst (λ (p : ℕ). Holds log p count index kept) (sym stays) (f t)))

-- the same lines, and other records at hand
pub held_at_hand : {T : Type 0} (log now : List ℕ) (place at count : ℕ) (index : Index) (kept kept' : List (EventId × QueryRec)) → ∥ (T → Holds log place count index kept) ∥₁ → (T → now ≡ log) → at ≡ place → (T → (lines : List (Option QueryRec)) (marks : List Mark) → Knows log place index lines marks → IsCache kept lines → IsCache kept' lines) → ∥ (T → Holds now at count index kept') ∥₁
held_at_hand {T} log now place at count index kept kept' held same stays more =
    held_on log now place at count index kept' (∥∥₁_map held (λ (f : T → Holds log place count index kept) (t : T). let h = f t in record { lines = h.lines; marks = h.marks; knows = h.knows; counts = h.counts; cached = more t h.lines h.marks h.knows h.cached })) same stays

-- one line more, or none: what is known of one state is known of the next one
pub held_next : {T : Type 0} (log log' : List ℕ) (place at count n : ℕ) (index index' : Index) (kept kept' : List (EventId × QueryRec)) → ∥ (T → Holds log place count index kept) ∥₁ → (T → Holds log place count index kept → Holds log' at n index' kept') → ∥ (T → Holds log' at n index' kept') ∥₁
held_next {T} log log' place at count n index index' kept kept' held f = ∥∥₁_map held (λ (g : T → Holds log place count index kept) (t : T). f t (g t))

-- a fact of the lines read that has no two proofs
pub held_tells : {T P : Type 0} (log : List ℕ) (place count : ℕ) (index : Index) (kept : List (EventId × QueryRec)) → IsProp P → ∥ (T → Holds log place count index kept) ∥₁ → T → (lines : List (Option QueryRec)) → AreRead log place lines → ((marks : List Mark) → Knows log place index lines marks → count ≡ length lines → IsCache kept lines → P) → P
held_tells {T} {P} log place count index kept prop held t lines walk use_it = ∥∥₁_elim held prop (λ (f : T → Holds log place count index kept). at_once (f t))
  where
    there : (ls : List (Option QueryRec)) → lines ≡ ls → ((marks : List Mark) → Knows log place index ls marks → count ≡ length ls → IsCache kept ls → P)
    there ls same = subst (λ (xs : List (Option QueryRec)). ((marks : List Mark) → Knows log place index xs marks → count ≡ length xs → IsCache kept xs → P)) same use_it

    at_once : Holds log place count index kept → P
    at_once h = there h.lines (walk_same log 0 place lines h.lines walk h.knows.walk) h.marks h.knows h.counts h.cached

pub found_prop : (lines : List (Option QueryRec)) (id : EventId) (o : Option QueryRec) → IsProp (found lines id ≡ o)
found_prop lines id o = hlevel props

pub number_prop : (a b : ℕ) → IsProp (a ≡ b)
number_prop a b = hlevel props

pub not_yet_prop : (lines : List (Option QueryRec)) (id : EventId) (n : ℕ) → IsProp ((found lines id ≡ None) × (n ≡ length lines))
not_yet_prop lines id n = hlevel props

pub on_err : {X E : Type 0} {P : Type 0} (r : Result X E) → is_err r ≡ true → OnErr r P → P
on_err r e p = grind arith

pub on_ok : {X E : Type 0} {P : Type 0} (r : Result X E) → is_err r ≡ false → OnOk r P → P
on_ok r e p = grind arith

-- a line ends below the limit of what is read
pub end_fits : (log : List ℕ) (place e : ℕ) (r : Option QueryRec) → ReadsNext log place e r → e ≤ MAX_LOG
end_fits log place e r (line, rest, is, lacks, ends, reads) =
    let whole = ap length is in
    let back = length-drop place (take MAX_LOG log) in
    let front = length-take MAX_LOG log in
    let parts = length-append line (line_feed ∷ rest) in
    omega (arith, whole, back, front, parts, ends)

-- the count of one line more
pub one_more : (log : List ℕ) (place count n : ℕ) (index : Index) (kept : List (EventId × QueryRec)) → Holds log place (count + 1) index kept → place ≤ MAX_LOG → n ≡ min (count + 1) (2 ^ 64 - 1) → Holds log place n index kept
one_more log place count n index kept h le is = grind (arith, walk_beyond)
