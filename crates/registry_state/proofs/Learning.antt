-- One batch more, one insert more: what a registry knows afterwards.
use Rattle.std.proofs.Common.{◌≡◌, ℕ, ◌<◌, ◌≤◌, max, Bool, true, false, nat_lt, cond, List, [], ◌∷◌, ◌++◌, length, map, not, unwrap_or, Some, None, refl, sym, ap, ◌∙◌, arith}
use Rattle.std.specs.Prelude.{Option, is_some, Result, IsOk, OnOk}
use Rattle.std.proofs.lemmas.Bool.{lt-ltb, cond-true, cond-false}
use Rattle.std.specs.List.{filter}
use Rattle.std.specs.Map.{lookup}
use Rattle.std.proofs.lemmas.Map.Entries.{lookup-filter-keys}
use Rattle.event_id.specs.declared.id.EventId.{EventId}
use Rattle.event_id.specs.EventId.{is_same as same_id}
use Rattle.registry_state.specs.declared.Token.{Token}
use Rattle.registry_state.specs.declared.Insert.{Insert}
use Rattle.registry_state.specs.declared.Batch.{Batch}
use Rattle.registry_state.specs.declared.Answer.TheVariants.{Granted, TooOld}
use Rattle.registry_state.specs.LookBack.{bound_of, bound_at, first_in, first_insert, or_else, answer_at, holder, replay, replay_held}
use Rattle.registry_state.specs.Registry.{batch_of, answers_to}
use Rattle.registry_state.specs.Recalls.{Recalls, above}
use Rattle.registry_state.proofs.Tests.{same_id-true, same_id-refl}

-- ---- a list with one value more

pub bound_of-push : (vs : List Batch) (v : Batch) → bound_of (vs ++ v ∷ []) ≡ max (bound_of vs) v.bound
bound_of-push [] v = omega arith
bound_of-push (x ∷ vs) v = omega (arith, bound_of-push vs v)

pub first_insert-push : (vs : List Batch) (v : Batch) (i : EventId) → first_insert (vs ++ v ∷ []) i ≡ or_else (first_insert vs i) (first_in v.inserts i)
first_insert-push [] v i = grind arith
first_insert-push (x ∷ vs) v i = grind (arith, first_insert-push vs v i)

-- the token, where the insert is of that id
abbrev pub own : Insert → EventId → Option Token
own x i = cond (same_id x.id i) (Some x.token) None

first_in-push : (xs : List Insert) (x : Insert) (i : EventId) → first_in (xs ++ x ∷ []) i ≡ or_else (first_in xs i) (own x i)
first_in-push [] x i = refl
first_in-push (y ∷ xs) x i = grind (arith, first_in-push xs x i)

-- ---- the bound is raised

pub raises : (bound : ℕ) (held : EventId → Option Token) (vs : List Batch) (b : ℕ) → bound ≡ max (bound_of vs) b → ((i : EventId) → held i ≡ above (max (bound_of vs) b) i (first_insert vs i)) → Recalls bound held (vs ++ batch_of b [] ∷ [])
raises bound held vs b e f = grind (arith, bound_of-push, first_insert-push)

above-above : (m n : ℕ) (i : EventId) (o : Option Token) → m ≤ n → above n i (above m i o) ≡ above n i o
above-above m n i o le = grind (arith, cond-false)

-- ids below the new bound are dropped
pub raises_above : (old : ℕ) (was : EventId → Option Token) (held : EventId → Option Token) (vs : List Batch) (b : ℕ) → Recalls old was vs → old < b → ((i : EventId) → held i ≡ above b i (was i)) → Recalls b held (vs ++ batch_of b [] ∷ [])
raises_above old was held vs b k lt f =
    let most : max (bound_of vs) b ≡ b = omega (arith, k.bound_is) in
    raises b held vs b (sym most)
    (λ i. f i ∙ ap (above b i) (k.tokens i) ∙ above-above (bound_of vs) b i (first_insert vs i) (omega (arith, k.bound_is)) ∙ ap (λ n. above n i (first_insert vs i)) (sym most))

-- no bound is above the one that is there
pub stays_above : (bound : ℕ) (held : EventId → Option Token) (vs : List Batch) (b : ℕ) → Recalls bound held vs → b ≤ bound → Recalls bound held (vs ++ batch_of b [] ∷ [])
stays_above bound held vs b k le =
    let most : max (bound_of vs) b ≡ bound_of vs = omega (arith, k.bound_is) in
    raises bound held vs b (k.bound_is ∙ sym most) (λ i. k.tokens i ∙ ap (λ n. above n i (first_insert vs i)) (sym most))

-- ---- looking ahead

-- an id below the greater bound is too old once the batch is applied
pub ahead_old : (bound : ℕ) (held : EventId → Option Token) (vs : List Batch) (v : Batch) (i : EventId) (t : Token) (b : ℕ) → Recalls bound held vs → b ≡ max bound v.bound → i.micros < b → Some (TooOld b) ≡ replay (vs ++ v ∷ []) i t
ahead_old bound held vs v i t b k e lt = grind (arith, bound_of-push)

-- another one has the holder that it has, or else the token of the batch's earliest insert
pub ahead_young : (bound : ℕ) (held : EventId → Option Token) (vs : List Batch) (v : Batch) (i : EventId) (t : Token) (b : ℕ) → Recalls bound held vs → b ≡ max bound v.bound → b ≤ i.micros → replay_held t (or_else (held i) (first_in v.inserts i)) ≡ replay (vs ++ v ∷ []) i t
ahead_young bound held vs v i t b k e le = grind (arith, bound_of-push, first_insert-push)

-- ---- an id is claimed

-- what is known behind one insert more of the last batch
more : (vs : List Batch) (b : ℕ) (xs : List Insert) (x : Insert) (i : EventId) → holder (vs ++ batch_of b (xs ++ x ∷ []) ∷ []) i ≡ above (bound_of (vs ++ batch_of b xs ∷ [])) i (or_else (first_insert (vs ++ batch_of b xs ∷ []) i) (own x i))
more vs b xs x i = grind (arith, bound_of-push, first_insert-push, first_in-push)

-- what the token of the insert's own id is afterwards
abbrev pub Claims : ℕ → (was held : EventId → Option Token) → Insert → Type 0
Claims bound was held x = ((i : EventId) → held i ≡ cond (same_id x.id i) (held x.id) (was i)) × (held x.id ≡ above bound x.id (or_else (was x.id) (Some x.token)))

pub claims : (bound : ℕ) (was held : EventId → Option Token) (vs : List Batch) (b : ℕ) (xs : List Insert) (x : Insert) → Claims bound was held x → Recalls bound was (vs ++ batch_of b xs ∷ []) → Recalls bound held (vs ++ batch_of b (xs ++ x ∷ []) ∷ [])
claims bound was held vs b xs x c k = grind (arith, bound_of-push, more)

-- ---- the answers

-- what the last batch of a list is answered is what the list is answered
last : (vs : List Batch) (v : Batch) → bound_at (vs ++ v ∷ []) (length vs) ≡ bound_of (vs ++ v ∷ [])
last [] v = refl
last (x ∷ vs) v = ap (max x.bound) (last vs v)

all_answers : (vs : List Batch) (v : Batch) (xs : List Insert) → map (λ x. unwrap_or (replay (vs ++ v ∷ []) x.id x.token) Granted) xs ≡ map (λ x. answer_at (vs ++ v ∷ []) (length vs) x.id x.token) xs
all_answers vs v [] = refl
all_answers vs v (x ∷ xs) = grind (arith, last, all_answers vs v xs)

pub answers-are : (vs : List Batch) (v : Batch) → map (λ x. unwrap_or (replay (vs ++ v ∷ []) x.id x.token) Granted) v.inserts ≡ answers_to vs v
answers-are vs v = all_answers vs v v.inserts

-- ---- the three ways of a claim

pub nobody : {A : Type 0} (o : Option A) → is_some o ≡ false → o ≡ None
nobody k h = grind arith

-- nobody has the id
pub claims_new : (bound : ℕ) (was held : EventId → Option Token) (x : Insert) → bound ≤ x.id.micros → is_some (was x.id) ≡ false → ((i : EventId) → held i ≡ cond (same_id x.id i) (Some x.token) (was i)) → Claims bound was held x
claims_new bound was held x le none f = grind (arith, cond-true, same_id-refl, cond-false)

-- the id is below the bound
pub claims_old : (bound : ℕ) (was : EventId → Option Token) (vs : List Batch) (x : Insert) → Recalls bound was vs → x.id.micros < bound → Claims bound was was x
claims_old bound was vs x k lt = grind (arith, lt-ltb)

-- another token has it
pub claims_held : (bound : ℕ) (was : EventId → Option Token) (vs : List Batch) (x : Insert) → Recalls bound was vs → is_some (was x.id) ≡ true → Claims bound was was x
claims_held bound was vs x k some = grind arith

-- a call that succeeds
pub succeeded : {T E : Type 0} (r : Result T E) (P : Type 0) → IsOk r → OnOk r P → P
succeeded k e h p = grind arith

-- ---- the entries that stay

cond-not : {A : Type 0} (b : Bool) (x y : A) → cond (not b) x y ≡ cond b y x
cond-not h x y = grind arith

-- where those below a bound are dropped
pub after_filter : (es kept : List (EventId × Token)) (b : ℕ) → kept ≡ filter (λ e. not (nat_lt e.0.micros b)) es → (i : EventId) → lookup (same_id i) kept ≡ above b i (lookup (same_id i) es)
after_filter es kept b e i =
    ap (lookup (same_id i)) e
    ∙ lookup-filter-keys (same_id i) (λ k. not (nat_lt k.micros b)) (not (nat_lt i.micros b)) (λ k h. ap (λ (j : EventId). not (nat_lt j.micros b)) (sym (same_id-true i k h))) es
    ∙ cond-not (nat_lt i.micros b) (lookup (same_id i) es) None
