-- The joins in flight as a list, made of the entries of a map.
use Rattle.std.proofs.Common.{◌≡◌, ℕ, Bool, true, false, cond, List, [], ◌∷◌, ◌++◌, ◌&&◌, map, Option, Some, None, option_map, is_some, refl, sym, ap, subst, ◌∙◌, arith}
use Rattle.joiner_core.proofs.Words.{AllByRecursion, find, shift_remove_entry, EventId, same_id, same_token, Waiting, Flight, in_flight, is_for, landed, flight_of, claim_to, IsHeld, ArePackets}
use Rattle.std.specs.List.{IsDistinct}
use Rattle.std.specs.Map.{keys_of, lookup}
use Rattle.registry_state.specs.declared.Insert.{Insert}
use Rattle.registry_state.proofs.Tests.{same_id-true}
use Rattle.list_words.proofs.Lists.{none_some}

abbrev pub flight_at : EventId × Waiting → Flight
flight_at e = flight_of e.0 e.1

same_id-sym : (a b : EventId) → same_id a b ≡ same_id b a
same_id-sym a b = grind arith

-- an id is in flight where it has an entry
pub in_flight_lookup : (es : List (EventId × Waiting)) (i : EventId) → in_flight (map flight_at es) i ≡ is_some (lookup (same_id i) es)
in_flight_lookup [] i = refl
in_flight_lookup (e ∷ es) i = grind (arith, same_id-sym, in_flight_lookup es i)

pub flights_push : (es : List (EventId × Waiting)) (e : EventId × Waiting) → map flight_at (es ++ e ∷ []) ≡ map flight_at es ++ flight_at e ∷ []
flights_push [] e = refl
flights_push (x ∷ es) e = let h = flights_push es e in λ j. flight_at x ∷ h j

-- the join of the entry's id, where it is under the token
abbrev pub held : Insert → Option Waiting → Option Flight
held x None = None
held x (Some w) = cond (same_token w.token x.token) (Some (flight_of x.id w)) None

-- no key is the id
abbrev Lacks : EventId → List (EventId × Waiting) → Type 0
Lacks i es = AllByRecursion (λ y. same_id i y ≡ false) (keys_of es)

other : (i k : EventId) (b : Bool) → same_id i k ≡ b → same_id k i ≡ b
other i k b h = same_id-sym k i ∙ h

find_lacks : (es : List (EventId × Waiting)) (x : Insert) → Lacks x.id es → find (is_for x) (map flight_at es) ≡ None
find_lacks [] x h = refl
find_lacks (e ∷ es) x h = ap (λ b. cond (b && same_token e.1.token x.token) (Some (flight_at e)) (find (is_for x) (map flight_at es))) (other x.id e.0 false h.0) ∙ find_lacks es x h.1

-- where no two keys are one, the join of an id and a token is that of the id's entry
pub find_lookup : (es : List (EventId × Waiting)) (x : Insert) → IsDistinct same_id (keys_of es) → find (is_for x) (map flight_at es) ≡ held x (lookup (same_id x.id) es)
unfolding IsDistinct
find_lookup [] x d = refl
find_lookup (e ∷ es) x d = go (same_id x.id e.0) refl (find_lookup es x d.1)
  where
    go : (b : Bool) → same_id x.id e.0 ≡ b → find (is_for x) (map flight_at es) ≡ held x (lookup (same_id x.id) es)
        → cond (same_id e.0 x.id && same_token e.1.token x.token) (Some (flight_at e)) (find (is_for x) (map flight_at es)) ≡ held x (cond b (Some e.1) (lookup (same_id x.id) es))
    go true p rec =
        let one = same_id-true x.id e.0 p in
        let lacks = subst (λ (i : EventId). Lacks i es) (sym one) d.0 in
        let s = other x.id e.0 true p in
        let none = find_lacks es x lacks in
        λ j. cond (s j && same_token e.1.token x.token) (Some (flight_of (sym one j) e.1)) (none j)
    go false p rec = ap (λ b. cond (b && same_token e.1.token x.token) (Some (flight_at e)) (find (is_for x) (map flight_at es))) (other x.id e.0 false p) ∙ rec

-- what isn't in flight leaves nothing
pub landed_none : (fs : List Flight) (x : Insert) → find (is_for x) fs ≡ None → landed fs x ≡ fs
landed_none [] x h = refl
landed_none (f ∷ fs) x h = grind (arith, landed_none fs x)

-- what is in flight leaves by its id
pub landed_some : (es : List (EventId × Waiting)) (x : Insert) → IsDistinct same_id (keys_of es) → is_some (find (is_for x) (map flight_at es)) ≡ true → landed (map flight_at es) x ≡ map flight_at (shift_remove_entry (same_id x.id) es)
unfolding IsDistinct
landed_some [] x d h = refl
landed_some (e ∷ es) x d h = by_id (same_id x.id e.0) refl h (landed_some es x d.1)
  where
    by_token : Lacks x.id es → (b c : Bool) → b ≡ true → is_some (cond (b && c) (Some (flight_at e)) (find (is_for x) (map flight_at es))) ≡ true → cond (b && c) (landed (map flight_at es) x) (flight_at e ∷ landed (map flight_at es) x) ≡ map flight_at es
    by_token lacks k e p h = grind (arith, landed_none, find_lacks)

    by_id : (b : Bool) → same_id x.id e.0 ≡ b → is_some (cond (same_id e.0 x.id && same_token e.1.token x.token) (Some (flight_at e)) (find (is_for x) (map flight_at es))) ≡ true
        → (is_some (find (is_for x) (map flight_at es)) ≡ true → landed (map flight_at es) x ≡ map flight_at (shift_remove_entry (same_id x.id) es))
        → cond (same_id e.0 x.id && same_token e.1.token x.token) (landed (map flight_at es) x) (flight_at e ∷ landed (map flight_at es) x) ≡ map flight_at (cond b es (e ∷ shift_remove_entry (same_id x.id) es))
    by_id true p h rec = by_token (subst (λ (i : EventId). Lacks i es) (sym (same_id-true x.id e.0 p)) d.0) (same_id e.0 x.id) (same_token e.1.token x.token) (other x.id e.0 true p) h
    by_id false p h rec = grind arith

pub is_some_mapped : {A B : Type 0} (f : A → B) (o : Option A) → is_some (option_map f o) ≡ is_some o
is_some_mapped f h = grind arith

-- ---- what has spellings
pub held_push : (es : List (EventId × Waiting)) (e : EventId × Waiting) → AllByRecursion IsHeld es → IsHeld e → AllByRecursion IsHeld (es ++ e ∷ [])
held_push [] e all h = (h, tt)
held_push (x ∷ es) e all h = (all.0, held_push es e all.1 h)

pub held_removed : (test : EventId → Bool) (es : List (EventId × Waiting)) → AllByRecursion IsHeld es → AllByRecursion IsHeld (shift_remove_entry test es)
held_removed test [] all = tt
held_removed test (e ∷ es) all = grind (arith, held_removed test es all.1)

-- the entry of an id that has one
pub held_lookup : (es : List (EventId × Waiting)) (i : EventId) (w : Waiting) → AllByRecursion IsHeld es → lookup (same_id i) es ≡ Some w → IsHeld (i, w)
held_lookup [] i w all h = none_some w h
held_lookup (e ∷ es) i w all h = grind (arith, held_lookup es i w all.1)

-- the inserts of what is in flight
pub held_claims : (site : ℕ) (es : List (EventId × Waiting)) → AllByRecursion IsHeld es → ArePackets (map (claim_to site) (map flight_at es))
held_claims site [] all = tt
held_claims site (e ∷ es) all = (record { id = all.0.id; token = all.0.token }, held_claims site es all.1)
