-- A line whose id no stray line has is the first with it.
use Rattle.std.proofs.Common.{◌≡◌, ℕ, ◌<◌, Bool, true, false, List, [], ◌∷◌, Option, Some, None, is_some, refl, sym, ap, ◌∙◌, arith}
use Rattle.event_store.proofs.Words.{list_any, or_left, or_right, both_ways, none-some, EventId, is_same, QueryRec, Index, ReadsNext, AreRead, found, strays, ids_onto, Mark, ids_of, stray_of, Knows}
use Rattle.event_store.proofs.Orders.{above}
use Rattle.event_store.proofs.Marking.{stray_any}
use Rattle.event_store.proofs.Walks.{next_same, line_at}
use Rattle.event_store.proofs.Taking.{ids_append}
use Rattle.event_store.proofs.Firsts.{found_beyond}

-- what is kept of the ids as lines come
onto_keeps : (P : List EventId → Type 0) → ((x : EventId) (ids : List EventId) → P ids → P (x ∷ ids)) → (ids : List EventId) (lines : List (Option QueryRec)) → P ids → P (ids_onto ids lines)
onto_keeps P step ids [] p = p
onto_keeps P step ids (None ∷ lines) p = onto_keeps P step ids lines p
onto_keeps P step ids (Some q ∷ lines) p = onto_keeps P step (q.id ∷ ids) lines (step q.id ids p)

-- the id of a record that is found is among them
found_id : (ids : List EventId) (lines : List (Option QueryRec)) (id : EventId) (p : QueryRec) → found lines id ≡ Some p → list_any (is_same id) (ids_onto ids lines) ≡ true
found_id ids [] id p e = absurd (none-some p e)
found_id ids (None ∷ lines) id p e = found_id ids lines id p e
found_id ids (Some q ∷ lines) id p e = here (found_id (q.id ∷ ids) lines id p) (is_same id q.id) refl
  where
    here : (found lines id ≡ Some p → list_any (is_same id) (ids_onto (q.id ∷ ids) lines) ≡ true) → (t : Bool) → is_same id q.id ≡ t → list_any (is_same id) (ids_onto (q.id ∷ ids) lines) ≡ true
    here more true is = onto_keeps (λ (all : List EventId). list_any (is_same id) all ≡ true) (λ x all any. or_right (is_same id x) _ any) (q.id ∷ ids) lines (or_left (is_same id q.id) _ is)
    here more false is = more (rw is at e)

-- an id that comes again is a stray's, and stays one
again : (ids : List EventId) (id : EventId) → list_any (is_same id) ids ≡ true → list_any (is_same id) (strays (id ∷ ids)) ≡ true
again ids id any = grind (arith, above)

stays : (id x : EventId) (ids : List EventId) → list_any (is_same id) (strays ids) ≡ true → list_any (is_same id) (strays (x ∷ ids)) ≡ true
stays id x ids any = grind arith

module _ (log : List ℕ) (place : ℕ) (index : Index) (lines : List (Option QueryRec)) (marks : List Mark) (knows : Knows log place index lines marks) where
  pub first_here : (s next : ℕ) (front : List (Option QueryRec)) (q : QueryRec) → AreRead log s front → ReadsNext log s next (Some q) → s < place → stray_of marks q.id ≡ None → found lines q.id ≡ Some q
  first_here s next front q walk step lt no_stray = found_beyond log q.id s place lines (front, walk, none (found front q.id) refl, (next, q, step, refl)) knows.walk lt
    where
      none : (o : Option QueryRec) → found front q.id ≡ o → found front q.id ≡ None
      none None e = e
      none (Some p) e =
          let at = line_at log s place front lines walk knows.walk lt in
          let one = next_same log s next at.0 (Some q) at.1 step at.2 in
          let ids : ids_of marks ≡ ids_onto (q.id ∷ ids_onto [] front) at.3.0 = knows.ids ∙ ap (ids_onto []) at.3.1 ∙ ids_append [] front (at.1 ∷ at.3.0) ∙ ap (λ (r : Option QueryRec). ids_onto (ids_onto [] front) (r ∷ at.3.0)) (sym one.1) in
          let any = onto_keeps (λ (all : List EventId). list_any (is_same q.id) (strays all) ≡ true) (stays q.id) (q.id ∷ ids_onto [] front) at.3.0 (again (ids_onto [] front) q.id (found_id [] front q.id p e)) in
          absurd (both_ways (is_some (stray_of marks q.id)) (ap is_some no_stray) (sym (stray_any marks q.id) ∙ ap (λ (all : List EventId). list_any (is_same q.id) (strays all)) ids ∙ any))
