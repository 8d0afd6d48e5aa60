-- The records at hand.
use Rattle.std.proofs.Common.{◌≡◌, List, [], Option, Some, Result, Ok, Err, OnOk, OnErr, Contains, inl, inr, sym, ap, ◌∙◌, subst}
use Rattle.std.specs.Map.{lookup}
use Rattle.lru.specs.LruCache.{LruCache, lru_cache, put_entries, promoted}
use Rattle.lru.proofs.CallerLemmas.{Contains-put_entries, Contains-promoted, Contains-lookup}
use Rattle.lru.proofs.Splits.{Contains-nil}
use Rattle.event_store.proofs.Words.{EventId, is_same, QueryRec, found, IsCache}
use Rattle.event_store.proofs.Orders.{same_id}

-- nothing is at hand
pub none_kept : (es : List (EventId × QueryRec)) → es ≡ [] → (lines : List (Option QueryRec)) → IsCache es lines
none_kept es none lines = λ e has. absurd (Contains-nil e (subst (λ (l : List (EventId × QueryRec)). Contains l e) none has))

-- one more, whether or not there was memory for it
pub remembered : {X E : Type 0} (old new : LruCache EventId QueryRec) (q v : QueryRec) → v ≡ q → (r : Result X E) → OnOk r (new ≡ lru_cache (put_entries is_same old q.id v) old.cap) → OnErr r (new ≡ old) → (lines : List (Option QueryRec)) → IsCache old.entries lines → found lines q.id ≡ Some q → IsCache new.entries lines
remembered old new q v is (Ok x) put same lines cache first = λ e has. elim (Contains-put_entries is_same old q.id v e (subst (λ (c : LruCache EventId QueryRec). Contains c.entries e) put has)) [
  | inl was ↦ cache e was
  | inr (value, inl key) ↦ ap (found lines) key ∙ first ∙ ap (λ (x : QueryRec). Some x) (sym (value ∙ is))
  | inr (value, inr (w, was, key)) ↦ ap (found lines) (sym (same_id q.id e.0 key)) ∙ first ∙ ap (λ (x : QueryRec). Some x) (sym (value ∙ is))
]
remembered old new q v is (Err x) put same lines cache first = subst (λ (c : LruCache EventId QueryRec). IsCache c.entries lines) (sym same) cache

-- the most stays
pub most_stays : {X E : Type 0} (old new : LruCache EventId QueryRec) (es : List (EventId × QueryRec)) (r : Result X E) → OnOk r (new ≡ lru_cache es old.cap) → OnErr r (new ≡ old) → new.cap ≡ old.cap
most_stays old new es (Ok x) put same = ap (λ (c : LruCache EventId QueryRec). c.cap) put
most_stays old new es (Err x) put same = ap (λ (c : LruCache EventId QueryRec). c.cap) same

-- the order of use changes no record
pub recalled : (old new : LruCache EventId QueryRec) (id : EventId) → new ≡ lru_cache (promoted (is_same id) old.entries) old.cap → (lines : List (Option QueryRec)) → IsCache old.entries lines → IsCache new.entries lines
recalled old new id is lines cache = λ e has. cache e (Contains-promoted (is_same id) old.entries e (subst (λ (c : LruCache EventId QueryRec). Contains c.entries e) is has))

pub hit_is : (es : List (EventId × QueryRec)) (id : EventId) (q : QueryRec) → lookup (is_same id) es ≡ Some q → (lines : List (Option QueryRec)) → IsCache es lines → found lines id ≡ Some q
hit_is es id q is lines cache = let h = Contains-lookup (is_same id) es q is in ap (found lines) (same_id id h.0 h.2) ∙ cache (h.0, q) h.1
