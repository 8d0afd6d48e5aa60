-- Ids in order, and ids that are one.
use Rattle.std.proofs.Common.{◌≡◌, ◌<◌, true, false, ◌==◌, List, [], ◌∷◌, refl, arith, eq-eqb}
use Rattle.event_store.proofs.Words.{list_any, and_from, both_ways, EventId, is_same, Process, same_process, is_in_order, same_key, key_of, progress, admits}

pub same_id : (a b : EventId) → is_same a b ≡ true → a ≡ b
same_id a b e = grind arith

pub same_itself : (a : EventId) → is_same a a ≡ true
same_itself a = and_from (a.ip == a.ip) _ (eq-eqb a.ip a.ip refl) (and_from (a.pid == a.pid) _ (eq-eqb a.pid a.pid refl) (eq-eqb a.micros a.micros refl))

pub keys_one : (p q : Process) → same_key p q ≡ true → p ≡ q
keys_one p q e = grind arith

pub key_itself : (p : Process) → same_key p p ≡ true
key_itself p = and_from (p.ip == p.ip) _ (eq-eqb p.ip p.ip refl) (eq-eqb p.pid p.pid refl)

-- of an in-order id's process each earlier id has micros below its own
pub above : (ids : List EventId) (a e : EventId) → is_in_order ids a ≡ true → list_any (is_same e) ids ≡ true → same_process a e ≡ true → e.micros < a.micros
above [] a e order any same = absurd (both_ways false refl any)
above (x ∷ ids) a e order any same = grind (arith, above ids a e)

-- ---- the same by a process's progress

pub admitted : (ids : List EventId) (id : EventId) → is_in_order ids id ≡ admits (progress ids (key_of id)) id.micros
admitted [] id = refl
admitted (x ∷ ids) id = grind (arith, admitted ids x, admitted ids id)
