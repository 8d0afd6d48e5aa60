use Rattle.std.proofs.Common.{◌≡◌, ◌||◌, is_some, take}
use Rattle.verify_pass.proofs.Words.{contains, IsStrictlySortedBy, EventId, id_cmp, first_in}
use Rattle.verify_pass.proofs.states.add_all.Given as goal

-- the ids of the inserts so far are added
abbrev pub invariant-loop-insert : goal.invariant-loop-insert
invariant-loop-insert l = record {
  rising : IsStrictlySortedBy id_cmp l.fn.ids.keys → IsStrictlySortedBy id_cmp l.ids.keys;
  each : (i : EventId) → contains id_cmp l.ids i ≡ (contains id_cmp l.fn.ids i || is_some (first_in (take l.insert-index l.inserts) i));
}
