use Rattle.verify_pass.proofs.Words.{IsStrictlySortedBy, id_cmp, slots, Grows, HasAt}
use Rattle.verify_pass.proofs.states.add_shard.Given as goal

-- the ids of the slots so far are added
abbrev pub invariant-loop-slot : goal.invariant-loop-slot
invariant-loop-slot l = record {
  rising : IsStrictlySortedBy id_cmp l.fn.ids.keys → IsStrictlySortedBy id_cmp l.ids.keys;
  kept : Grows l.fn.ids l.ids;
  each : HasAt (slots l.chosen l.shard) l.slot l.fn.ids l.ids;
}
