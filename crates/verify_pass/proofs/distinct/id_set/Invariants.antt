use Rattle.std.proofs.Common.{◌≡◌, ◌-◌, length, drop}
use Rattle.verify_pass.proofs.Words.{IsStrictlySortedBy, id_cmp, in_order}
use Rattle.verify_pass.proofs.distinct.id_set.Given as goal

-- the last ids so far
abbrev pub invariant-loop-taken : goal.invariant-loop-taken
invariant-loop-taken l = record {
  ids : l.found.keys ≡ in_order (drop (length l.ids - l.taken) l.ids);
  rising : IsStrictlySortedBy id_cmp l.found.keys;
}
