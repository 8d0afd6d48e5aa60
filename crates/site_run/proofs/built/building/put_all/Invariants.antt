use Rattle.std.proofs.Common.{◌≡◌, ◌+◌, ◌≤◌, ◌++◌, length, vec_capacity}
use Rattle.site_run.proofs.Words.{into_iter_items, into_iter_len}
use Rattle.site_run.proofs.built.building.put_all.Given as goal

abbrev pub invariant-loop-log : goal.invariant-loop-log
invariant-loop-log g l = record {
  items : l.logs.items ++ into_iter_items l.more ≡ l.fn.logs.items ++ l.fn.more.items;
  count : length l.logs.items + length (into_iter_items l.more) ≤ vec_capacity l.logs;
  room : vec_capacity l.logs ≡ vec_capacity l.fn.logs;
}

abbrev pub decreases-loop-log : goal.decreases-loop-log
decreases-loop-log g l = into_iter_len l.more
