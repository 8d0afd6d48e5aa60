use Rattle.std.proofs.Common.{◌≡◌, ◌*◌}
use Rattle.bulk_logs.specs.Bulk.{x_after, query_log, click_log}
use Rattle.bulk_logs.proofs.logs.make_logs.Given as goal

-- the lines so far are written, and two numbers were drawn for each
abbrev pub invariant-lines : goal.invariant-lines
invariant-lines l = record {
  numbers : l.generator.x ≡ x_after l.fn.seed (2 * l.place);
  query_bytes : l.query_log.items ≡ query_log l.fn.seed l.place;
  click_bytes : l.click_log.items ≡ click_log l.fn.seed l.place;
}
