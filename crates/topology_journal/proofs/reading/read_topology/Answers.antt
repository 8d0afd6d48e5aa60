use Rattle.std.proofs.Common.{◌≡◌, ◌∙◌, ◌-◌, ℕ, ap, sym, subst, arith, length, take, List, Some, slice_index}
use Rattle.std.proofs.lemmas.List.{take_all, length-drop}
use Rattle.std.specs.Prelude.{drop}
use Rattle.time_shards.specs.declared.ShardRow.{ShardRow}
use Rattle.time_shards.specs.Shards.{IsTable}
use Rattle.topology_journal.specs.Topologies.{topology_of, rows_bytes}
use Rattle.topology_journal.proofs.Spelled.{table_read, no_table}
use Rattle.topology_journal.proofs.reading.read_topology.Goals as goal

behind : (payload : List ℕ) (rows : List ShardRow) → take (length payload - 4) (drop 4 payload) ≡ rows_bytes rows → drop 4 payload ≡ rows_bytes rows
behind payload rows e = sym (take_all (length payload - 4) (drop 4 payload) (omega (arith, length-drop 4 payload))) ∙ e

pub returns-in-Some-clause-read : goal.returns-in-Some-clause-read
returns-in-Some-clause-read c =
    let found = rw c.in-Some.is at c.in_ok-table.ensures.some in
    let same = found.1 ∙ c.deref.ensures.value in
    let rows = c.in_ok-rows.rows.items in
    ap (λ (t : List ShardRow). Some (slice_index c.args.payload.now 1, topology_of (slice_index c.args.payload.now 2) t)) same
    ∙ sym (table_read c.args.payload.now rows (sym c.is_front.ensures ∙ c.if-not-is_front.false) (behind c.args.payload.now rows c.in_ok-rows.ensures.bytes) c.in_ok-rows.ensures.starts (subst IsTable same found.0))

pub returns-clause-read : goal.returns-clause-read
returns-clause-read c =
    let none = rw c.in-None.is at c.in_ok-table.ensures.none in
    let rows = c.in_ok-rows.rows.items in
    sym (no_table c.args.payload.now rows (sym c.is_front.ensures ∙ c.if-not-is_front.false) (behind c.args.payload.now rows c.in_ok-rows.ensures.bytes) c.in_ok-rows.ensures.starts (λ t. none (subst IsTable (sym c.deref.ensures.value) t)))
