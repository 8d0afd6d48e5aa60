use Rattle.std.proofs.Common.{◌∙◌, ap, sym}
use Rattle.topology_journal.specs.Topologies.{one_more}
use Rattle.topology_journal.proofs.Spelled.{more_by, none_behind}
use Rattle.topology_journal.proofs.reading.has_one_more.Goals as goal

pub returns-in-Some : goal.returns-in-Some
returns-in-Some c =
    more_by c.has_rows.result c.args.table.now c.in-Some.earlier.now c.in-Some.field-0-0.now c.has_rows.ensures
    ∙ ap (one_more c.args.table.now) (sym c.in-Some.ensures.cases.0)

pub returns-in-None : goal.returns-in-None
returns-in-None c = none_behind c.args.table.now c.args.longer.now c.in-None.ensures.cases
