use Rattle.std.specs.List.{All}
use Rattle.serde_json.specs.View.{view}
use Rattle.lossy_link.proofs.EntryLists.{Reads}
use Rattle.lossy_link.proofs.entries.list_of.Given as goal

abbrev pub invariant-loop-value : goal.invariant-loop-value
invariant-loop-value g l = Reads g.T.Entry.reads g.T.Entry.place view l.values l.value-index l.entries.items × All g.T.Entry.valid l.entries.items
