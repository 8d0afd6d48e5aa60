-- The lines of the worked rows, and what is answered to a row where two replicas keep notes.
use Rattle.std.specs.Prelude.{ℕ, List, [], ◌∷◌, Option, Result}
use Rattle.site_store.specs.Terms.{ClickLine, Replica, ReplicaNote, ShardRow, Topology, Unfit, one_click, topology_by}
use Rattle.verify_pass.specs.Rows.{one_batch, only_bound, took}
use Rattle.site_store.specs.Records.{NotesAre}
use Rattle.site_store.specs.Adding.{accepted, answer_to}

-- a click's line of 35 bytes, with its line feed
abbrev pub one_line : List ClickLine
one_line = record { place = 0; end_ = 36; click = one_click } ∷ []

-- one joiner a site, and a table of so many rows
abbrev pub rows_at : List ℕ → List ShardRow
rows_at [] = []
rows_at (start ∷ starts) = record { start = start; count = 4 } ∷ rows_at starts

abbrev pub with_rows : List ℕ → Topology
with_rows starts = topology_by 1 (rows_at starts)

-- one replica keeps no notes, and another that it accepted the worked click's id, or with it a bound
abbrev pub an_id : List ReplicaNote
an_id = took 0 1 one_batch ∷ []

abbrev pub a_bound : List ReplicaNote
a_bound = took 0 1 one_batch ∷ took 1 1 (only_bound 2001) ∷ []

-- what is answered to a row from this start on
abbrev pub answered : Option Topology → List ReplicaNote → ℕ → Result Topology Unfit
answered kept notes start =
    answer_to kept (accepted (record { name = Replica 0; kept = NotesAre [] } ∷ record { name = Replica 2; kept = NotesAre notes } ∷ [])) (record { start = start; count = 4 })
