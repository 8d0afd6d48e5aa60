-- What the records of all journals say of an id: registered, written, missing, and its line in the report.
use Rattle.std.specs.Prelude.{Bool, not, ◌&&◌, is_some, nat_lt, List, [], ◌∷◌, map, find, if◌then◌else◌, Option, Some, None}
use Rattle.std.specs.BTreeSet.{insert_key}
use Rattle.std.specs.List.{flat_map}
use Rattle.verify_pass.specs.Terms.{Batch, EventId, J, M, Note, PairRec, ReportLine, ShardRow, U, X, bound_of, holder, id_cmp, note_view, same_batch, shard_of}
use Rattle.event_id.specs.EventId.{is_same as same_id}
use Rattle.paxos_defs.specs.Decided as paxos
use Rattle.verify_pass.specs.declared.journals.Journals.{Journals}

-- the replicas' notes in the terms of Paxos
abbrev pub notes_of : Journals → List (List (Note Batch))
notes_of journals = map (map note_view) journals.notes.items

-- the pairs of all output logs, in the disks' order
abbrev pub all_pairs : Journals → List PairRec
all_pairs journals = flat_map (λ pairs. pairs) journals.pairs.items

-- the batches decided in the shard of an id
abbrev pub decided_for : Journals → List ShardRow → EventId → List Batch
decided_for journals table i = paxos.decided same_batch (notes_of journals) (shard_of table i)

-- the first pair of an id among these
abbrev pub first_pair : List PairRec → EventId → Option PairRec
first_pair pairs i = find (λ (p : PairRec). same_id p.click.id i) pairs

abbrev pub unwritten_line : List Batch → EventId → ReportLine
unwritten_line applied i = if is_some (holder applied i) then M i else if nat_lt i.micros (bound_of applied) then X i else U i

abbrev pub line_by : List Batch → EventId → Option PairRec → ReportLine
line_by applied i None = unwritten_line applied i
line_by applied i (Some p) = J p.click p.query

-- J where written, else M where registered, else X where expired, else U
abbrev pub line_of : Journals → List ShardRow → EventId → ReportLine
line_of journals table i = line_by (decided_for journals table i) i (first_pair (all_pairs journals) i)

-- whether an id is registered by these batches and has no pair
abbrev pub is_missing_by : List Batch → Option PairRec → EventId → Bool
is_missing_by applied pair i = is_some (holder applied i) && not (is_some pair)

-- whether it is registered in its shard and not written in any output log
abbrev pub is_missing : Journals → List ShardRow → EventId → Bool
is_missing journals table i = is_missing_by (decided_for journals table i) (first_pair (all_pairs journals) i) i

-- ids, each once, in their order
abbrev pub in_order : List EventId → List EventId
in_order [] = []
in_order (i ∷ is) = insert_key id_cmp (in_order is) i
