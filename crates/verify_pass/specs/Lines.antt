-- Lines of ids that rise, and what pairs make of them.
use Rattle.std.specs.Prelude.{◌≡◌, ◌++◌, ◌∷◌, [], List, map, Box, box_value}
use Rattle.std.specs.List.Sorted.{IsStrictlySortedBy}
use Rattle.verify_pass.specs.Terms.{Batch, EventId, J, M, PairRec, ReportLine, U, X, id_cmp}
use Rattle.verify_pass.specs.Classes.{first_pair, line_by}

abbrev pub unboxed : {Z : Type 0} → List (Box ReportLine Z) → List ReportLine
unboxed lines = map (λ b. box_value b) lines

abbrev pub id_of : ReportLine → EventId
id_of (J click _) = click.id
id_of (M i) = i
id_of (X i) = i
id_of (U i) = i

-- the line once its click has this pair: one that is joined stays so
abbrev pub joined : PairRec → ReportLine → ReportLine
joined pair (J click query) = J click query
joined pair _ = J pair.click pair.query

-- the id where the line says that it is missing
abbrev pub missing_id : ReportLine → List EventId
missing_id (M i) = i ∷ []
missing_id _ = []

-- the line of each id, by the batches that are decided in its shard and by these pairs
abbrev pub lines_by : (EventId → List Batch) → List PairRec → List EventId → List ReportLine
lines_by batches pairs ids = map (λ i. line_by (batches i) i (first_pair pairs i)) ids

-- lines of ids that rise become those of so many pairs more
abbrev pub TakesIn : List PairRec → List ReportLine → List ReportLine → Type 0
TakesIn pairs old new = (batches : EventId → List Batch) (before : List PairRec) (ids : List EventId) → IsStrictlySortedBy id_cmp ids → old ≡ lines_by batches before ids → new ≡ lines_by batches (before ++ pairs) ids
