-- What every run keeps, in plain words. Turns, losses, repeats, reorderings and stops follow one another in any order.
use Rattle.std.specs.Prelude.{◌≡◌, ◌⊎◌, ℕ, ◌<◌, List, [], Some, slice_get}
use Rattle.photon_model.specs.Terms.{Begins, ClickLine, EventId, Expired, IsJoin, IsJoiner, M, Mem, OneChosen, PairRec, ServerLive, Setting, first}
use Rattle.log_records.specs.declared.records.QueryRec.{QueryRec as Query}
use Rattle.photon_model.specs.Journals.{journals}
use Rattle.photon_model.specs.Sound.{values_of, IsWritten, IsMissing, IsDrained, known_of}
use Rattle.photon_model.specs.Facts.{known}
use Rattle.photon_model.specs.Report.{line_of}
use Rattle.photon_model.specs.Runs.{World, Entry, Disks, world_after}
use Rattle.photon_model.specs.EveryRun.{decided_in}

-- the pair stands at place k of joiner j's output log
abbrev pub PairAt : World → ℕ → ℕ → PairRec → Type 0
PairAt w j k p = slice_get (w.joiners j).kept.pairs k ≡ Some p

-- a click is output at most once: two pairs with one click id, in whatever output logs, are one pair at one place
abbrev pub IsOutputOnce : Setting → World → Type 0
IsOutputOnce g w = (i j k m : ℕ) (p q : PairRec) → IsJoiner g i → IsJoiner g j → PairAt w i k p → PairAt w j m q → p.click.id ≡ q.click.id → (i ≡ j) × (k ≡ m)

-- each pair is a click with its own query: the first click of its id, and the first query with that click's query id
abbrev pub HasOwnQueries : Setting → World → Type 0
HasOwnQueries g w = (j k : ℕ) (p : PairRec) → IsJoiner g j → PairAt w j k p → IsJoin g p.click p.query

-- replicas never decide differently: in each place at most one value is chosen
abbrev pub DecidesOnce : Setting → World → Type 0
DecidesOnce g w = OneChosen (journals g.config.replicas (λ r. (w.replicas r).kept))

-- and what a server has learned of a shard begins what is decided there
abbrev pub LearnsTheDecided : Setting → World → Type 0
LearnsTheDecided g w = (s shard : ℕ) (l : ServerLive) → s < 2 → (w.servers s).live ≡ Some l → Begins (l.shards shard).learned (decided_in g w shard)

-- nothing drained is forgotten: where a dispatcher has drained, each click with a query is expired, written or missing,
-- and missing is what is registered and not written
abbrev pub ForgetsNothing : Setting → World → Type 0
ForgetsNothing g w =
    (s : ℕ) → s < 2 → IsDrained g (w.dispatchers s).kept → (l : ClickLine) (q : Query) → Mem l g.clicks → first g.queries l.click.query ≡ Some q →
    Expired (values_of g (known g w []) l.click.id) l.click.id ⊎ (IsWritten g (known g w []) l.click.id ⊎ IsMissing g (known g w []) l.click.id)

-- no pair that an output log has had is lost, whatever follows
abbrev pub LosesNoPair : Type 0
LosesNoPair = (g : Setting) (w : World) (es : List Entry) (j : ℕ) → Begins (w.joiners j).kept.pairs ((world_after g w es).joiners j).kept.pairs

-- the report of a store tells that an id is missing exactly where it is
abbrev pub TellsTheMissing : Type 0
TellsTheMissing = (g : Setting) (d : Disks) (i : EventId) → (line_of g d i ≡ M i → IsMissing g (known_of g d []) i) × (IsMissing g (known_of g d []) i → line_of g d i ≡ M i)
