-- The one spelling of a replica's note, which notes have one, and the record of a pair.
use Rattle.std.specs.Prelude.{ℕ, List, ◌∷◌, ◌++◌}
use Rattle.paxos_acceptor.specs.declared.notes.ReplicaNote.{ReplicaNote}
use Rattle.paxos_acceptor.specs.declared.notes.ReplicaNote.TheVariants.{Promised, Accepted}
use Rattle.paxos_acceptor.specs.Cells.{place_of}
use Rattle.turn_defs.specs.Spellings.{place, IsPlace, ballot, IsBallot, batch, IsBatch, click, query, token}
use Rattle.turn_defs.specs.declared.pair.PairRec.{PairRec}

-- a tag, the place, the ballot, and of an accepted note the batch
abbrev pub note : ReplicaNote → List ℕ
note (Promised shard slot b) = 7 ∷ place (place_of shard slot) ++ ballot b
note (Accepted shard slot b v) = 8 ∷ place (place_of shard slot) ++ ballot b ++ batch v

abbrev pub IsNote : ReplicaNote → Type 0
IsNote (Promised shard slot b) = IsPlace (place_of shard slot) × IsBallot b
IsNote (Accepted shard slot b v) = IsPlace (place_of shard slot) × IsBallot b × IsBatch v

-- the fields of a pair, one behind the other
abbrev pub pair_fields : PairRec → List ℕ
pair_fields p = click p.click ++ (query p.query ++ token p.token)

-- a tag, and the fields
abbrev pub pair : PairRec → List ℕ
pair p = 6 ∷ pair_fields p
