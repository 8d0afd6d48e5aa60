-- Worked rows: what small journals say of one id, whose shard is 3 of 4.
use Rattle.std.specs.Prelude.{◌≡◌, ℕ, Bool, true, false, List, [], ◌∷◌, ◌++◌, map, Option, Some, None}
use Rattle.verify_pass.specs.Terms.{Ballot, Batch, ClickRec, J, M, PairRec, Place, ReplicaNote, ReportLine, ShardRow, U, X, note_view, same_batch}
use Rattle.registry_state.specs.declared.Token.{Token}
use Rattle.paxos_defs.specs.Decided as paxos
use Rattle.log_records.specs.Rows.{one_click, one_query}
use Rattle.paxos_acceptor.specs.declared.notes.ReplicaNote.TheVariants.{Promised, Accepted}
use Rattle.verify_pass.specs.declared.journals.Journals.{Journals}
use Rattle.verify_pass.specs.Classes.{line_of, is_missing}

-- the journals hold these notes and pairs
pub record Hold (journals : Journals) (written : List (List ReplicaNote)) (output : List (List PairRec)) : Type 0 where
  pub notes : journals.notes.items ≡ written
  pub pairs : journals.pairs.items ≡ output

-- one count at all times
abbrev pub four_shards : List ShardRow
four_shards = (record { start = 0; count = 4 }) ∷ []

abbrev pub ballot : ℕ → Ballot
ballot round = record { round = round; epoch = 1; site = 0 }

abbrev pub place : ℕ → Place
place slot = record { shard = 3; slot = slot }

abbrev pub token : ℕ → Token
token number = record { joiner = 7; epoch = 1; number = number }

abbrev pub one_batch : Batch
one_batch = record { bound = 0; inserts = (record { id = one_click.id; token = token 0 }) ∷ [] }

-- a batch without inserts
abbrev pub only_bound : ℕ → Batch
only_bound bound = record { bound = bound; inserts = [] }

-- that a replica accepted a batch in a slot, at the ballot of a round
abbrev pub took : ℕ → ℕ → Batch → ReplicaNote
took slot round v = Accepted 3 slot (ballot round) v

-- two of three replicas wrote these notes, or this one
abbrev pub two_replicas : List ReplicaNote → List (List ReplicaNote)
two_replicas notes = notes ∷ notes ∷ [] ∷ []

abbrev pub two_wrote : ReplicaNote → List (List ReplicaNote)
two_wrote note = two_replicas (note ∷ [])

-- two replicas accepted the batch, each at a ballot of its own
abbrev pub split : List (List ReplicaNote)
split = (took 0 1 one_batch ∷ []) ∷ (took 0 2 one_batch ∷ []) ∷ [] ∷ []

abbrev pub pair_by : ℕ → PairRec
pair_by number = record { click = one_click; query = one_query; token = token number }

-- the same id with another text
abbrev pub other_click : ClickRec
other_click = record one_click { text = 115 ∷ 101 ∷ 101 ∷ [] }

abbrev pub other_pair : PairRec
other_pair = record { click = other_click; query = one_query; token = token 1 }

-- what the report has of the id where the journals hold this, and whether the id is missing
pub record Says (notes : List (List ReplicaNote)) (pairs : List (List PairRec)) (told : ReportLine) (counted : Bool) : Type 0 where
  pub line : (journals : Journals) → Hold journals notes pairs → line_of journals four_shards one_click.id ≡ told
  pub missing : (journals : Journals) → Hold journals notes pairs → is_missing journals four_shards one_click.id ≡ counted

pub record ClassRows : Type 0 where
  -- registered and written
  pub written : Says (two_wrote (took 0 1 one_batch)) ([] ∷ (pair_by 0 ∷ []) ∷ []) (J one_click one_query) false
  -- of two pairs the first one is told
  pub first_pair : Says (two_wrote (took 0 1 one_batch)) ((pair_by 0 ∷ []) ∷ (other_pair ∷ []) ∷ []) (J one_click one_query) false
  pub other_order : Says (two_wrote (took 0 1 one_batch)) ((other_pair ∷ []) ∷ (pair_by 0 ∷ []) ∷ []) (J other_click one_query) false
  -- written, and registered nowhere
  pub only_written : Says [] ((pair_by 0 ∷ []) ∷ []) (J one_click one_query) false
  -- registered and not written
  pub missing : Says (two_wrote (took 0 1 one_batch)) [] (M one_click.id) true
  -- below the bound, and at it
  pub expired : Says (two_wrote (took 0 1 (only_bound 2001))) [] (X one_click.id) false
  pub at_the_bound : Says (two_wrote (took 0 1 (only_bound 2000))) [] (U one_click.id) false
  -- registered in slot 0, and then below the bound of slot 1
  pub dropped : Says ((took 0 1 one_batch ∷ took 1 1 (only_bound 2001) ∷ []) ∷ (took 0 1 one_batch ∷ took 1 1 (only_bound 2001) ∷ []) ∷ [] ∷ []) [] (X one_click.id) false
  -- one of three is no majority, nor are two at two ballots
  pub one_of_three : Says ((took 0 1 one_batch ∷ []) ∷ [] ∷ [] ∷ []) [] (U one_click.id) false
  pub two_ballots : Says split [] (U one_click.id) false
  -- two batches at one ballot, each by one of three
  pub two_batches : Says ((took 0 1 one_batch ∷ []) ∷ (took 0 1 (only_bound 2001) ∷ []) ∷ [] ∷ []) [] (U one_click.id) false
  -- a majority raised the bound, and then another one registered the id at a higher ballot
  pub two_majorities : Says (two_replicas (took 0 2 one_batch ∷ took 0 1 (only_bound 2001) ∷ [])) [] (X one_click.id) false
  -- nothing counts behind a slot in which nothing is chosen, nor in another shard
  pub behind_a_gap : Says (two_wrote (took 1 1 one_batch)) [] (U one_click.id) false
  pub other_shard : Says (two_wrote (Accepted 2 0 (ballot 1) one_batch)) [] (U one_click.id) false
  -- a promise is no acceptance
  pub promised : Says (two_wrote (Promised 3 0 (ballot 1))) [] (U one_click.id) false

-- the batch that is chosen in a slot
abbrev pub chosen_in : List (List ReplicaNote) → ℕ → Option Batch
chosen_in notes slot = paxos.chosen same_batch (map (map note_view) notes) (place slot)

pub record ChosenRows : Type 0 where
  pub two_of_three : chosen_in (two_wrote (took 0 1 one_batch)) 0 ≡ Some one_batch
  pub other_slot : chosen_in (two_wrote (took 0 1 one_batch)) 1 ≡ None
  pub one_of_three : chosen_in ((took 0 1 one_batch ∷ []) ∷ [] ∷ [] ∷ []) 0 ≡ None
  pub two_of_four : chosen_in (two_wrote (took 0 1 one_batch) ++ [] ∷ []) 0 ≡ None
  pub two_ballots : chosen_in split 0 ≡ None
  -- accepted twice by one replica counts once
  pub twice : chosen_in ((took 0 1 one_batch ∷ took 0 1 one_batch ∷ []) ∷ [] ∷ [] ∷ []) 0 ≡ None

abbrev pub other_batch : Batch
other_batch = only_bound 7

-- journals that disagree
pub record ApartRows : Type 0 where
  -- two batches at one ballot, and no majority for either
  pub two_values : chosen_in ((took 0 1 one_batch ∷ []) ∷ (took 0 1 other_batch ∷ []) ∷ [] ∷ []) 0 ≡ None
  -- a majority for one batch, and another one beside it at the same ballot
  pub stray_first : chosen_in ((took 0 1 other_batch ∷ []) ∷ (took 0 1 one_batch ∷ []) ∷ (took 0 1 one_batch ∷ []) ∷ []) 0 ≡ Some one_batch
  pub stray_last : chosen_in ((took 0 1 one_batch ∷ []) ∷ (took 0 1 one_batch ∷ []) ∷ (took 0 1 other_batch ∷ []) ∷ []) 0 ≡ Some one_batch
  -- a majority at two ballots: the batch at the lower one, whichever is written first
  pub lower_first : chosen_in (two_replicas (took 0 1 one_batch ∷ took 0 2 other_batch ∷ [])) 0 ≡ Some one_batch
  pub lower_last : chosen_in (two_replicas (took 0 2 other_batch ∷ took 0 1 one_batch ∷ [])) 0 ≡ Some one_batch
  pub lower_behind : chosen_in ((took 0 2 other_batch ∷ []) ∷ (took 0 2 other_batch ∷ took 0 1 one_batch ∷ []) ∷ (took 0 1 one_batch ∷ []) ∷ []) 0 ≡ Some one_batch
  -- two batches at one ballot, and the same majority for both: the first one
  pub both : chosen_in (two_replicas (took 0 1 one_batch ∷ took 0 1 other_batch ∷ [])) 0 ≡ Some one_batch
  pub both_turned : chosen_in (two_replicas (took 0 1 other_batch ∷ took 0 1 one_batch ∷ [])) 0 ≡ Some other_batch
