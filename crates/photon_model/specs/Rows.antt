-- Worked rows: what a store shows of a click, what is decided.
use Rattle.std.specs.Prelude.{◌≡◌, ℕ, List, [], ◌∷◌, ◌==◌, nat_lt, if◌then◌else◌}
use Rattle.photon_model.specs.Terms.{Accepted, Batch, J, M, PairRec, ReplicaKept, U, X, one_batch, one_click, one_query, token, worked}
use Rattle.photon_model.specs.Report.{line_of}
use Rattle.photon_model.specs.Journals.{journals, decided}
use Rattle.photon_model.specs.Runs.{Disks}

-- ---- what is decided, and what a store shows

-- the first n replicas accepted the batch
abbrev pub accepted_by : ℕ → Batch → ℕ → ReplicaKept
accepted_by n v r = if nat_lt r n then record { notes = Accepted (record { shard = 3; slot = 0 }) (record { round = 1; epoch = 1; site = 0 }) v ∷ [] } else record { notes = [] }

abbrev pub only_bound : ℕ → Batch
only_bound b = record { bound = b; inserts = [] }

-- two replicas accepted the batch, and joiner 7 wrote these pairs
abbrev pub store : List PairRec → Batch → Disks
store ps v =
    record {
      dispatchers = λ s. record { offset = 0; pending = [] };
      servers = λ s. record { epoch = 1 };
      replicas = accepted_by 2 v;
      joiners = λ j. record { epoch = 1; pairs = if j == 7 then ps else [] };
    }

abbrev pub one_pair : PairRec
one_pair = record { click = one_click; query = one_query; token = token 0 }

pub record StoreRows : Type 0 where
  pub shows_j : line_of worked (store (one_pair ∷ []) one_batch) one_click.id ≡ J one_click one_query
  pub shows_m : line_of worked (store [] one_batch) one_click.id ≡ M one_click.id
  pub shows_x : line_of worked (store [] (only_bound 2001)) one_click.id ≡ X one_click.id
  pub shows_u : line_of worked (store [] (only_bound 2000)) one_click.id ≡ U one_click.id
  pub two_of_three : decided (journals 3 (accepted_by 2 one_batch)) 3 ≡ one_batch ∷ []
  pub one_of_three : decided (journals 3 (accepted_by 1 one_batch)) 3 ≡ []
  pub three_of_five : decided (journals 5 (accepted_by 3 one_batch)) 3 ≡ one_batch ∷ []
  pub two_of_five : decided (journals 5 (accepted_by 2 one_batch)) 3 ≡ []
  pub other_shard : decided (journals 3 (accepted_by 2 one_batch)) 0 ≡ []
