use Rattle.std.proofs.Common.{◌≡◌, Bool, List, map, refl, ap, ◌∙◌}
use Rattle.verify_pass.proofs.Words.{flat_map, same_batch, note_view, ReplicaNote, PairRec, ReportLine, one_click, first_pair, line_by, is_missing_by, Says}
use Rattle.paxos_defs.specs.Decided.{decided}
use Rattle.verify_pass.proofs.laws.worked_rows.Goals as goal

-- of lists of notes and pairs
abbrev line_in : List (List ReplicaNote) → List (List PairRec) → ReportLine
line_in notes pairs = line_by (decided same_batch (map (map note_view) notes) 3) one_click.id (first_pair (flat_map (λ ps. ps) pairs) one_click.id)

abbrev missing_in : List (List ReplicaNote) → List (List PairRec) → Bool
missing_in notes pairs = is_missing_by (decided same_batch (map (map note_view) notes) 3) (first_pair (flat_map (λ ps. ps) pairs) one_click.id) one_click.id

says : (notes : List (List ReplicaNote)) (pairs : List (List PairRec)) (line : ReportLine) (missing : Bool) → line_in notes pairs ≡ line → missing_in notes pairs ≡ missing → Says notes pairs line missing
says notes pairs line missing told counted = record {
  line = λ js h. ap (λ (n : List (List ReplicaNote)). line_in n js.pairs.items) h.notes ∙ ap (λ (p : List (List PairRec)). line_in notes p) h.pairs ∙ told;
  missing = λ js h. ap (λ (n : List (List ReplicaNote)). missing_in n js.pairs.items) h.notes ∙ ap (λ (p : List (List PairRec)). missing_in notes p) h.pairs ∙ counted;
}

pub returns-clause-classes : goal.returns-clause-classes
returns-clause-classes c = record {
  written = says _ _ _ _ (unfold decided in refl) (unfold decided in refl);
  first_pair = says _ _ _ _ (unfold decided in refl) (unfold decided in refl);
  other_order = says _ _ _ _ (unfold decided in refl) (unfold decided in refl);
  only_written = says _ _ _ _ (unfold decided in refl) (unfold decided in refl);
  missing = says _ _ _ _ (unfold decided in refl) (unfold decided in refl);
  expired = says _ _ _ _ (unfold decided in refl) (unfold decided in refl);
  at_the_bound = says _ _ _ _ (unfold decided in refl) (unfold decided in refl);
  dropped = says _ _ _ _ (unfold decided in refl) (unfold decided in refl);
  one_of_three = says _ _ _ _ (unfold decided in refl) (unfold decided in refl);
  two_ballots = says _ _ _ _ (unfold decided in refl) (unfold decided in refl);
  two_batches = says _ _ _ _ (unfold decided in refl) (unfold decided in refl);
  two_majorities = says _ _ _ _ (unfold decided in refl) (unfold decided in refl);
  behind_a_gap = says _ _ _ _ (unfold decided in refl) (unfold decided in refl);
  other_shard = says _ _ _ _ (unfold decided in refl) (unfold decided in refl);
  promised = says _ _ _ _ (unfold decided in refl) (unfold decided in refl);
}

pub returns-clause-chosen : goal.returns-clause-chosen
returns-clause-chosen c = record { two_of_three = refl; other_slot = refl; one_of_three = refl; two_of_four = refl; two_ballots = refl; twice = refl }

pub returns-clause-apart : goal.returns-clause-apart
returns-clause-apart c = record { two_values = refl; stray_first = refl; stray_last = refl; lower_first = refl; lower_last = refl; lower_behind = refl; both = refl; both_turned = refl }
