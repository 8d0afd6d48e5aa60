-- What verification says of a store's records is what the report says.
use Rattle.std.proofs.Common.{◌≡◌, ℕ, zero, suc, ◌*◌, ◌&&◌, true, not, List, [], ◌++◌, ◌↔◌, refl, sym, ap, ◌∙◌, arith, Option, IsSome, is_some, flat_map}
use Rattle.photon_model.proofs.Words.{EventId, Token, same_batch, holder, decided, PairRec, Setting, first_joiner, shard, BallotNote, values_from, pairs_from, decided_for, pair_of, Disks, IsWritten, IsMissing, known_of}
use Rattle.photon_model.specs.Report as report
use Rattle.verify_pass.specs.declared.journals.Journals.{Journals}
use Rattle.verify_pass.specs.Classes as classes
use Rattle.photon_model.specs.Verification.{AreOf}
use Rattle.photon_model.proofs.Showing.{written, unwritten}

-- the pairs of the joiners' logs, one log behind the other
logs : (d : Disks) (from n : ℕ) → flat_map (λ ps. ps) (values_from (λ j. (d.joiners j).pairs) from n) ≡ pairs_from d from n
logs d from zero = refl
logs d from (suc n) = ap (λ (ps : List PairRec). (d.joiners from).pairs ++ ps) (logs d (suc from) n)

module _ (g : Setting) (d : Disks) (js : Journals) (own : AreOf g d js) (i : EventId) where
  pairs : classes.all_pairs js ≡ report.all_pairs g d
  pairs = ap (λ (ls : List (List PairRec)). flat_map (λ ps. ps) ls) own.pairs ∙ logs d (first_joiner g) (2 * g.config.joiners)

  pub pair : classes.first_pair (classes.all_pairs js) i ≡ pair_of g d i
  pair = ap (λ (ps : List PairRec). classes.first_pair ps i) pairs

  values : classes.decided_for js g.config.table i ≡ decided_for g d i
  values = ap (λ (ns : List (List BallotNote)). decided same_batch ns (shard g i)) own.notes

  line_by : (o : Option PairRec) → classes.line_by (decided_for g d i) i o ≡ report.line_by g d i o
  line_by o = grind arith

  pub line : classes.line_of js g.config.table i ≡ report.line_of g d i
  line = grind (arith, pair)

  -- where the report has a pair the id is written
  is_written : (o : Option PairRec) → pair_of g d i ≡ o → IsSome o → IsWritten g (known_of g d []) i
  is_written o e s = grind (arith, written)

  has_pair : (o : Option PairRec) → pair_of g d i ≡ o → IsWritten g (known_of g d []) i → IsSome o
  has_pair o e w = grind (arith, unwritten)

  pub found : IsSome (classes.first_pair (classes.all_pairs js) i) ↔ IsWritten g (known_of g d []) i
  found = (is_written (classes.first_pair (classes.all_pairs js) i) (sym pair), has_pair (classes.first_pair (classes.all_pairs js) i) (sym pair))

  -- an id with a holder and no pair is missing, and no other
  shows : (t : Option Token) (o : Option PairRec) → holder (decided_for g d i) i ≡ t → pair_of g d i ≡ o → (is_some t && not (is_some o)) ≡ true → IsMissing g (known_of g d []) i
  shows t o h e q = grind (arith, unwritten)

  shown : (t : Option Token) (o : Option PairRec) → holder (decided_for g d i) i ≡ t → pair_of g d i ≡ o → IsMissing g (known_of g d []) i → (is_some t && not (is_some o)) ≡ true
  shown t o h e m = grind (arith, written)

  pub missing : (classes.is_missing js g.config.table i ≡ true) ↔ IsMissing g (known_of g d []) i
  missing = grind (arith, shows, pair, shown)
