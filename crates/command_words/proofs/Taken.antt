-- What holds of the values where `clap` takes the words.
use Rattle.std.proofs.Common.{◌≡◌, ◌⊎◌, ◌<◌, ◌≤◌, ◌++◌, ◌&&◌, not, ℕ, Bool, true, false, List, [], ◌∷◌, length, zero, suc, Option, Some, None, refl, arith}
use Rattle.command_words.proofs.Words.{AllByRecursion, Held, Kinds, Outcome, Row, Rule, Shape, Waiting, Walk, accepts, append-nil, arg_by_id, arg_by_index, find, fold, is_given, list_any, long_or_other, nothing_held, option_map_or, option_met, or_else, parser_of_value, reacted, reading_by, rows_after, settled_rows, unwrap_or_range, used, values_kinds}
use Rattle.clap.specs.Walk.{Text, bundle_met, walked}
use Rattle.clap.specs.declared.builder.value_parser.ValueParser.{ValueParser}
use Rattle.clap.specs.Faults.{flag_word_fault, flags_fault, level_fault, option_fault, react_fault, turn_fault, use_fault, walk_fault}
use Rattle.clap.specs.declared.error.kind.ErrorKind.TheVariants as kind
use Rattle.clap.specs.declared.builder.action.ArgAction.TheVariants.{Set, Help}
use Rattle.command_words.proofs.Walks.{at_none, no_more}

-- ---- lists of kinds

pub or_nil : (a b : Kinds) → or_else a b ≡ [] → (a ≡ []) × (b ≡ [])
or_nil [] b e = (refl, e)
or_nil (k ∷ ks) b e = cc

-- ---- rows

-- the row's values passed the parser of its argument
pub record IsGood (c : List Rule) (r : Row) : Type 0 where
  pub rule : Rule
  pub by_id : arg_by_id c r.id ≡ Some rule
  pub some : 0 < length r.values
  pub passed : AllByRecursion (λ v. accepts rule.ignore_case (parser_of_value rule.parser) v ≡ true) r.values
  pub reading : r.reading ≡ reading_by rule

abbrev pub AreGood : List Rule → List Row → Type 0
AreGood c = AllByRecursion (IsGood c)

-- a rule of c that takes a value, or asks for help
pub record IsOwn (c : List Rule) (a : Rule) : Type 0 where
  pub by_id : arg_by_id c a.id ≡ Some a
  pub action : ((a.action ≡ Some Set) × (a.missing ≡ []) × (1 ≤ (unwrap_or_range a.range).start_inclusive)) ⊎ (a.action ≡ Some Help)

good_append : (c : List Rule) (rows more : List Row) → AreGood c rows → AreGood c more → AreGood c (rows ++ more)
good_append c [] more g h = h
good_append c (r ∷ rs) more g h = (g.0, good_append c rs more g.1 h)

all_accepted : (i : Bool) (p : ValueParser) (vs : List Text) → values_kinds i p vs ≡ [] → AllByRecursion (λ v. accepts i p v ≡ true) vs
all_accepted i p [] e = tt
all_accepted i p (v ∷ vs) e = grind (arith, all_accepted i p vs)

module _ (c : List Rule) (own : (p : Rule → Bool) (a : Rule) → find p c ≡ Some a → IsOwn c a) where
  used_good : (a : Rule) (vs : List Text) (rows : List Row) → IsOwn c a → use_fault false a vs rows ≡ [] → AreGood c rows → AreGood c (used a vs rows)
  used_good a vs rows is e g = grind (arith, or_nil, at_none, append-nil, all_accepted, good_append)

  settled_good : (p : Option (Text × List Text)) (rows : List Row)
      → option_map_or (λ q. option_map_or (λ a. use_fault false a q.1 rows) (arg_by_id c q.0) []) p [] ≡ [] → AreGood c rows → AreGood c (settled_rows c p rows)
  settled_good p rows e g = grind (arith, used_good)

  reacted_good : (a : Rule) (vs : List Text) (h : Held) → IsOwn c a → react_fault c false a vs h ≡ [] → AreGood c h.rows → AreGood c (reacted c a vs h).rows
  reacted_good a vs h is e g = grind (arith, used_good)

  option_good : (a : Rule) (v : Option Text) (h : Held) → IsOwn c a → option_fault c false a v h ≡ [] → AreGood c h.rows → AreGood c (option_met c a v h).0.rows
  option_good a (Some v) h is e g = reacted_good a (v ∷ []) h is e g
  option_good a None h is e g = settled_good h.pending h.rows e g

  abbrev Next : Type 0
  Next = Text → ℕ → Outcome → Held → Held × Outcome

  abbrev NextFault : Type 0
  NextFault = Text → ℕ → Held → Kinds

  abbrev GoesOn : Next → NextFault → Type 0
  GoesOn met fault = (t : Text) (n : ℕ) (so : Outcome) (h : Held) → fault t n h ≡ [] → AreGood c h.rows → AreGood c (met t n so h).0.rows

  bundle_good : (k : ℕ) (flags : Text) (skip : ℕ) (so : Outcome) (h : Held) → flags_fault c false k flags skip h ≡ [] → AreGood c h.rows → AreGood c (bundle_met c k flags skip so h).0.rows
  unfolding bundle_met flags_fault
  bundle_good zero flags skip so h e g = g
  bundle_good (suc k) flags skip so h e g = grind (arith, option_good, bundle_good k)

  -- ---- a word

  flag_good : (waiting : Waiting) (word : Text) (o : Option (Text × Option Text)) (h : Held) → flag_word_fault c false o word h ≡ [] → AreGood c h.rows
      → AreGood c (long_or_other c waiting word o h).0.rows
  flag_good waiting word (Some p) h e g = grind (arith, option_good)
  flag_good waiting word None h e g = grind (arith, bundle_good)

-- ---- the words of one level

-- what holds where a level takes the words
pub record Holds (s : Shape) (words : List Text) : Type 0 where
  pub good : AreGood s.rules (rows_after s.rules [] words)
  pub given : list_any (λ a. a.required && not (is_given a.id (rows_after s.rules [] words))) s.rules ≡ false

module _ (s : Shape) (own : (p : Rule → Bool) (a : Rule) → find p s.rules ≡ Some a → IsOwn s.rules a) (once : s.args_override_self ≡ false) (no_place : (i : ℕ) → arg_by_index s.rules i ≡ None) where
  turn_good : (w : Walk) (word : Text) → turn_fault s [] w word ≡ [] → AreGood s.rules w.held.rows → AreGood s.rules (walked s.rules [] w word).held.rows
  unfolding walked
  turn_good w word e g = grind (arith, flag_good)

  walk_good : (words : List Text) (w : Walk) → walk_fault s [] w words ≡ [] → AreGood s.rules w.held.rows → AreGood s.rules (fold (walked s.rules []) w words).held.rows
  unfolding walk_fault
  walk_good [] w e g = g
  walk_good (x ∷ xs) w e g = let two = or_nil (turn_fault s [] w x) (walk_fault s [] (walked s.rules [] w x) xs) e in walk_good xs (walked s.rules [] w x) two.1 (turn_good w x two.0 g)

  pub level_holds : (words : List Text) → s.subcommand_negates_reqs ≡ false → AllByRecursion (λ (a : Rule). a.defaults ≡ []) s.rules → level_fault s [] nothing_held words false [] ≡ [] → Holds s words
  level_holds words negates none e = grind (arith, walk_good, settled_good, no_more)
