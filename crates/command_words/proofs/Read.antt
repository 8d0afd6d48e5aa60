-- The values of a command that `clap` took.
use Rattle.std.proofs.Common.{◌≡◌, ◌∙◌, ◌<◌, ◌==◌, not, inl, inr, ℕ, Bool, true, false, cond, List, [], ◌∷◌, length, Option, Some, None, is_some, option_map, refl, true≢false, sym, ap, subst, arith}
use Rattle.std.proofs.lemmas.Slice.Eq.{bytes_eq-Decides}
use Rattle.command_words.proofs.Words.{AllByRecursion, Command, Form, Given, HaveValues, IfSome, IsFound, IsInRanges, IsNamed, IsReadable, IsSomeAnd, Opt, Row, Rule, Shape, Text, Wish, accepts, answers_to, any_text, arg_by_id, arg_by_index, argument_words, built, bulk, bytes_eq, codes, drill, entered, explicit_source, filled, find, finished, given_as, help_rule, is_given, is_required, join, label_of, name_of, names_of, nothing_held, number, number_in, option_and_then, option_map_or, option_or, options_of, parser_of_value, photon_app, reshard, row_text, rows_after, rows_at, slice_get, some_text, stop_after, subcommand_of, text_in, value_of, verify, walk, walk_from, wish_by}
use Rattle.clap.specs.Faults.{built_fault, check_fault, entered_fault, fault_of, level_fault, walk_fault}
use Rattle.clap.specs.declared.builder.value_parser.ValueParser.TheVariants as vp
use Rattle.clap.proofs.ValueTestLemmas.{accepts-Accepts}
use Rattle.command_words.proofs.Walks.{AllKnown, Known, full_rule}
use Rattle.command_words.proofs.Numbers.{number_within}
use Rattle.command_words.proofs.Tables.{accepts_as, defaults_fit, full_rules}
use Rattle.command_words.proofs.Levels.{fit, ready, sub}
use Rattle.command_words.proofs.Taken.{AreGood, Holds, IsGood, IsOwn, level_holds, or_nil}

-- ---- the rules of the commands

find_own : (c xs : List Rule) (p : Rule → Bool) (a : Rule) → AllByRecursion (IsOwn c) xs → find p xs ≡ Some a → IsOwn c a
find_own c [] p a owns e = cc
find_own c (x ∷ xs) p a owns e = grind (arith, find_own c xs p a owns.1)

owns_all : (c : List Rule) (options : List Opt) → AllKnown c options → arg_by_id c (codes "help") ≡ Some (filled help_rule) → AllByRecursion (IsOwn c) (full_rules options)
owns_all c [] k help = (record { by_id = help; action = inr refl }, tt)
owns_all c (o ∷ os) k help = (record { by_id = k.0.by_id; action = inl (refl, refl, omega arith) }, owns_all c os k.1 help)

owns : (c : Command) → AllByRecursion (IsOwn (sub c).rules) (sub c).rules
owns c = grind (arith, sub, ready, owns_all)

no_place : (c : Command) (i : ℕ) → arg_by_index (sub c).rules i ≡ None
no_place join i = refl
no_place _ i = refl

sub_holds : (c : Command) (words : List Text) → level_fault (sub c) [] nothing_held words false [] ≡ [] → Holds (sub c) words
sub_holds c words e = level_holds (sub c) (λ p a f. find_own (sub c).rules (sub c).rules p a (owns c) f) (ready c).once (no_place c) words (ready c).negates (ready c).none e

-- ---- which command was taken

which : (p : Shape → Bool) (s : Shape) → find p (sub join ∷ sub drill ∷ sub verify ∷ sub bulk ∷ sub reshard ∷ []) ≡ Some s → (c : Command) × (s ≡ sub c)
which p s e = go (p (sub join)) (p (sub drill)) (p (sub verify)) (p (sub bulk)) (p (sub reshard)) e
  where
    go : (a b d f h : Bool) → cond a (Some (sub join)) (cond b (Some (sub drill)) (cond d (Some (sub verify)) (cond f (Some (sub bulk)) (cond h (Some (sub reshard)) None)))) ≡ Some s → (c : Command) × (s ≡ sub c)
    go true b d f h e = let same : s ≡ sub join = cc in (join, same)
    go false true d f h e = let same : s ≡ sub drill = cc in (drill, same)
    go false false true f h e = let same : s ≡ sub verify = cc in (verify, same)
    go false false false true h e = let same : s ≡ sub bulk = cc in (bulk, same)
    go false false false false true e = let same : s ≡ sub reshard = cc in (reshard, same)
    go false false false false false e = cc

pub record IsTaken (words : List Text) : Type 0 where
  pub command : Command
  pub rest : List Text
  pub found : subcommand_of photon_app words ≡ Some (name_of command, rows_after (sub command).rules [] rest)
  pub holds : Holds (sub command) rest

-- a command that wants a subcommand was given one
with_sub : (s : Shape) (rows : List Row) (has : Bool) → s.subcommand_required ≡ true → check_fault s rows has ≡ [] → has ≡ true
with_sub s rows has wanted e = grind arith

-- the subcommand at which the walk of the top stopped
stopped_at : (words : List Text) (stop : Option (Text × List Text)) → stop_after (built photon_app).top.rules (names_of (built photon_app)) words ≡ stop
    → entered_fault (built photon_app) stop ≡ [] → is_some (entered (built photon_app) stop) ≡ true
    → (c : Command) × (ws : List Text) × (entered (built photon_app) stop ≡ Some (name_of c, rows_after (sub c).rules [] ws)) × Holds (sub c) ws
stopped_at words None is e has = absurd (true≢false (sym has))
stopped_at words (Some p) is e has = go (find (λ s. answers_to p.0 (label_of s)) (built photon_app).subs) refl e has
  where
    go : (o : Option Shape) → find (λ s. answers_to p.0 (label_of s)) (built photon_app).subs ≡ o
        → option_map_or (λ s. level_fault s [] nothing_held p.1 false []) o [] ≡ [] → is_some (option_map (λ s. rows_at s p.1) o) ≡ true
        → (c : Command) × (ws : List Text) × (option_map (λ (s : Shape). rows_at s p.1) (find (λ s. answers_to p.0 (label_of s)) (built photon_app).subs) ≡ Some (name_of c, rows_after (sub c).rules [] ws)) × Holds (sub c) ws
    go None found f some = absurd (true≢false (sym some))
    go (Some s) found f some =
        let own = which (λ s. answers_to p.0 (label_of s)) s found in
        let fault : level_fault (sub own.0) [] nothing_held p.1 false [] ≡ [] = subst (λ (t : Shape). level_fault t [] nothing_held p.1 false [] ≡ []) own.1 f in
        (own.0, p.1, ap (option_map (λ (s : Shape). rows_at s p.1)) (found ∙ ap (λ (t : Shape). Some t) own.1), sub_holds own.0 p.1 fault)

taken_of : (words all : List Text) → argument_words photon_app all ≡ words → built_fault (built photon_app) nothing_held words ≡ []
    → (c : Command) × (ws : List Text) × (entered (built photon_app) (stop_after (built photon_app).top.rules (names_of (built photon_app)) words) ≡ Some (name_of c, rows_after (sub c).rules [] ws)) × Holds (sub c) ws
taken_of words all is e =
    let a = built photon_app in
    let stop = (walk a.top.rules (names_of a) nothing_held words).stopped in
    let one = or_nil (walk_fault a.top (names_of a) (walk_from nothing_held) words) _ e in
    let two = or_nil (entered_fault a stop) _ one.1 in
    let three = or_nil _ _ two.1 in
    let rows = finished a.top.rules (walk a.top.rules (names_of a) nothing_held words).held in
    let four = or_nil _ (check_fault a.top rows (is_some (entered a stop))) three.1 in
    let has : is_some (entered a stop) ≡ true = with_sub a.top rows (is_some (entered a stop)) refl four.1 in
    stopped_at words stop refl two.0 has

pub taken : (words : List Text) → fault_of photon_app words ≡ [] → IsTaken words
taken words e = grind (arith, taken_of)

-- ---- its values

row_at : (c : List Rule) (rows : List Row) (n : Text) → AreGood c rows → IfSome (find (λ (r : Row). bytes_eq r.id n) rows) (λ r. IsGood c r × (r.id ≡ n))
row_at c [] n g = tt
row_at c (r ∷ rs) n g = grind (arith, bytes_eq-Decides, row_at c rs n g.1)

rule_is : (c : List Rule) (o : Opt) (r : Row) → Known c o → (g : IsGood c r) → r.id ≡ o.name → g.rule ≡ full_rule o
rule_is c o r k g e = grind arith

needs : (c : Command) (words : List Text) → Holds (sub c) words → AllByRecursion (λ (o : Opt). is_required o ≡ true → is_given o.name (rows_after (sub c).rules [] words) ≡ true) (options_of c)
needs c words h = grind arith

-- a value that its parser takes may be read
readable : (f : Form) (v : Text) → accepts_as f v ≡ true → IsReadable f v
readable (number low high) v e = accepts-Accepts false (vp.Unsigned low high) v e
readable any_text v e = tt
readable some_text v e = accepts-Accepts false vp.NonEmptyString v e

-- the value of a row, if there is one
abbrev value_in : Form → Option Row → Option Text
value_in (number low high) p = option_and_then row_text p
value_in any_text p = option_and_then (λ (r : Row). slice_get r.values 0) p
value_in some_text p = option_and_then (λ (r : Row). slice_get r.values 0) p

of_row : (f : Form) (rows : List Row) (n : Text) → given_as (text_in rows) (number_in rows) f n ≡ value_in f (find (λ (r : Row). bytes_eq r.id n) rows)
of_row f rows n = grind arith

-- an option's value is that of its row, or else its default
has_value : (c : List Rule) (rows : List Row) (o : Opt) → Known c o → AreGood c rows → (is_required o ≡ true → is_given o.name rows ≡ true) → option_map_or (accepts_as o.form) o.default true ≡ true
    → IsSomeAnd (value_of o (given_as (text_in rows) (number_in rows) o.form)) (IsReadable o.form)
has_value c rows o k g needs fit =
    subst (λ (t : Option Text). IsSomeAnd (option_or t o.default) (IsReadable o.form)) (sym (of_row o.form rows o.name)) (go (find (λ (r : Row). bytes_eq r.id o.name) rows) (row_at c rows o.name g) needs)
  where
    by_default : (d : Option Text) → (not (is_some d) ≡ true → false ≡ true) → option_map_or (accepts_as o.form) d true ≡ true → IsSomeAnd d (IsReadable o.form)
    by_default None h fits = absurd (true≢false (sym (h refl)))
    by_default (Some t) h fits = readable o.form t fits

    absent : (f : Form) → option_or (value_in f None) o.default ≡ o.default
    absent h = grind arith

    first : (r : Row) (good : IsGood c r) → good.rule ≡ full_rule o → (vs : List Text) → r.values ≡ vs → 0 < length vs → AllByRecursion (λ v. accepts good.rule.ignore_case (parser_of_value good.rule.parser) v ≡ true) vs
        → IsSomeAnd (option_or (value_in o.form (Some r)) o.default) (IsReadable o.form)
    first r good is [] same lt passed = absurd (omega arith)
    first r good is (v ∷ vs) same lt passed = grind (arith, readable)

    go : (p : Option Row) → IfSome p (λ r. IsGood c r × (r.id ≡ o.name)) → (is_required o ≡ true → option_map_or (λ (r : Row). explicit_source r.source) p false ≡ true)
        → IsSomeAnd (option_or (value_in o.form p) o.default) (IsReadable o.form)
    go None h wanted = subst (λ (t : Option Text). IsSomeAnd t (IsReadable o.form)) (sym (absent o.form)) (by_default o.default wanted fit)
    go (Some r) h wanted = first r h.0 (rule_is c o r k h.0 h.1) r.values refl h.0.some h.0.passed

has_each : (c : List Rule) (rows : List Row) → AreGood c rows → (options : List Opt) → AllKnown c options → AllByRecursion (λ (o : Opt). is_required o ≡ true → is_given o.name rows ≡ true) options
    → AllByRecursion (λ (o : Opt). option_map_or (accepts_as o.form) o.default true ≡ true) options → HaveValues (text_in rows) (number_in rows) IsReadable options
has_each c rows g [] k needs fit = tt
has_each c rows g (o ∷ os) k needs fit = (has_value c rows o k.0 g needs.0 fit.0, has_each c rows g os k.1 needs.1 fit.1)

pub has_values : (c : Command) (words : List Text) → Holds (sub c) words → HaveValues (text_in (rows_after (sub c).rules [] words)) (number_in (rows_after (sub c).rules [] words)) IsReadable (options_of c)
has_values c words h = has_each (sub c).rules (rows_after (sub c).rules [] words) h.good (options_of c) (ready c).known (needs c words h) (defaults_fit [] (options_of c) (fit c))

-- ---- what is asked for

-- a name has one command: its first letter tells
abbrev by_letter : Text → Command
by_letter [] = join
by_letter (x ∷ xs) = cond (x == 106) join (cond (x == 100) drill (cond (x == 118) verify (cond (x == 114) reshard bulk)))

-- no two commands have one name
pub same_command : (a b : Command) → name_of a ≡ name_of b → a ≡ b
same_command a b same = grind arith

module _ (text_at number_at : Given) where
  within : (c : Command) → HaveValues text_at number_at IsReadable (options_of c) → IsInRanges (wish_by text_at number_at c)
  within verify h = tt
  within bulk h = grind (arith, number_within)
  within reshard h = tt
  within k h = grind arith

  -- what a command asks for by values that may be read
  pub in_range : (w : Wish) (c : Command) → IsNamed w (name_of c) text_at number_at → HaveValues text_at number_at IsReadable (options_of c) → IsFound w (name_of c) text_at number_at × IsInRanges w
  in_range w c named h = grind (arith, within)

-- what is asked for by words in which the parser finds no fault
pub told : (words : List Text) (w : Wish) → fault_of photon_app words ≡ [] → IsSomeAnd (subcommand_of photon_app words) (λ p. IsNamed w p.0 (text_in p.1) (number_in p.1))
    → IsSomeAnd (subcommand_of photon_app words) (λ p. IsFound w p.0 (text_in p.1) (number_in p.1)) × IsInRanges w
told words w none named =
    let got = taken words none in
    let rows : List Row = rows_after (sub got.command).rules [] got.rest in
    grind (arith, in_range, has_values)
