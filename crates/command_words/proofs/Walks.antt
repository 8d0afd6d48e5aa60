-- What a parse makes of options and their values.
use Rattle.std.proofs.Common.{◌≡◌, ◌∙◌, ◌<◌, ◌++◌, ◌==◌, ◌&&◌, ◌||◌, not, ℕ, Bool, true, false, cond, List, [], ◌∷◌, map, suc, Option, Some, None, option_map, append_assoc, refl, sym, ap, ap₂, subst, arith}
use Rattle.std.specs.Prelude.{◌^◌}
use Rattle.std.specs.List.{IsDistinct}
use Rattle.std.proofs.lemmas.Slice.Eq.{bytes_eq-Decides}
use Rattle.std.proofs.lemmas.List.Folds.{list_any-append}
use Rattle.command_words.proofs.Words.{Accepts, All, AllByRecursion, ArePairsOf, Form, Held, IsSome, IsSomeAnd, IsValue, Opt, Pairs, Row, Rule, Shape, Text, Walk, accepts, after_step, any_text, append-nil, arg_by_id, arg_by_long, at_row, bytes_eq, default_passes, digits_value, filled, find, finished, first_of, fold, given, has_row, help_rule, is_given, is_required, is_valid, level_passes, list_all, map-append, next, nothing_held, number, one_of, option, option_map_or, option_named, option_word, pair_words, parser_of, parser_of_value, rows_after, rule_of_option, settle_passes, settled_rows, some_text, turn_passes, unwrap_or, use_passes, used, used_by_id, walk, walk_from, with_default, with_index, ⊤}
use Rattle.clap.specs.Lexer.{long_of}
use Rattle.clap.proofs.ValueTestLemmas.{Accepts-accepts}
use Rattle.clap.specs.declared.builder.value_parser.ValueParser.TheVariants as vp
use Rattle.clap.specs.Walk.{walked}
use Rattle.clap.specs.Takes.{walk_passes}
use Rattle.clap.specs.declared.parser.matches.ValueSource.TheVariants.{CommandLine}
use Rattle.clap.specs.declared.builder.value_parser.Reading.TheVariants.{AsWritten}
use Rattle.command_words.proofs.Numbers.{no_plus}

-- an option as a built command has it
abbrev pub full_rule : Opt → Rule
full_rule o = with_index 1 (filled (rule_of_option o))

abbrev pub FitsNumber : Form → Type 0
FitsNumber (number low high) = high < 2 ^ 64
FitsNumber any_text = ⊤
FitsNumber some_text = ⊤

-- an option of the rules c
pub record Known (c : List Rule) (o : Opt) : Type 0 where
  pub long : long_of (45 ∷ 45 ∷ o.name) ≡ Some (o.name, None)
  pub not_end : bytes_eq (45 ∷ 45 ∷ o.name) (45 ∷ 45 ∷ []) ≡ false
  pub by_long : arg_by_long c o.name ≡ Some (full_rule o)
  pub by_id : arg_by_id c o.name ≡ Some (full_rule o)
  pub fits : FitsNumber o.form

pub same : (t : Text) → bytes_eq t t ≡ true
same t = (bytes_eq-Decides t t).1 refl

-- ---- one option and its value

-- the walk after an option's word
abbrev at_value : List Rule → Opt → Held → Walk
at_value c o h = record (walk_from (record h { rows = settled_rows c h.pending h.rows; pending = Some (o.name, []) })) { waiting = option o.name }

-- what is held after its value
abbrev pub after_pair : List Rule → Held → Text → Text → Held
after_pair c h n v = record h { rows = settled_rows c h.pending h.rows; pending = Some (n, v ∷ []) }

name_walked : (c : List Rule) (o : Opt) (h : Held) → Known c o → walked c [] (walk_from h) (45 ∷ 45 ∷ o.name) ≡ at_value c o h
unfolding walked
name_walked c o h k = rw (k.not_end, k.long, k.by_long) refl

-- the walk after the value, by the rule that its option has
abbrev valued : List Rule → Opt → Held → Text → Option Rule → Walk
valued c o h v r =
    let w = at_value c o h in
    after_step c v w (option_word r o.name v w.held).0 (next (option_word r o.name v w.held).1)

value_walked : (c : List Rule) (o : Opt) (h : Held) (x : ℕ) (xs : Text) → Known c o → (x == 45) ≡ false
    → walked c [] (at_value c o h) (x ∷ xs) ≡ walk_from (after_pair c h o.name (x ∷ xs))
unfolding walked
value_walked c o h x xs k e = grind (arith, same)

name_passes : (s : Shape) (o : Opt) (h : Held) → Known s.rules o → turn_passes s [] (walk_from h) (45 ∷ 45 ∷ o.name) ≡ (settle_passes s.rules s.args_override_self h && true)
name_passes s o h k = rw (k.not_end, k.long, k.by_long) refl

value_passes : (s : Shape) (o : Opt) (h : Held) (x : ℕ) (xs : Text) → (x == 45) ≡ false → turn_passes s [] (at_value s.rules o h) (x ∷ xs) ≡ true
value_passes s o h x xs e = grind arith

-- ---- rows

-- what a parse keeps of an option and its value
abbrev pub pair_row : Text × Text → Row
pair_row p = record { id = p.0; values = p.1 ∷ []; count = None; source = Some CommandLine; reading = AsWritten }

abbrev pub pair_rows : Pairs → List Row
pair_rows = map pair_row

pub at_none : (id : Text) (change : Row → List Row) (missing rs : List Row) → has_row id rs ≡ false → at_row id change missing rs ≡ rs ++ missing
at_none id change missing [] none = refl
at_none id change missing (r ∷ rs) none = grind (arith, at_none id change missing rs)

-- a use of an option that has no row yet adds its row
used_once : (o : Opt) (v : Text) (rows : List Row) → has_row o.name rows ≡ false → used (full_rule o) (v ∷ []) rows ≡ rows ++ pair_row (o.name, v) ∷ []
used_once o v rows none = grind (arith, at_none, append-nil)

-- ---- values

value_word : (f : Form) (v : Text) → IsValue f v → (x : ℕ) × (xs : Text) × (v ≡ x ∷ xs) × ((x == 45) ≡ false)
value_word k [] h = grind arith
value_word k (x ∷ xs) h = grind arith

value_accepted : (f : Form) (v : Text) → FitsNumber f → IsValue f v → accepts false (parser_of_value (Some (unwrap_or (parser_of f) vp.String))) v ≡ true
value_accepted (number low high) v fits h =
    let own = no_plus v h.2 in
    let below : digits_value 10 v < 2 ^ 64 = omega arith in
    let all : Accepts false (vp.Unsigned low high) v = rw own ((h.0, h.2), below, h.3, h.4) in
    Accepts-accepts false (vp.Unsigned low high) v all
value_accepted any_text v fits h = refl
value_accepted some_text [] fits h = absurd h
value_accepted some_text (x ∷ xs) fits h = Accepts-accepts false vp.NonEmptyString (x ∷ xs) (omega arith)

use_accepted : (o : Opt) (v : Text) (rows : List Row) → FitsNumber o.form → IsValue o.form v → has_row o.name rows ≡ false → use_passes false (full_rule o) (v ∷ []) rows ≡ true
use_accepted o v rows fits h none = rw (none, value_accepted o.form v fits h) refl

-- ---- the options of a command

abbrev pub AllKnown : List Rule → List Opt → Type 0
AllKnown c = AllByRecursion (Known c)

looked_up : (c : List Rule) (n : Text) (Q : Opt → Type 0) (options : List Opt) → AllKnown c options → IsSomeAnd (option_named n options) Q
    → (o : Opt) × (o.name ≡ n) × Known c o × Q o
looked_up c n Q [] known h = absurd h
looked_up c n Q (o ∷ os) known h = grind (arith, bytes_eq-Decides, looked_up c n Q os known.1)

-- ---- all the pairs

-- the walk goes through the pairs, and keeps them in order
pub record Goes (s : Shape) (h : Held) (done pairs : Pairs) : Type 0 where
  pub passes : walk_passes s [] (walk_from h) (pair_words pairs) ≡ true
  pub «end» : Held
  pub walks : walk s.rules [] h (pair_words pairs) ≡ walk_from «end»
  pub rows : settled_rows s.rules «end».pending «end».rows ≡ pair_rows (done ++ pairs)
  pub settles : settle_passes s.rules false «end» ≡ true

-- no pair has a row among those of `done`
abbrev pub AreNew : Pairs → Pairs → Type 0
AreNew done = AllByRecursion (λ p. has_row p.0 (pair_rows done) ≡ false)

still_new : (p : Text × Text) (ps done : Pairs) → AllByRecursion (λ n. bytes_eq p.0 n ≡ false) (map (λ q. q.0) ps) → AreNew done ps → AreNew (done ++ p ∷ []) ps
still_new p [] done apart new = tt
still_new p (q ∷ qs) done apart new = grind (arith, map-append, list_any-append, still_new p qs done apart.1 new.1)

-- the words of one pair, and then the rest
module _ (s : Shape) (ps done : Pairs) (h : Held) (o : Opt) (known : Known s.rules o) (once : s.args_override_self ≡ false)
    (rows : settled_rows s.rules h.pending h.rows ≡ pair_rows done) (settles : settle_passes s.rules false h ≡ true) where
  abbrev GoesOn : Text → Text → Type 0
  GoesOn n v = settled_rows s.rules (Some (n, v ∷ [])) (settled_rows s.rules h.pending h.rows) ≡ pair_rows (done ++ (n, v) ∷ [])
      → settle_passes s.rules false (after_pair s.rules h n v) ≡ true → Goes s (after_pair s.rules h n v) (done ++ (n, v) ∷ []) ps

  word_goes : (x : ℕ) (xs : Text) → (x == 45) ≡ false → IsValue o.form (x ∷ xs) → AreNew done ((o.name, x ∷ xs) ∷ ps) → GoesOn o.name (x ∷ xs) → Goes s h done ((o.name, x ∷ xs) ∷ ps)
  unfolding walk_passes
  word_goes x xs e valid new rest =
      let v : Text = x ∷ xs in
      let named = name_walked s.rules o h known in
      let valued = value_walked s.rules o h x xs known e in
      let kept : settled_rows s.rules (Some (o.name, v ∷ [])) (settled_rows s.rules h.pending h.rows) ≡ pair_rows (done ++ (o.name, v) ∷ [])
      = ap (λ (all : List Row). used_by_id (arg_by_id s.rules o.name) (v ∷ []) all) rows
      ∙ (ap (λ (r : Option Rule). used_by_id r (v ∷ []) (pair_rows done)) known.by_id
      ∙ (used_once o v (pair_rows done) new.0 ∙ sym (map-append pair_row done ((o.name, v) ∷ [])))) in
      let settled_next : settle_passes s.rules false (after_pair s.rules h o.name v) ≡ true
      = ap (λ (r : Option Rule). option_map_or (λ (a : Rule). use_passes false a (v ∷ []) (settled_rows s.rules h.pending h.rows)) r true) known.by_id
      ∙ (ap (λ (all : List Row). use_passes false (full_rule o) (v ∷ []) all) rows ∙ use_accepted o v (pair_rows done) known.fits valid new.0) in
      let more = rest kept settled_next in
      let first : turn_passes s [] (walk_from h) (45 ∷ 45 ∷ o.name) ≡ true = name_passes s o h known ∙ (ap (λ (again : Bool). settle_passes s.rules again h && true) once ∙ ap (λ (b : Bool). b && true) settles) in
      record {
        passes = ap₂ (λ (a b : Bool). a && b) first (ap (λ (w : Walk). walk_passes s [] w (v ∷ pair_words ps)) named
            ∙ ap₂ (λ (a b : Bool). a && b) (value_passes s o h x xs e) (ap (λ (w : Walk). walk_passes s [] w (pair_words ps)) valued ∙ more.passes));
        «end» = more.«end»;
        walks = ap (λ (w : Walk). fold (walked s.rules []) (walked s.rules [] w v) (pair_words ps)) named
            ∙ (ap (λ (w : Walk). fold (walked s.rules []) w (pair_words ps)) valued ∙ more.walks);
        rows = more.rows ∙ ap pair_rows (append_assoc done ((o.name, v) ∷ []) ps);
        settles = more.settles;
      }

  pair_goes : (n v : Text) → o.name ≡ n → IsValue o.form v → AreNew done ((n, v) ∷ ps) → GoesOn n v → Goes s h done ((n, v) ∷ ps)
  pair_goes n v named valid =
      let w = value_word o.form v valid in
      let at_word : AreNew done ((o.name, w.0 ∷ w.1) ∷ ps) → GoesOn o.name (w.0 ∷ w.1) → Goes s h done ((o.name, w.0 ∷ w.1) ∷ ps)
      = word_goes w.0 w.1 w.3 (subst (IsValue o.form) w.2 valid) in
      let at_name : AreNew done ((n, w.0 ∷ w.1) ∷ ps) → GoesOn n (w.0 ∷ w.1) → Goes s h done ((n, w.0 ∷ w.1) ∷ ps)
      = subst (λ (m : Text). AreNew done ((m, w.0 ∷ w.1) ∷ ps) → GoesOn m (w.0 ∷ w.1) → Goes s h done ((m, w.0 ∷ w.1) ∷ ps)) named at_word in
      subst (λ (u : Text). AreNew done ((n, u) ∷ ps) → GoesOn n u → Goes s h done ((n, u) ∷ ps)) (sym w.2) at_name

goes : (s : Shape) (options : List Opt) → AllKnown s.rules options → s.args_override_self ≡ false → (pairs done : Pairs) (h : Held)
    → All (λ p. IsSomeAnd (option_named p.0 options) (λ o. IsValue o.form p.1)) pairs → AreNew done pairs → IsDistinct bytes_eq (map (λ p. p.0) pairs)
    → settled_rows s.rules h.pending h.rows ≡ pair_rows done → settle_passes s.rules false h ≡ true → Goes s h done pairs
unfolding walk_passes IsDistinct
goes s options known once [] done h valid new distinct rows settles = grind (arith, append-nil)
goes s options known once (p ∷ ps) done h valid new distinct rows settles =
    let found = looked_up s.rules p.0 (λ o. IsValue o.form p.1) options known (valid 0 p (omega arith)) in
    pair_goes s ps done h found.0 found.2 once rows settles p.0 p.1 found.1 found.3 new
    (goes s options known once ps (done ++ p ∷ []) (after_pair s.rules h p.0 p.1) (λ k d lt. valid (suc k) d (omega arith)) (still_new p ps done distinct.0 new.1) distinct.1)

-- ---- one level

-- what the rules of a built command of these options are
pub record IsReady (s : Shape) (options : List Opt) : Type 0 where
  pub rules : s.rules ≡ map full_rule options ++ filled help_rule ∷ []
  pub known : AllKnown s.rules options
  pub free : list_all (λ a. a.is_free) s.rules ≡ true
  pub defaults : list_all default_passes s.rules ≡ true
  pub none : AllByRecursion (λ (a : Rule). a.defaults ≡ []) s.rules
  pub once : s.args_override_self ≡ false
  pub no_help : s.arg_required_else_help ≡ false
  pub no_sub : s.subcommand_required ≡ false
  pub negates : s.subcommand_negates_reqs ≡ false

-- the rows have what the pairs give
row_found : (ps : Pairs) (n : Text) → find (λ (r : Row). bytes_eq r.id n) (pair_rows ps) ≡ option_map pair_row (find (λ p. bytes_eq p.0 n) ps)
row_found [] n = refl
row_found (p ∷ ps) n = go (bytes_eq p.0 n) (row_found ps n)
  where
    go : (b : Bool) → find (λ (r : Row). bytes_eq r.id n) (pair_rows ps) ≡ option_map pair_row (find (λ q. bytes_eq q.0 n) ps)
        → cond b (Some (pair_row p)) (find (λ (r : Row). bytes_eq r.id n) (pair_rows ps)) ≡ option_map pair_row (cond b (Some p) (find (λ q. bytes_eq q.0 n) ps))
    go h rest = grind arith

pub first_given : (ps : Pairs) (n : Text) → first_of n (pair_rows ps) ≡ given ps n
first_given ps n = grind (arith, row_found)

pub one_given : (ps : Pairs) (n : Text) → one_of n (pair_rows ps) ≡ given ps n
one_given ps n = grind (arith, row_found)

-- with no defaults the rows stay
pub no_more : (rules : List Rule) (rows : List Row) → AllByRecursion (λ (a : Rule). a.defaults ≡ []) rules → fold with_default rows rules ≡ rows
no_more [] rows none = refl
no_more (a ∷ rules) rows none = grind (arith, no_more rules rows none.1)

required_given : (options : List Opt) (ps : Pairs) → All (λ o. is_required o ≡ true → IsSome (given ps o.name)) options
    → list_all (λ (a : Rule). not a.required || is_given a.id (pair_rows ps)) (map full_rule options ++ filled help_rule ∷ []) ≡ true
required_given [] ps complete = refl
required_given (o ∷ os) ps complete = ap₂ (λ (a b : Bool). a && b) (go (is_required o) (complete 0 o (omega arith))) (required_given os ps (λ k d lt. complete (suc k) d (omega arith)))
  where
    go : (b : Bool) → (b ≡ true → IsSome (given ps o.name)) → (not b || is_given o.name (pair_rows ps)) ≡ true
    go k h = grind (arith, row_found)

-- a level takes its pairs, and keeps them as its rows
pub record Takes (s : Shape) (pairs : Pairs) : Type 0 where
  pub passes : level_passes s [] nothing_held (pair_words pairs) false ≡ true
  pub rows : rows_after s.rules [] (pair_words pairs) ≡ pair_rows pairs

all_new : (ps : Pairs) → AreNew [] ps
all_new [] = tt
all_new (p ∷ ps) = (refl, all_new ps)

pub level_takes : (s : Shape) (options : List Opt) (pairs : Pairs) → IsReady s options → ArePairsOf options pairs → Takes s pairs
level_takes s options pairs ready plain =
    let g = goes s options ready.known ready.once pairs [] nothing_held plain.known (all_new pairs) plain.once refl refl in
    let held : (walk s.rules [] nothing_held (pair_words pairs)).held ≡ g.«end» = ap (λ (w : Walk). w.held) g.walks in
    let left : finished s.rules (walk s.rules [] nothing_held (pair_words pairs)).held ≡ pair_rows pairs
    = ap (finished s.rules) held ∙ (ap (λ (all : List Row). fold with_default all s.rules) g.rows ∙ no_more s.rules (pair_rows pairs) ready.none) in
    let settles : settle_passes s.rules s.args_override_self (walk s.rules [] nothing_held (pair_words pairs)).held ≡ true
    = ap₂ (λ (again : Bool) (h : Held). settle_passes s.rules again h) ready.once held ∙ g.settles in
    let wanted : list_all (λ (a : Rule). not a.required || is_given a.id (pair_rows pairs)) s.rules ≡ true
    = ap (λ (rules : List Rule). list_all (λ (a : Rule). not a.required || is_given a.id (pair_rows pairs)) rules) ready.rules ∙ required_given options pairs plain.complete in
    let valid : is_valid s (pair_rows pairs) false ≡ true = rw (ready.no_help, ready.no_sub, ready.free, ready.negates, wanted) refl in
    grind arith
