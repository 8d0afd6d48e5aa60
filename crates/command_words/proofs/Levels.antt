-- The five commands, as a parse finds them.
use Rattle.std.proofs.Common.{◌≡◌, ◌∙◌, true, List, [], ◌∷◌, ◌++◌, append_assoc, Some, refl, sym, ap, subst, arith}
use Rattle.command_words.proofs.Words.{Command, IsPlain, Pairs, Shape, Text, Walk, answers_to, append-nil, built, built_leaf, find, fold, inherited, join, label_of, marked_built, name_of, names_of, nothing_held, options_of, pair_words, photon_app, shape_of_command, subcommand_of, takes, walk, walk_from, with_leaf_noted}
use Rattle.clap.specs.Walk.{walked}
use Rattle.clap.specs.Takes.{walk_passes}
use Rattle.command_words.proofs.Walks.{IsReady, Takes, level_takes, pair_rows}
use Rattle.command_words.proofs.Tables.{all_fit}

-- a command, built
abbrev pub sub : Command → Shape
sub c = built_leaf (inherited (with_leaf_noted (marked_built photon_app.top)) (shape_of_command c))

sub_found : (c : Command) → find (λ s. answers_to (name_of c) (label_of s)) (built photon_app).subs ≡ Some (sub c)
sub_found join = refl
sub_found _ = refl

pub fit : (c : Command) → all_fit [] (options_of c) ≡ true
fit join = refl
fit _ = refl

pub ready : (c : Command) → IsReady (sub c) (options_of c)
ready c = grind arith

-- ---- the words before the options

-- the walk of the top after the command's name
abbrev entered_at : Text → List Text → Walk
entered_at name rest = record (walk_from nothing_held) { stopped = Some (name, rest) }

abbrev top_walked : Walk → Text → Walk
top_walked = walked (built photon_app).top.rules (names_of (built photon_app))

name_enters : (c : Command) → top_walked (walk_from nothing_held) (name_of c) ≡ entered_at (name_of c) []
unfolding walked
name_enters join = refl
name_enters _ = refl

rest_goes : (name : Text) (before rest : List Text) → fold top_walked (entered_at name before) rest ≡ entered_at name (before ++ rest)
unfolding walked
rest_goes name before [] = ap (entered_at name) (sym (append-nil before))
rest_goes name before (w ∷ ws) = rest_goes name (before ++ w ∷ []) ws ∙ ap (entered_at name) (append_assoc before (w ∷ []) ws)

rest_passes : (name : Text) (before rest : List Text) → walk_passes (built photon_app).top (names_of (built photon_app)) (entered_at name before) rest ≡ true
unfolding walked walk_passes
rest_passes name before [] = refl
rest_passes name before (w ∷ ws) = rest_passes name (before ++ w ∷ []) ws

passes_is : (c : Command) (rest : List Text) → walk_passes (built photon_app).top (names_of (built photon_app)) (walk_from nothing_held) (name_of c ∷ rest) ≡ true
unfolding walk_passes
passes_is c rest = grind (arith, name_enters, rest_passes)

-- what plain words give
pub record Gives (words : List Text) (c : Command) (pairs : Pairs) : Type 0 where
  pub taken : takes photon_app words ≡ true
  pub found : subcommand_of photon_app words ≡ Some (name_of c, pair_rows pairs)

gives : (program : Text) (c : Command) (pairs : Pairs) → Takes (sub c) pairs → Gives (program ∷ name_of c ∷ pair_words pairs) c pairs
gives program c pairs level = grind (arith, name_enters, rest_goes, sub_found, passes_is)

pub plain_gives : (words : List Text) (c : Command) (pairs : Pairs) → IsPlain words c pairs → Gives words c pairs
plain_gives words c pairs plain =
    subst (λ (ws : List Text). Gives ws c pairs) (sym plain.form.1) (gives plain.form.0 c pairs (level_takes (sub c) (options_of c) pairs (ready c) plain.options))
