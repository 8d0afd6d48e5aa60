-- Which words are plain, and what plain words ask for.
use Rattle.std.specs.Prelude.{◌≡◌, ◌≢◌, ◌<◌, ◌≤◌, ℕ, Bool, true, not, List, [], ◌∷◌, map, length, Option, Some, None, is_some, IsSome, IsSomeAnd, option_map, unwrap_or, find, codes, ⊤, String, string_bytes}
use Rattle.std.specs.List.{All, AllByRecursion, IsDistinct}
use Rattle.std.specs.Option.{option_map_or, option_or}
use Rattle.std.specs.Str.{bytes_eq}
use Rattle.std.specs.Str.Parse.{AllDigits, digits_value, without_leading_plus}
use Rattle.std.specs.Global.{Global}
use Rattle.clap.specs.Values.{IsUnsignedIn, kind_of}
use Rattle.clap.specs.Kinds.{IsAmong, Kinds}
use Rattle.clap.specs.declared.error.Error.{Error}
use Rattle.clap.specs.declared.error.kind.ErrorKind.TheVariants.{OutOfMemory}
use Rattle.command_words.specs.declared.asked.WordsFault.{WordsFault}
use Rattle.command_words.specs.declared.asked.WordsFault.TheVariants.{Memory, Refused}
use Rattle.command_words.specs.declared.asked.NodeOptions.{NodeOptions}
use Rattle.command_words.specs.declared.asked.RunOptions.{RunOptions}
use Rattle.command_words.specs.declared.asked.BulkOptions.{BulkOptions}
use Rattle.command_words.specs.declared.asked.Asked.{Asked}
use Rattle.command_words.specs.declared.asked.Asked.TheVariants.{Join, Drill, Verify, Bulk, Reshard}
use Rattle.command_words.specs.declared.options.TheConstants.{MOST_CLICKS}
use Rattle.command_words.specs.declared.options.Form.{Form}
use Rattle.command_words.specs.declared.options.Form.TheVariants.{Number as number, AnyText as any_text, SomeText as some_text}

abbrev pub Text : Type 0
Text = List ℕ

-- the words as lists of bytes
abbrev pub texts : List (String Global) → List Text
texts words = map string_bytes words

-- ---- the commands and their options

-- an option, by its name without the two hyphens; where it has a default it may be left out, and then has that value
pub record Opt : Type 0 where
  pub name : Text
  pub form : Form
  pub default : Option Text

abbrev pub must : Text → Form → Opt
must name form = record { name = name; form = form; default = None }

abbrev pub may : Text → Form → Text → Opt
may name form default = record { name = name; form = form; default = Some default }

abbrev pub is_required : Opt → Bool
is_required o = not (is_some o.default)

abbrev pub queries : Opt
queries = must (codes "queries") any_text

abbrev pub clicks : Opt
clicks = must (codes "clicks") any_text

abbrev pub state : Opt
state = must (codes "state") any_text

abbrev pub plan : Opt
plan = must (codes "plan") any_text

abbrev pub add : Opt
add = must (codes "add") any_text

abbrev pub seed : Opt
seed = must (codes "seed") (number 0 18446744073709551615)

abbrev pub count : Opt
count = must (codes "clicks") (number 0 MOST_CLICKS)

abbrev pub horizon : Opt
horizon = may (codes "horizon") (number 0 18446744073709551615) (codes "0")

abbrev pub joiners : Opt
joiners = may (codes "joiners") (number 1 4) (codes "1")

abbrev pub shards : Opt
shards = may (codes "shards") some_text (codes "0:4")

abbrev pub batch : Opt
batch = may (codes "batch") (number 1 64) (codes "64")

-- those of each command that runs nodes
abbrev pub node_options : List Opt
node_options = joiners ∷ shards ∷ batch ∷ []

pub data Command : Type 0 where
  join : Command
  drill : Command
  verify : Command
  bulk : Command
  reshard : Command

abbrev pub name_of : Command → Text
name_of join = codes "join"
name_of drill = codes "drill"
name_of verify = codes "verify"
name_of bulk = codes "bulk"
name_of reshard = codes "reshard"

abbrev pub options_of : Command → List Opt
options_of join = queries ∷ clicks ∷ state ∷ horizon ∷ node_options
options_of drill = queries ∷ clicks ∷ plan ∷ horizon ∷ node_options
options_of verify = clicks ∷ state ∷ []
options_of bulk = seed ∷ count ∷ node_options
options_of reshard = state ∷ add ∷ []

-- ---- plain words

-- a value as it may be written: 1 to 20 digits within the range, or a text that is not empty and does not begin with a hyphen
abbrev pub IsNumber : ℕ → ℕ → Text → Type 0
IsNumber low high t = (0 < length t) × (length t ≤ 20) × AllDigits 10 t × (low ≤ digits_value 10 t) × (digits_value 10 t ≤ high)

abbrev pub IsValueText : Text → Type 0
IsValueText [] = ⊥
IsValueText (b ∷ bs) = b ≢ 45

abbrev pub IsValue : Form → Text → Type 0
IsValue (number low high) t = IsNumber low high t
IsValue any_text t = IsValueText t
IsValue some_text t = IsValueText t

-- a value that may be read: digits, which may have a plus before them, within the range, any text, or one that is not empty
abbrev pub IsReadable : Form → Text → Type 0
IsReadable (number low high) t = IsUnsignedIn low high t
IsReadable any_text t = ⊤
IsReadable some_text t = 0 < length t

-- the option of that name
abbrev pub option_named : Text → List Opt → Option Opt
option_named name options = find (λ o. bytes_eq o.name name) options

-- options with their values, as they stand in the words
abbrev pub Pairs : Type 0
Pairs = List (Text × Text)

abbrev pub pair_words : Pairs → List Text
pair_words [] = []
pair_words (p ∷ ps) = (45 ∷ 45 ∷ p.0) ∷ p.1 ∷ pair_words ps

-- the value that the pairs give the option of that name
abbrev pub given : Pairs → Text → Option Text
given pairs name = option_map (λ p. p.1) (find (λ p. bytes_eq p.0 name) pairs)

-- each pair is an option of the command and its value, each option stands at most once, and each one that is required is there
pub record ArePairsOf (options : List Opt) (pairs : Pairs) : Type 0 where
  pub known : All (λ p. IsSomeAnd (option_named p.0 options) (λ o. IsValue o.form p.1)) pairs
  pub once : IsDistinct bytes_eq (map (λ p. p.0) pairs)
  pub complete : All (λ o. is_required o ≡ true → IsSome (given pairs o.name)) options

-- the words are the program's name, the command's name, and those pairs
pub record IsPlain (words : List Text) (command : Command) (pairs : Pairs) : Type 0 where
  pub form : (program : Text) × (words ≡ program ∷ name_of command ∷ pair_words pairs)
  pub options : ArePairsOf (options_of command) pairs

-- ---- what is asked for

-- Here the texts that an option has, as a text and as a number, are those that text_at and number_at give its name. A number may
-- have a plus before it.
abbrev pub Given : Type 0
Given = Text → Option Text

-- the text of an option: as written, or its default
abbrev pub value_of : Opt → Given → Option Text
value_of o at = option_or (at o.name) o.default

abbrev pub text_of : Opt → Given → Text
text_of o text_at = unwrap_or (value_of o text_at) []

abbrev pub number_of : Opt → Given → ℕ
number_of o number_at = option_map_or (λ t. digits_value 10 (without_leading_plus t)) (value_of o number_at) 0

-- what the nodes of both sites are run for: how many joiners a site has, the text of the table of shards, the most inserts of a batch
pub record NodeValues : Type 0 where
  pub joiners : ℕ
  pub shards : Text
  pub batch : ℕ

-- what both sites are run for: the names of the two logs, and the horizon in microseconds
pub record Values : Type 0 where
  pub queries : Text
  pub clicks : Text
  pub horizon : ℕ
  pub nodes : NodeValues

-- what a bulk run is made from, and run for
pub record BulkValues : Type 0 where
  pub seed : ℕ
  pub count : ℕ
  pub nodes : NodeValues

-- what the words of a command ask for: a join of these values over the state's directory, a drill with the plan of a file, a
-- verification of a click log over the state's directory, a bulk run, a row more for the table that the state's directory keeps
pub data Wish : Type 0 where
  a_join : (v : Values) (state : Text) → Wish
  a_drill : (v : Values) (plan : Text) → Wish
  a_verification : (clicks state : Text) → Wish
  a_bulk_run : (v : BulkValues) → Wish
  a_resharding : (state row : Text) → Wish

abbrev pub command_of : Wish → Command
command_of (a_join v _) = join
command_of (a_drill v _) = drill
command_of (a_verification _ _) = verify
command_of (a_bulk_run v) = bulk
command_of (a_resharding _ row) = reshard

module _ (text_at number_at : Given) where
  abbrev pub nodes_by : NodeValues
  nodes_by = record { joiners = number_of joiners number_at; shards = text_of shards text_at; batch = number_of batch number_at }

  abbrev pub run_by : Values
  run_by = record { queries = text_of queries text_at; clicks = text_of clicks text_at; horizon = number_of horizon number_at; nodes = nodes_by }

  abbrev pub bulk_by : BulkValues
  bulk_by = record { seed = number_of seed number_at; count = number_of count number_at; nodes = nodes_by }

  -- what the options of a command ask for
  abbrev pub wish_by : Command → Wish
  wish_by join = a_join run_by (text_of state text_at)
  wish_by drill = a_drill run_by (text_of plan text_at)
  wish_by verify = a_verification (text_of clicks text_at) (text_of state text_at)
  wish_by bulk = a_bulk_run bulk_by
  wish_by reshard = a_resharding (text_of state text_at) (text_of add text_at)

  -- where an option of this form finds its text
  abbrev pub given_as : Form → Given
  given_as (number low high) = number_at
  given_as any_text = text_at
  given_as some_text = text_at

  -- each of the options has a value, for which P holds
  abbrev pub HaveValues : (P : Form → Text → Type 0) → List Opt → Type 0
  HaveValues P options = AllByRecursion (λ o. IsSomeAnd (value_of o (given_as o.form)) (P o.form)) options

  -- the options of the wish's command ask for it, and each one that has to be there is there
  abbrev pub AskFor : Wish → Type 0
  AskFor w = (w ≡ wish_by (command_of w)) × HaveValues (λ f t. ⊤) (options_of (command_of w))

-- what the command of that name asks for, with these options
abbrev pub IsNamed : Wish → Text → (text_at number_at : Given) → Type 0
IsNamed w name text_at number_at = (name ≡ name_of (command_of w)) × (w ≡ wish_by text_at number_at (command_of w))

-- the command of that name, with these options, asks for this
abbrev pub IsFound : Wish → Text → (text_at number_at : Given) → Type 0
IsFound w name text_at number_at = (name ≡ name_of (command_of w)) × AskFor text_at number_at w

abbrev pub nodes_in : NodeOptions → NodeValues
nodes_in o = record { joiners = o.joiners; shards = o.shards.now; batch = o.batch }

abbrev pub values_in : RunOptions → Values
values_in o = record { queries = o.queries.now; clicks = o.clicks.now; horizon = o.horizon; nodes = nodes_in o.nodes }

abbrev pub bulk_values : BulkOptions → BulkValues
bulk_values o = record { seed = o.seed; count = o.clicks; nodes = nodes_in o.nodes }

-- what the words were read as
abbrev pub wish_of : Asked → Wish
wish_of (Join run state) = a_join (values_in run) state.now
wish_of (Drill run plan) = a_drill (values_in run) plan.now
wish_of (Verify clicks state) = a_verification clicks.now state.now
wish_of (Bulk run) = a_bulk_run (bulk_values run)
wish_of (Reshard state add) = a_resharding state.now add.now

-- the values lie in the ranges of their options
pub record AreInRanges (v : NodeValues) : Type 0 where
  pub some : 0 < v.joiners
  pub few : v.joiners ≤ 4
  pub shards : 0 < length v.shards
  pub least : 0 < v.batch
  pub batch : v.batch ≤ 64

pub record AreBulkRanges (v : BulkValues) : Type 0 where
  pub count : v.count ≤ MOST_CLICKS
  pub nodes : AreInRanges v.nodes

abbrev pub IsInRanges : Wish → Type 0
IsInRanges (a_join v _) = AreInRanges v.nodes
IsInRanges (a_drill v _) = AreInRanges v.nodes
IsInRanges (a_verification _ _) = ⊤
IsInRanges (a_bulk_run v) = AreBulkRanges v
IsInRanges (a_resharding _ row) = ⊤

-- memory ran out, or the error has one of the kinds
abbrev pub IsRefusedBy : Kinds → WordsFault → Type 0
IsRefusedBy kinds Memory = ⊤
IsRefusedBy kinds (Refused error) = IsAmong (kind_of error) kinds

-- the fault of a parse that gave this error
abbrev pub IsFaultOf : Error → WordsFault → Type 0
IsFaultOf error Memory = kind_of error ≡ OutOfMemory
IsFaultOf error (Refused e) = (e ≡ error) × (kind_of error ≢ OutOfMemory)
