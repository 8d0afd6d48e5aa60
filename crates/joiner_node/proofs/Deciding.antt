-- What a joiner is given, as the core takes it, and what the core answers.
use Rattle.std.proofs.Common.{◌≡◌, ℕ, List, [], true, Some, None, arith, IfOk, IfSome, Option, Result, option_map}
use Rattle.joiner_node.proofs.Words.{Answers, Carries, Deliver, HasRead, Input, IsFirst, IsReady, IsSame, JoinerCore, JoinerInput, JoinerKept, JoinerLive, Joining, Knows, KnowsBy, MayRaise, Numbered, Own, Queries, Serves, Setting, Stands, StandsFor, Start, Tells, Tick, Turn, joiner_rows, land_joiner, numbered, row, takes_note, Query, needs_look_up, note_of, GoesOn, ServesAs}
use Rattle.log_records.specs.declared.records.ClickRec.{ClickRec as Click}
use Rattle.outside.specs.declared.log.LogFile as log
use Rattle.turn_defs.specs.Turns.{Note, land}
use Rattle.site_node.specs.Deciding.{IsTurn}
use Rattle.site_node.specs.States.{Fits, row_of}
use Rattle.joiner_core.specs.declared.input.Looked.{Looked}
use Rattle.joiner_node.specs.declared.held.HeldEpoch.{HeldEpoch}

-- what the log says of the query
tells_of : (g : Setting) (c : Click) (looked : Looked) → IsFirst g.queries c.query looked → Tells g c looked
tells_of g c h is = grind arith

pub told : {E : Type 0} (r : Result Looked E) (has_read : List Query → Type 0) (c : Click) (core : JoinerCore) → ((qs : List Query) → has_read qs → IfOk r (IsFirst qs c.query))
    → IfOk r (λ looked. (g : Setting) (n : ℕ) (k : JoinerKept) (l : JoinerLive) → has_read g.queries → Stands core g n k l → needs_look_up l c.id ≡ true → Tells g c looked)
told h has_read c core first = grind arith

up_by : (down : Option HeldEpoch) (core : JoinerCore) (g : Setting) (k : Numbered JoinerKept) (l : JoinerLive) → KnowsBy down core g k (Some l) → Stands core g k.number k.disk l
up_by h core g k l knows = grind arith

module _ (core : JoinerCore) (g : Setting) (k : Numbered JoinerKept) where
  -- the core takes what is asked
  ready_of : (l : JoinerLive) (a : JoinerInput) (i : Input) → Serves core g k.number → StandsFor core g k.number k.disk l i → Carries g k.disk l a i → IsReady core g k.number k.disk l a
  ready_of l h i serves stands carries = grind arith

  -- a joiner that is down, and knows nothing
  abbrev none_known : JoinerLive
  none_known = record { number = 0; flight = [] }

  -- what the core answers is the row
  decided : (down : Option HeldEpoch) (live : Option JoinerLive) (i : Input) (a : JoinerInput) (new : JoinerCore) (t : Turn) → Serves core g k.number → KnowsBy down core g k live → Fits live i → ((l : JoinerLive) → StandsFor core g k.number k.disk l i → Carries g k.disk l a i)
      → ((l : JoinerLive) → IsReady core g k.number k.disk l a → Carries g k.disk l a i → Answers new g k.number k.disk (row g k.number k.disk l i) t) → Answers new g k.number k.disk (row_of (numbered joiner_rows) g k live i) t
  decided down None Start a new t serves knows fits carries answers = let is = carries none_known tt in answers none_known (ready_of none_known a Start serves tt is) is
  decided down (Some l) Own a new t serves knows fits carries answers = let stands = up_by down core g k l knows in let is = carries l stands in answers l (ready_of l a Own serves stands is) is
  decided down (Some l) Tick a new t serves knows fits carries answers = let stands = up_by down core g k l knows in let is = carries l stands in answers l (ready_of l a Tick serves stands is) is
  decided down (Some l) (Deliver from p) a new t serves knows fits carries answers = let stands = up_by down core g k l knows in let is = carries l stands in answers l (ready_of l a (Deliver from p) serves stands is) is
  decided down _ _ a new t serves knows fits carries answers = absurd fits

-- the row's note can come next
row_taken : (g : Setting) (k : Numbered JoinerKept) (live : Option JoinerLive) (i : Input) → Fits live i → MayRaise k.disk.epoch i → IfSome (row_of (numbered joiner_rows) g k live i).note (λ n. takes_note k.disk.epoch n ≡ true)
row_taken g k h i fits low = grind arith

landed : (o : Option Note) (k : Numbered JoinerKept) → record { number = k.number; disk = land land_joiner o k.disk } ≡ land (numbered joiner_rows).lands o k
landed h k = grind arith

module _ {L : Type 0} {d : log.Ghosts L} where
  -- what a joiner that is up knows
  pub up_stands : (v : Joining L d) (g : Setting) (k : Numbered JoinerKept) (l : JoinerLive) → Knows v g k (Some l) → Stands v.core g k.number k.disk l
  up_stands v g k l knows = up_by v.down v.core g k l knows.by

  -- a decided turn is the row's
  pub turned : (v : Joining L d) (core : JoinerCore) (queries : Queries L d) (g : Setting) (k : Numbered JoinerKept) (live : Option JoinerLive) (i : Input) (a : JoinerInput) (t : Turn) (epoch : ℕ) → Knows v g k live → Fits live i → epoch ≡ k.disk.epoch → MayRaise epoch i → IsSame v.core core → HasRead queries g.queries
      → ((l : JoinerLive) → StandsFor v.core g k.number k.disk l i → Carries g k.disk l a i) → ((l : JoinerLive) → IsReady v.core g k.number k.disk l a → Carries g k.disk l a i → Answers core g k.number k.disk (row g k.number k.disk l i) t)
      → IsTurn (numbered joiner_rows).lands (λ x n. takes_note x.disk.epoch n) (ServesAs (record { core = core; queries = queries; down = v.down }) g) (GoesOn (record { core = core; queries = queries; down = v.down }) t.change g) g k (row_of (numbered joiner_rows) g k live i) (option_map note_of t.note) t.packets.items
  turned v core queries g k live i a t epoch knows fits is low same has carries answers =
      let out = row_of (numbered joiner_rows) g k live i in
      let row = decided v.core g k v.down live i a core t knows.serves.core knows.by fits carries answers in
      grind arith
