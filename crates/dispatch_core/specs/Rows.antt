-- Worked turns of a dispatcher, on a log of one click line that ends at 36.
use Rattle.std.specs.Prelude.{◌≡◌, ℕ, Bool, true, false, List, [], ◌∷◌, Some, None}
use Rattle.log_records.specs.Rows.{one_click}
use Rattle.dispatch_core.specs.Terms.{Packet, Joined, Outcome, Written, Already, TooOld, NoQuery, Busy, Joiner, To, Input, Note, Advance, Park, Settle, Out, idle, DispatcherKept, DispatcherLive, Fresh, join, dispatcher_start, dispatcher_turn, dispatcher_wants, dispatcher_unfinished, dispatcher_at_rest}
use Rattle.turn_defs.specs.declared.node.Input.TheVariants.{Own, Tick, Deliver}
use Rattle.turn_defs.specs.Rows.{worked, token}

-- the offset, and the pending positions
abbrev pub kept : ℕ → List ℕ → DispatcherKept
kept offset pending = record { offset = offset; pending = pending }

-- the one line, done or not
abbrev pub taken : Bool → List Fresh
taken done = (record { position = 0; end_ = 36; click = one_click; done = done }) ∷ []

-- the place, the lines taken, the positions due, those in trial, and whether the log has ended
abbrev pub up : ℕ → List Fresh → List ℕ → List ℕ → Bool → DispatcherLive
up place fresh due trying ended = record { place = place; fresh = fresh; due = due; trying = trying; ended = ended }

-- a turn of site 0
abbrev pub turn : DispatcherKept → DispatcherLive → Input → Out DispatcherLive
turn = dispatcher_turn worked 0

-- the answer to the line's Join
abbrev pub told : Outcome → Input
told o = Deliver (Joiner 7) (Joined 0 o)

abbrev pub noting : Note → DispatcherLive → Out DispatcherLive
noting n l = record { note = Some n; packets = []; live = l }

abbrev pub sending : List (To × Packet) → DispatcherLive → Out DispatcherLive
sending ps l = record { note = None; packets = ps; live = l }

pub record WorkedTurns : Type 0 where
  pub starts : dispatcher_start (kept 0 []) ≡ idle (up 0 [] [] [] false)
  pub starts_with_pending : dispatcher_start (kept 36 (0 ∷ [])) ≡ idle (up 36 [] (0 ∷ []) [] false)
  -- Own, row by row
  pub advances : turn (kept 0 []) (up 36 (taken true) [] [] false) Own ≡ noting (Advance 36) (up 36 [] [] [] false)
  pub advances_first : turn (kept 0 (0 ∷ [])) (up 36 (taken true) (0 ∷ []) [] false) Own ≡ noting (Advance 36) (up 36 [] (0 ∷ []) [] false)
  pub retries : turn (kept 36 (0 ∷ [])) (up 36 [] (0 ∷ []) [] false) Own ≡ sending (join 0 0 one_click ∷ []) (up 36 [] [] (0 ∷ []) false)
  pub takes_pending : turn (kept 0 (0 ∷ [])) (up 0 [] [] [] false) Own ≡ idle (up 36 (taken true) [] [] false)
  pub takes : turn (kept 0 []) (up 0 [] [] [] false) Own ≡ sending (join 0 0 one_click ∷ []) (up 36 (taken false) [] [] false)
  pub finds_the_end : turn (kept 36 []) (up 36 [] [] [] false) Own ≡ idle (up 36 [] [] [] true)
  pub has_nothing_to_do : turn (kept 36 []) (up 36 [] [] [] true) Own ≡ idle (up 36 [] [] [] true)
  -- answers
  pub written : turn (kept 0 []) (up 36 (taken false) [] [] false) (told Written) ≡ idle (up 36 (taken true) [] [] false)
  pub already : turn (kept 0 []) (up 36 (taken false) [] [] false) (told (Already (token 1))) ≡ idle (up 36 (taken true) [] [] false)
  pub too_old : turn (kept 0 []) (up 36 (taken false) [] [] false) (told (TooOld 2001)) ≡ idle (up 36 (taken true) [] [] false)
  pub settles : turn (kept 36 (0 ∷ [])) (up 36 [] [] (0 ∷ []) true) (told Written) ≡ noting (Settle 0) (up 36 [] [] [] true)
  pub parks : turn (kept 0 []) (up 36 (taken false) [] [] false) (told (NoQuery 0)) ≡ noting (Park 0) (up 36 (taken true) [] [] false)
  pub stays_pending : turn (kept 36 (0 ∷ [])) (up 36 [] [] (0 ∷ []) true) (told (NoQuery 0)) ≡ idle (up 36 [] [] [] true)
  pub busy : turn (kept 0 []) (up 36 (taken false) [] [] false) (told Busy) ≡ idle (up 36 (taken false) [] [] false)
  pub done_already : turn (kept 0 []) (up 36 (taken true) [] [] false) (told (NoQuery 0)) ≡ idle (up 36 (taken true) [] [] false)
  pub not_asked : turn (kept 36 (0 ∷ [])) (up 36 [] (0 ∷ []) [] true) (told Written) ≡ idle (up 36 [] (0 ∷ []) [] true)
  -- Tick
  pub sends_again : turn (kept 0 []) (up 36 (taken false) [] [] false) Tick ≡ sending (join 0 0 one_click ∷ []) (up 36 (taken false) [] [] false)
  pub tries_again : turn (kept 36 (0 ∷ [])) (up 36 [] [] (0 ∷ []) true) Tick ≡ sending (join 0 0 one_click ∷ []) (up 36 [] [] (0 ∷ []) true)
  pub done_is_not_sent : turn (kept 0 []) (up 36 (taken true) [] [] false) Tick ≡ idle (up 36 (taken true) [] [] false)
  -- what it has to do
  pub wants_to_read : dispatcher_wants (up 0 [] [] [] false) ≡ true
  pub wants_nothing : dispatcher_wants (up 36 (taken false) [] [] true) ≡ false
  pub unfinished : dispatcher_unfinished (up 36 (taken false) [] [] true) ≡ true
  pub unfinished_trial : dispatcher_unfinished (up 36 [] [] (0 ∷ []) true) ≡ true
  pub finished : dispatcher_unfinished (up 36 (taken true) (0 ∷ []) [] true) ≡ false
  pub at_rest : dispatcher_at_rest (up 36 [] [] [] true) ≡ true
  pub not_at_rest : dispatcher_at_rest (up 36 [] (0 ∷ []) [] true) ≡ false
