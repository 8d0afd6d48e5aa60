-- What a seat knows, and what its steps tell.
use Rattle.std.specs.Prelude.{◌≡◌, ◌≢◌, ℕ, ◌+◌, ◌<◌, ◌^◌, ◌==◌, Bool, true, false, List, [], ◌∷◌, ◌++◌, drop, length, filter, sum_by, Option, Some, None, IfSome, if◌then◌else◌}
use Rattle.atomic_table.specs.Table.{Me, Step}
use Rattle.air_bus.specs.declared.entry.Entry.{Entry}
use Rattle.air_bus.specs.History.{Flight, node_of, is_of}
use Rattle.bus_seat.specs.declared.view.View.{View}
use Rattle.bus_seat.specs.declared.view.Ended.{Ended}

-- how many nodes an Air has
abbrev pub count : Flight → ℕ
count f = length f.kinds

-- the Air with this history
abbrev pub flown : Flight → List Entry → Flight
flown f h = record f { history = h }

abbrev pub nowhere : Flight
nowhere = record { kinds = []; plan = record { rules = []; stops = []; dead = None }; history = [] }

-- the entries of one node, in their order
abbrev pub made_by : ℕ → List Entry → List Entry
made_by n h = filter (is_of n) h

abbrev pub ended : ℕ → List Entry → List Entry → Ended
ended n seen mine = record { number = n; seen = seen; mine = mine }

abbrev pub own : Option ℕ → List Entry → List Entry → List Ended
own None seen mine = []
own (Some n) seen mine = ended n seen mine ∷ []

-- what the view tells of numbers: of its own, and of those of the seats joined into it
abbrev pub told : View → List Ended
told v = own v.number v.seen v.mine ++ v.ended

-- how often the number stands in these
abbrev pub named : ℕ → List Ended → ℕ
named n es = sum_by (λ e. if e.number == n then 1 else 0) es

abbrev pub one_if : Bool → ℕ
one_if true = 1
one_if false = 0

abbrev pub turn_of : View → ℕ
turn_of v = one_if v.turn

abbrev pub some_one : Option ℕ → ℕ
some_one None = 0
some_one (Some n) = 1

-- 1 where the view has a next number to give
abbrev pub gives_of : View → ℕ
gives_of v = some_one v.next

-- the run's seat, once k numbers are given out
abbrev pub runner_at : Flight → ℕ → View
runner_at base k = record { spent = false; base = base; number = None; next = Some k; seen = []; mine = []; turn = false; ended = [] }

abbrev pub runner : Flight → View
runner base = runner_at base 0

abbrev pub blank : View
blank = record { spent = true; base = nowhere; number = None; next = None; seen = []; mine = []; turn = false; ended = [] }

abbrev pub after : Option ℕ → Option ℕ
after None = None
after (Some n) = Some (n + 1)

-- a new seat takes the next number, and the next number rises
abbrev pub dealt : View → View
dealt v = record v { next = after v.next }

abbrev pub newcomer : View → View
newcomer v = record { spent = v.spent; base = v.base; number = v.next; next = None; seen = v.seen; mine = []; turn = false; ended = [] }

-- one view with all that two knew
abbrev pub joined : View → View → View
joined v w = record v { ended = v.ended ++ told w }

abbrev pub Sat : Type 0
Sat = Me Flight View

abbrev pub Play : Type 1
Play = Step Flight → Sat → ℕ → Sat → Type 0

-- the seat with the turn, all of the history seen, and the Air in its hand
abbrev pub holding : View → List Entry → Sat
holding v log = (record v { seen = log; turn = true }, (0, flown v.base log) ∷ [])

-- the seat took the turn: the history is what it had seen and what came since, and its own entries in it are mine
abbrev pub Took : Sat → Sat → Type 0
Took m m' = (since : List Entry) × (m' ≡ holding m.0 (m.0.seen ++ since)) × IfSome m.0.number (λ n. made_by n (m.0.seen ++ since) ≡ m.0.mine)

abbrev pub taken : Play
taken st m r m' = (r ≡ 0 → Took m m') × (r ≢ 0 → m' ≡ m)

-- nothing that a view shows
abbrev pub same : Play
same st m r m' = m' ≡ m

-- the history of the Air in the seat's hand
abbrev pub in_hand : List (ℕ × Flight) → List Entry
in_hand [] = []
in_hand (x ∷ xs) = x.1.history

-- the view has seen the longer history, whose new entries are its own
abbrev pub caught_up : View → List Entry → View
caught_up v log = record v { seen = log; mine = v.mine ++ drop (length v.seen) log }

-- the history has one entry more than was seen, of the view's own number
abbrev pub Grew : View → List Entry → Type 0
Grew v log = (n : ℕ) × (e : Entry) × (v.number ≡ Some n) × (node_of e ≡ n) × (log ≡ v.seen ++ e ∷ []) × (length log < 2 ^ 63)

abbrev pub added : Play
added st m r m' = m' ≡ (caught_up m.0 (in_hand m.1), m.1)

-- the view without the turn
abbrev pub off : View → View
off v = record v { turn = false }

abbrev pub given : Play
given st m r m' = m' ≡ (off m.0, [])
