-- The rule of the table. Word 0 is the turn, word 1 the length of the history, and the slot has the Air while nobody has the turn.
use Rattle.std.specs.Prelude.{◌≡◌, ◌⊎◌, ℕ, ◌<◌, ◌≤◌, true, false, List, [], length, sum_by, slice_index, All, IfSome, IsSome}
use mathlib.Core.Option.{some}
use mathlib.Core.List.{IsPrefix}
use lib.ListN.{get_elem?}
use Rattle.atomic_table.specs.Table.{State}
use Rattle.air_bus.specs.declared.entry.Entry.{Entry}
use Rattle.air_bus.specs.History.{Flight}
use Rattle.bus_seat.specs.declared.view.View.{View}
use Rattle.bus_seat.specs.declared.view.Ended.{Ended}
use Rattle.bus_seat.specs.Views.{flown, made_by, told, named, turn_of, gives_of}

-- what is told of a number: the history begins with what its seat had seen, and has of it just the entries that it made
abbrev pub IsTold : List Entry → Ended → Type 0
IsTold log e = IsPrefix e.seen log × (made_by e.number log ≡ e.mine)

-- what one view says of the history, and of the next number to give
pub record Fits (base : Flight) (next : ℕ) (log : List Entry) (v : View) : Type 0 where
  pub based : v.spent ≡ false → v.base ≡ base
  pub saw : IsPrefix v.seen log
  pub tells : All (IsTold log) (told v)
  pub gives : IfSome v.next (λ k. k ≡ next)
  pub whole : v.turn ≡ true → (v.seen ≡ log) × (v.spent ≡ false)
  pub may : v.turn ≡ true → IsSome v.number ⊎ IsSome v.next

pub record Orderly (base : Flight) (s : State Flight View) : Type 0 where
  pub log : List Entry
  pub next : ℕ
  pub three_words : length s.words ≡ 3
  pub one_slot : length s.homes ≡ 1
  pub counted : slice_index s.words 1 ≡ length log
  pub turns : sum_by turn_of s.views ≡ slice_index s.words 0
  pub one_turn : slice_index s.words 0 < 2
  pub home : slice_index s.words 0 ≡ 0 → get_elem? s.homes 0 ≡ some (some (flown base log))
  pub each_view : (j : ℕ) (v : View) → get_elem? s.views j ≡ some v → Fits base next log v
  pub once : (n : ℕ) → n < next → sum_by (λ v. named n (told v)) s.views ≡ 1
  pub never : (n : ℕ) → next ≤ n → sum_by (λ v. named n (told v)) s.views ≡ 0
  pub one_giver : sum_by gives_of s.views ≤ 1
  pub fresh : (n : ℕ) → next ≤ n → made_by n log ≡ []
