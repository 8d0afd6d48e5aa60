-- What `begin` did, from its steps.
use Rattle.std.proofs.Common.{◌≡◌, ℕ, Bool, List, [], ◌∷◌, ◌++◌, length, drop, Some, None, Option, Result, MatchOption, IfOk, sym, ap, ◌∙◌, append-nil, arith}
use lib.Seq.{drop-append_seam}
use Rattle.std.proofs.lemmas.List.{drop_all}
use Rattle.bus_seat.proofs.Words.{Begins, Entry, Sat, Took, View, caught_up, holding, next_for, next_input, off, phase, sight}
use Rattle.atomic_table.specs.Seated.{TableId}
use Rattle.air_bus.specs.declared.entry.Entry.TheVariants.{Begin}
use Rattle.air_bus.specs.declared.entry.Input.{Input}
use Rattle.bus_seat.proofs.Moves.{took_phase}

drop_nothing : (xs : List Entry) → drop (length xs) xs ≡ []
drop_nothing xs = drop_all (length xs) xs (Rattle.std.proofs.Common.le_refl (length xs))

-- with the turn, the seat has seen v.seen ++ since
begins_on : (a b : TableId) (v : View) (since hand : List Entry) (n : ℕ) (wants tick : Bool) (input : Option Input) → phase n (v.seen ++ since) ≡ phase n v.mine
    → input ≡ next_input (phase n (v.seen ++ since)) (next_for v.base n (v.seen ++ since)) tick wants → MatchOption input (hand ≡ v.seen ++ since) (λ i. hand ≡ (v.seen ++ since) ++ Begin n i ∷ [])
    → Begins n wants tick (sight a v) input (sight b (off (caught_up (holding v (v.seen ++ since)).0 hand)))
begins_on a b v since hand n wants tick None stands answer is =
    let all : List Entry = v.seen ++ since in (
      ((since, sym is), ap (λ (l : List Entry). v.mine ++ drop (length all) l) is ∙ ap (λ l. v.mine ++ l) (drop_nothing all) ∙ append-nil v.mine),
      ap (λ l. next_input (phase n v.mine) (next_for v.base n l) tick wants) is ∙ ap (λ p. next_input p (next_for v.base n all) tick wants) (sym stands) ∙ sym answer,
    )
begins_on a b v since hand n wants tick (Some i) stands answer is =
    let all : List Entry = v.seen ++ since in (
      since,
      is,
      ap (λ (l : List Entry). v.mine ++ drop (length all) l) is ∙ ap (λ l. v.mine ++ l) (drop-append_seam all (Begin n i ∷ [])),
      ap (λ p. next_input p (next_for v.base n all) tick wants) (sym stands) ∙ sym answer,
    )

pub begun : {E : Type 0} (a b : TableId) (m m' : Sat) (w : View) (hand : List Entry) (n : ℕ) (wants tick : Bool) (r : Result (Option Input) E) → Took m m' → m.0.number ≡ Some n → w ≡ off (caught_up m'.0 hand)
    → IfOk r (λ input. input ≡ next_input (phase n m'.0.seen) (next_for m'.0.base n m'.0.seen) tick wants) → IfOk r (λ input. MatchOption input (hand ≡ m'.0.seen) (λ i. hand ≡ m'.0.seen ++ Begin n i ∷ []))
    → IfOk r (λ input. Begins n wants tick (sight a m.0) input (sight b w))
begun a b m m' w hand n wants tick h t num is answer some = grind (arith, took_phase, begins_on)
