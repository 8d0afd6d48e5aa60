-- Where no joiner's entries have a stop, the run has none.
use Rattle.std.proofs.Common.{◌≡◌, ℕ, Bool, true, ◌||◌, List, [], ◌∷◌, refl, sym, ap, ◌∙◌, eq-eqb, arith, if◌then◌else◌}
use Rattle.site_run.proofs.Words.{list_any, BusEntry, is_of, Joiner, Setting, NumbersAreNodes, NoJoinerStops, AllMean, made_by, is_stop, NoJoinerStopped, NoneStops, RunEntry, RunStop, Begin, End, Stop}

module _ (j : ℕ) (e : BusEntry) (h : List BusEntry) where
  -- j's entries with this one, if it is j's
  abbrev with_it : Bool → List BusEntry
  with_it b = if b then e ∷ made_by j h else made_by j h

  stops_more : list_any is_stop (made_by j h) ≡ true → list_any is_stop (made_by j (e ∷ h)) ≡ true
  stops_more some = grind arith

  stops_here : is_of j e ≡ true → is_stop e ≡ true → list_any is_stop (made_by j (e ∷ h)) ≡ true
  stops_here own stop = ap (λ b. list_any is_stop (with_it b)) own ∙ ap (λ b. b || list_any is_stop (made_by j h)) stop

module _ (g : Setting) (numbers : NumbersAreNodes g) where
  none_later : (e : BusEntry) (h : List BusEntry) → NoJoinerStopped g (e ∷ h) → NoJoinerStopped g h
  none_later e h none j is stops = none j is (stops_more j e h stops)

  none_on : (h : List BusEntry) (es : List RunEntry) → AllMean g h es → NoJoinerStopped g h → NoJoinerStops es
  none_on [] [] means none = tt
  none_on [] (x ∷ es) means none = absurd means
  none_on (e ∷ h) [] means none = absurd means
  none_on (Begin m b ∷ h) (RunStop (Joiner j) landed ∷ es) means none = absurd means.0
  none_on (End m noted sent fits ∷ h) (RunStop (Joiner j) landed ∷ es) means none = absurd means.0
  none_on (Stop m noted ∷ h) (RunStop (Joiner j) landed ∷ es) means none =
      let back = numbers.back m (Joiner j) means.0.0 in
      none j back.1 (stops_here j (Stop m noted) h (eq-eqb m j (sym back.0)) refl)
  none_on (e ∷ h) (_ ∷ es) means none = none_on h es means.1 (none_later e h none)

pub none_stop : ((g : Setting) → NumbersAreNodes g) → NoneStops
none_stop numbers g d h at es is none = none_on g (numbers g) h es is.means none
