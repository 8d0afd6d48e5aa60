-- One turn of the loop that reads the records of a kind.
use Rattle.std.proofs.Common.{◌≡◌, ℕ, ◌+◌, List, [], ◌∷◌, ◌++◌, length, sym, ◌∙◌, ap, arith, append_assoc, Ok}
use Rattle.gate_journal.specs.Gate.{spans}
use Rattle.gate_journal.proofs.Rule.{spans-append}
use Rattle.gate_journal.specs.Records.{Read}

module _ {V : Type 0} (keeps : V → Read → Type 0) where
  -- so far the value keeps what stands before what is left
  pub record Next (all left : List (List ℕ)) (value : V) (place : ℕ) : Type 0 where
    pub before : List (List ℕ)
    pub parts : before ++ left ≡ all
    pub so_far : keeps value (Ok before)
    pub place_is : place ≡ 1 + spans before
    pub room : place + spans left ≡ 1 + spans all

  pub taken : (all left rest : List (List ℕ)) (old new : V) (place : ℕ) (payload : List ℕ) → Next all left old place → left ≡ payload ∷ rest
      → ((ps : List (List ℕ)) → keeps old (Ok ps) → keeps new (Ok (ps ++ payload ∷ []))) → Next all rest new (place + (5 + length payload))
  taken all left rest old new place payload so is next = record {
    before = so.before ++ payload ∷ [];
    parts = append_assoc so.before (payload ∷ []) rest ∙ ap (λ (l : List (List ℕ)). so.before ++ l) (sym is) ∙ so.parts;
    so_far = next so.before so.so_far;
    place_is = omega (arith, so.place_is, spans-append so.before (payload ∷ []));
    room = omega (arith, so.room, ap spans is);
  }
