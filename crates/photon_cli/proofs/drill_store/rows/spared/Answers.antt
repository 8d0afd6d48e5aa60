use Rattle.std.proofs.Common.{◌≡◌, ℕ, zero, suc, [], ◌∷◌, refl, subst, arith}
use Rattle.photon_cli.proofs.Words.{AllInAll, DiskName, StopsAtMost}
use Rattle.photon_cli.proofs.Drilling.{none_spares}
use Rattle.photon_cli.specs.Rows.{one_joiner, two_stops}
use Rattle.outside.specs.declared.store.DiskName.TheVariants as name
use Rattle.turn_defs.specs.declared.node.Node.TheVariants.{Joiner}
use Rattle.photon_cli.proofs.drill_store.rows.spared.Goals as goal

-- of two disks with a stop each one has none where both have one at most
not_both : (left : DiskName → ℕ → Type 0) (a b : DiskName) → (left a 0 → ⊥) → (left b 0 → ⊥) → AllInAll left (a ∷ b ∷ []) 1 → ⊥
not_both left a b some more (i, zero, first, rest, is) = let last = rest.3 in let sum = rest.4 in let none : rest.0 ≡ 0 = omega (arith, last, sum) in more (subst (left b) none rest.2)
not_both left a b some more (i, suc j, first, rest, is) = let none : i ≡ 0 = omega (arith, is) in some (subst (left a) none first)

pub returns : goal.returns
returns c = record {
  no_stops = none_spares one_joiner;
  in_the_opening = λ spares. let late = spares.late.0 in absurd (omega (arith, late));
  two_of_a_node = λ spares. not_both (StopsAtMost 1 two_stops) (name.Epoch 1 0) (name.Output 1 0) (λ none. none 3 (omega arith) refl) (λ none. none 9 (omega arith) refl) (spares.few [] (Joiner 8));
}
