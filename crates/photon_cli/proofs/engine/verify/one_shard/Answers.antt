use Rattle.std.proofs.Common.{◌≡◌, [], ◌∷◌, Result, Ok, Err, refl, sym, ◌∙◌, subst, arith, lit<, IfErr}
use Rattle.photon_cli.proofs.Words.{IsTable}
use Rattle.std.specs.Fmt.{digits}
use Rattle.time_shards.specs.Text.{row_text}
use Rattle.photon_cli.proofs.engine.verify.one_shard.Goals as goal

is_table : IsTable (record { start = 0; count = 1 } ∷ [])
is_table = record { some = omega arith; begins = record { few = omega arith; zero = refl; rising = tt; each = (record { start = lit< tt; some = omega arith; few = omega arith }, tt) } }

not_both : {T E : Type 0} (r : Result T E) (t : T) (e : E) → r ≡ Ok t → r ≡ Err e → ⊥
not_both r t e ok err = subst (λ s. IfErr s (λ _. ⊥)) (sym ok ∙ err) tt

pub unreachable-requires : goal.unreachable-requires
unfolding row_text digits
unreachable-requires c = not_both c.read.result _ _ (c.read.ensures.only (record { start = 0; count = 1 } ∷ []) is_table refl) c.in-Err.is
