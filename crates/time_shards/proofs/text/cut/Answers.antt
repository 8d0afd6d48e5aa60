use Rattle.std.proofs.Common.{◌≡◌, ◌∙◌, sym, subst, inl, inr}
use Rattle.list_words.specs.Bytes.{Lacks}
use Rattle.list_words.proofs.Splits.{lacks_none}
use Rattle.time_shards.specs.Text.{comma, row_text}
use Rattle.time_shards.proofs.Texts.{row_lacks}
use Rattle.time_shards.proofs.text.cut.Goals as goal

pub returns-in-Some-clause-first : goal.returns-in-Some-clause-first
returns-in-Some-clause-first c row is h =
    elim h as (λ _. c.in-Some.front.now ≡ row_text row) [
      | inl e ↦ absurd (lacks_none comma c.in-Some.front.now c.in-Some.behind.now (subst (Lacks comma) (sym e ∙ c.in-Some.ensures.found) (row_lacks row is)))
      | inr more ↦ (c.in-Some.ensures.only (row_text row) more.0 (row_lacks row is) more.1).0
    ]

pub returns-in-None-clause-first : goal.returns-in-None-clause-first
returns-in-None-clause-first c row is h =
    elim h as (λ _. c.args.text.now ≡ row_text row) [
      | inl e ↦ e
      | inr more ↦ absurd (c.in-None.ensures.only (row_text row) more.0 (row_lacks row is) more.1)
    ]
