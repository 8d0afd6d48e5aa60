use Rattle.std.proofs.Common.{rules}
use Rattle.verify_pass.proofs.Words.{answers_always, id_of}
use Rattle.verify_pass.proofs.lines.find.Goals as goal

pub returns-clause-place : goal.returns-clause-place
returns-clause-place c = c.binary_search_by_key.ensures.position (λ b. id_of b.value) (answers_always _ _ _ (λ f a r g called. search rules))
