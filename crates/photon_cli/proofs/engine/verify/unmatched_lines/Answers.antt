use Rattle.std.proofs.Common.{map, ◌∙◌}
use Rattle.photon_cli.proofs.Words.{IfOk-weaker, ClickRec, distinct, Journals}
use Rattle.photon_cli.proofs.Verifying.{line_none}
use Rattle.photon_cli.proofs.engine.verify.unmatched_lines.Goals as goal

pub returns : goal.returns
returns c =
    let js : Journals = record { notes = c.new.result; pairs = c.new-2.result } in
    let notes = c.new.ensures.items in
    let pairs = c.new-2.ensures.items in
    IfOk-weaker c.classify.result _ _ (λ lines told clicks same. told clicks same ∙ (λ k. map (λ (x : ClickRec). line_none js notes pairs c.one_shard.result x.id k) (distinct clicks))) c.classify.ensures
