use Rattle.std.proofs.Common.{sym, ◌∙◌, ap, List, ℕ, ◌++◌}
use Rattle.time_shards.specs.Text.{row_text, table_text}
use Rattle.topology_journal.specs.Topologies.{rest_text}
use Rattle.topology_journal.proofs.Spelled.{text_cut}
use Rattle.topology_journal.proofs.tables.text_of.Goals as goal

pub returns : goal.returns
returns c =
    let first = c.in-Some.first.now in
    let rest = c.in-Some.rest.now in
    let begun = c.in_ok-put_text.ensures ∙ ap (λ (l : List ℕ). l ++ row_text first) c.new-text.ensures.items in
    c.in_ok-put_rest.ensures ∙ ap (λ (l : List ℕ). l ++ rest_text rest) begun ∙ sym (text_cut first rest) ∙ ap table_text (sym c.in-Some.ensures.cases.0)
