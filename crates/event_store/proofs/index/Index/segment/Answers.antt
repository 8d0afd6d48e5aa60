use Rattle.std.proofs.Common.{◌∙◌, sym}
use Rattle.event_store.proofs.Words.{IfSome_then}
use Rattle.event_store.proofs.Segments.{segment_some}
use Rattle.event_store.proofs.index.Index.segment.Goals as goal

pub returns-clause-some : goal.returns-clause-some
returns-clause-some c = λ marks place keeps falls.
    let lo = c.in_ok-start.ensures.some in
    segment_some marks place c.args.id c.in_ok-start.start c.ceiling.result falls (lo.0, lo.1, lo.2, sym (keeps.entries lo.0) ∙ lo.3) (IfSome_then c.ceiling.result c.ceiling.ensures (λ e h. (h.0, h.1, h.2, sym (keeps.entries h.0) ∙ h.3)))
