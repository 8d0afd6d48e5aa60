use Rattle.std.proofs.Common.{◌∙◌, sym, ap, Some}
use Rattle.event_store.proofs.Words.{Query}
use Rattle.event_store.proofs.Recents.{recalled, hit_is}
use Rattle.event_store.proofs.recent.Recent.recall.Goals as goal

pub returns-clause-kept : goal.returns-clause-kept
returns-clause-kept c = λ lines cache. recalled c.args.self.now.records c.promote.new.self c.args.id c.promote.ensures.entries lines cache

pub returns-clause-hit : goal.returns-clause-hit
returns-clause-hit c = λ lines cache.
    hit_is c.args.self.now.records.entries c.args.id c.in-Some.kept.now (sym c.in-Some.ensures) lines cache ∙ ap (λ (q : Query). Some q) (sym c.in_ok-query-in-Some.ensures.same)
