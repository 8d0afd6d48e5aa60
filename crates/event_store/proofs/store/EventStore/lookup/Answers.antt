use Rattle.std.proofs.Common.{◌∙◌, ℕ, List, Some, sym, ap, subst}
use Rattle.event_store.proofs.Words.{Knows}
use Rattle.event_store.proofs.Firsts.{absent}
use Rattle.event_store.proofs.Holding.{held_at_hand, held_tells, found_prop, not_yet_prop}
use Rattle.event_store.proofs.store.EventStore.lookup.Goals as goal

pub returns-then-is_next-clause-found : goal.returns-then-is_next-clause-found
returns-then-is_next-clause-found g c = λ t lines walk.
    let log : List ℕ = g.L.LogFile.bytes c.args.self.now.tail.log in
    held_tells log c.args.self.now.tail.place c.args.self.now.read c.args.self.now.index c.args.self.now.recent.records.entries (not_yet_prop lines c.args.id c.args.self.now.read) c.args.self.now.held t lines walk (λ marks knows counts cache. (absent log c.args.self.now.tail.place c.args.self.now.index lines marks knows c.args.id (c.is_next.ensures.none marks knows.keeps c.if-is_next.true), counts))

pub returns-in-Some-clause-found : goal.returns-in-Some-clause-found
returns-in-Some-clause-found g c = λ t lines walk.
    let log : List ℕ = g.L.LogFile.bytes c.args.self.now.tail.log in
    held_tells log c.args.self.now.tail.place c.args.self.now.read c.args.self.now.index c.args.self.now.recent.records.entries (found_prop lines c.args.id (Some c.in-Some.query)) c.args.self.now.held t lines walk (λ marks knows counts cache. sym (c.in_ok-query.ensures.found t lines marks (subst (λ (p : ℕ). Knows log p c.args.self.now.index lines marks) (sym c.place-place.ensures) knows) cache) ∙ c.in-Some.is)

pub returns-in-None-clause-found : goal.returns-in-None-clause-found
returns-in-None-clause-found g c = λ t lines walk.
    let log : List ℕ = g.L.LogFile.bytes c.args.self.now.tail.log in
    held_tells log c.args.self.now.tail.place c.args.self.now.read c.args.self.now.index c.args.self.now.recent.records.entries (not_yet_prop lines c.args.id c.args.self.now.read) c.args.self.now.held t lines walk (λ marks knows counts cache. (sym (c.in_ok-query.ensures.found t lines marks (subst (λ (p : ℕ). Knows log p c.args.self.now.index lines marks) (sym c.place-place.ensures) knows) cache) ∙ c.in-None.is, counts))

pub invariant_of-self : goal.invariant_of-self
invariant_of-self g c =
    let log : List ℕ = g.L.LogFile.bytes c.args.self.now.tail.log in record {
      small = c.args.self.now.small;
      held = held_at_hand log (g.L.LogFile.bytes c.seek.new.self.log) c.args.self.now.tail.place c.seek.new.self.place c.args.self.now.read c.args.self.now.index c.args.self.now.recent.records.entries c.look-found.new.recent.records.entries c.args.self.now.held (λ t. ap g.L.LogFile.bytes c.seek.ensures.log ∙ c.look-found.ensures.same t) (c.seek.ensures.place ∙ c.place-place.ensures) (λ t lines marks knows cache. c.look-found.ensures.cached t lines marks (subst (λ (p : ℕ). Knows log p c.args.self.now.index lines marks) (sym c.place-place.ensures) knows) cache);
    }
