use Rattle.std.proofs.Common.{◌≡◌, List, ◌++◌, ◌∷◌, [], map, None, sym, ap, subst, ◌∙◌}
use Rattle.joiner_core.proofs.Words.{AllByRecursion, get, same_id, succeeded, nobody, EventId, Waiting, IsHeld}
use Rattle.indexmap.proofs.CallerLemmas.{insert_entry-new}
use Rattle.joiner_core.proofs.Flying.{flight_at, in_flight_lookup, flights_push, held_push}
use Rattle.joiner_core.proofs.flights.Flights.add.Goals as goal

pub returns : goal.returns
returns c =
    let old = c.args.self.now in
    let id = c.args.id in
    let waiting = c.args.waiting in
    let new : get same_id old.waiting id ≡ None = nobody (get same_id old.waiting id) (sym (in_flight_lookup old.waiting.entries id) ∙ c.requires.new) in
    let entries : c.insert.new.self.entries ≡ old.waiting.entries ++ (id, waiting) ∷ [] = succeeded c.insert.result _ (c.insert.ensures.succeeds c.requires.room) c.insert.ensures.entries ∙ insert_entry-new same_id old.waiting id waiting new in
    ap (map flight_at) entries ∙ flights_push old.waiting.entries (id, waiting)

pub invariant_of-self-clause-held : goal.invariant_of-self-clause-held
invariant_of-self-clause-held c =
    let old = c.args.self.now in
    let id = c.args.id in
    let waiting = c.args.waiting in
    let new : get same_id old.waiting id ≡ None = nobody (get same_id old.waiting id) (sym (in_flight_lookup old.waiting.entries id) ∙ c.requires.new) in
    let entries : c.insert.new.self.entries ≡ old.waiting.entries ++ (id, waiting) ∷ [] = succeeded c.insert.result _ (c.insert.ensures.succeeds c.requires.room) c.insert.ensures.entries ∙ insert_entry-new same_id old.waiting id waiting new in
    subst (λ (es : List (EventId × Waiting)). AllByRecursion IsHeld es) (sym entries) (held_push old.waiting.entries (id, waiting) old.held c.requires.held)
