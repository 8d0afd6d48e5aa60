use Rattle.std.proofs.Common.{◌≡◌, ◌∙◌, ℕ, List, Option, Some, IfSome, sym, ap, subst}
use Rattle.lru.specs.LruCache.{LruCache}
use Rattle.event_store.specs.declared.recent.Recent.{Recent}
use Rattle.event_store.proofs.Words.{EventId, Query, ReadsNext, IsCache, found}
use Rattle.event_store.proofs.Firsts.{first_at, kept_ahead, found_beyond}
use Rattle.event_store.proofs.search.look.Goals as goal
use Rattle.event_store.proofs.search.look.Goals.{then-is_behind+in_ok-read_ahead, else-is_behind}

pub returns-in-Some-clause-found : goal.returns-in-Some-clause-found
returns-in-Some-clause-found g c = λ t lines marks knows cache. sym (rw c.in-Some.is at (c.in_ok-query.ensures.hit lines cache))

pub returns-in_err-read_ahead-clause-cached : goal.returns-in_err-read_ahead-clause-cached
returns-in_err-read_ahead-clause-cached g c = λ t lines marks knows cache.
    kept_ahead (g.L.LogFile.bytes c.args.tail.now.log) c.args.place c.args.index.now lines marks knows c.args.id (g.L.LogFile.bytes c.record_at.new.tail.log) c.in-Some-2.start c.recall.new.self.records.entries c.read_ahead.new.recent.records.entries (sym (c.in_ok-start.ensures.found t lines marks knows) ∙ c.in-Some-2.is) (c.in_ok-found.ensures.same t ∙ c.in_ok-start.ensures.same t) (c.read_ahead.ensures.cached t) (c.in_ok-query.ensures.kept lines cache)

pub returns-clause-found : goal.returns-clause-found
returns-clause-found g c = λ t lines marks knows cache.
    let log : List ℕ = g.L.LogFile.bytes c.args.tail.now.log in
    let s : ℕ = c.in-Some-2.start in
    let first = first_at log c.args.place c.args.index.now lines marks knows c.args.id s (sym (c.in_ok-start.ensures.found t lines marks knows) ∙ c.in-Some-2.is) in
    c.in_ok-found.ensures.line t first.0.3.0 (Some first.0.3.1) (subst (λ (l : List ℕ). ReadsNext l s first.0.3.0 (Some first.0.3.1)) (sym (c.in_ok-start.ensures.same t)) first.0.3.2) ∙ sym (found_beyond log c.args.id s c.args.place lines first.0 knows.walk first.1)

pub returns-clause-cached : goal.returns-clause-cached
returns-clause-cached g c = λ t lines marks knows cache.
    let log : List ℕ = g.L.LogFile.bytes c.args.tail.now.log in
    let s : ℕ = c.in-Some-2.start in
    let at = sym (c.in_ok-start.ensures.found t lines marks knows) ∙ c.in-Some-2.is in
    let first = first_at log c.args.place c.args.index.now lines marks knows c.args.id s at in
    let q : Query = first.0.3.1 in
    let reads : c.in_ok-found.found ≡ Some q = c.in_ok-found.ensures.line t first.0.3.0 (Some q) (subst (λ (l : List ℕ). ReadsNext l s first.0.3.0 (Some q)) (sym (c.in_ok-start.ensures.same t)) first.0.3.2) in
    let own : found lines q.id ≡ Some q = ap (λ (i : EventId). found lines i) first.0.3.3 ∙ found_beyond log c.args.id s c.args.place lines first.0 knows.walk first.1 in
    let kept = c.in_ok-query.ensures.kept lines cache in
    let now : IsCache c.if-is_behind.recent.records.entries lines = elim c.if-is_behind.branch [
      | then-is_behind+in_ok-read_ahead w ↦
          subst (λ (r : Recent). IsCache r.records.entries lines) (sym w.recent-is) (kept_ahead log c.args.place c.args.index.now lines marks knows c.args.id (g.L.LogFile.bytes c.record_at.new.tail.log) s c.recall.new.self.records.entries w.read_ahead.new.recent.records.entries at (c.in_ok-found.ensures.same t ∙ c.in_ok-start.ensures.same t) (w.read_ahead.ensures.cached t) kept)
      | else-is_behind w ↦
          subst (λ (r : Recent). IsCache r.records.entries lines) (sym w.recent-is) (w.hold.ensures.kept lines kept (subst (λ (o : Option Query). IfSome o (λ r. found lines r.id ≡ Some r)) (sym reads) own))
    ] in
    subst (λ (r : LruCache EventId Query). IsCache r.entries lines) (sym c.reach.ensures) now
