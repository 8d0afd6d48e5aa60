use Rattle.std.proofs.Common.{◌∙◌, sym}
use Rattle.event_store.proofs.Firsts.{stray_is}
use Rattle.event_store.proofs.search.find.Goals as goal

pub returns-in-Some-clause-found : goal.returns-in-Some-clause-found
returns-in-Some-clause-found g c = λ t lines marks knows. sym (rw c.in-Some.is at (c.in_ok-start.ensures.found t lines marks knows))

pub returns-in-None-clause-found : goal.returns-in-None-clause-found
returns-in-None-clause-found g c = λ t lines marks knows. c.stray.ensures marks knows.keeps ∙ stray_is marks c.args.id (rw c.in-None.is at (c.in_ok-start.ensures.found t lines marks knows))
