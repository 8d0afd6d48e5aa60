use Rattle.std.proofs.Common.{ap, ◌∙◌}
use Rattle.log_records.specs.FirstPlaces.{seen_of}
use Rattle.log_records.proofs.FirstPlaces.{keeps_push}
use Rattle.log_records.proofs.stream.LogCheck.see.Goals as goal

pub returns-in-Ok-clause-ok : goal.returns-in-Ok-clause-ok
returns-in-Ok-clause-ok g c =
    let found = c.in_ok-id.ensures.found in (
      found.0,
      found.1,
      found.2,
      found.3,
      λ rs keeps at. (
        c.in-Ok.ensures.seen ∙ ap seen_of (keeps.each c.in_ok-id.id),
        keeps_push g.R.Record.spelled g.R.Record.own_id c.args.self.now.places c.keep.new.places rs found.0 c.in_ok-id.id c.args.place found.3 at c.in-Ok.ensures.kept c.in-Ok.ensures.others keeps,
      ),
    )
