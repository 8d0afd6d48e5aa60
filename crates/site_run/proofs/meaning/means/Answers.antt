use Rattle.site_run.proofs.Words.{Rose}
use Rattle.site_run.proofs.Joining.{Laws, joins, afresh, joins_by_stops, ran}
use Rattle.site_run.proofs.meaning.means.Given as given
use Rattle.site_run.proofs.meaning.means.Goals as goal

laws : (g : given.Over) (c : goal.After-verification g) → Laws
laws g c = record {
  one_topology = c.once.ensures.topology;
  one_records = c.once.ensures.records;
  empty = c.whole_stores.ensures.empty;
  runs = c.stores.ensures.runs;
  rest = c.every_run.ensures.rest;
  clicks = c.exact_report.ensures.clicks;
  report = c.exact_report.ensures.report;
  missing = c.headline.ensures.missing;
  tells = c.verification.ensures.report;
}

pub returns-clause-joins : goal.returns-clause-joins
returns-clause-joins g c h before after hist js lines = joins (laws g c) h (g.S.Store.image before) (g.S.Store.image after) hist (Rose (g.S.Store.faults before) (g.S.Store.faults after)) js lines

pub returns-clause-afresh : goal.returns-clause-afresh
returns-clause-afresh g c h before after hist js lines = afresh (laws g c) h (g.S.Store.image before) (g.S.Store.image after) hist (Rose (g.S.Store.faults before) (g.S.Store.faults after)) js lines

pub returns-clause-by_stops : goal.returns-clause-by_stops
returns-clause-by_stops g c h before after hist js lines = joins_by_stops (laws g c) c.none_stops.ensures h (g.S.Store.image before) (g.S.Store.image after) hist (Rose (g.S.Store.faults before) (g.S.Store.faults after)) js lines

pub returns-clause-ran : goal.returns-clause-ran
returns-clause-ran g c h before after hist js lines = ran (laws g c) c.none_stops.ensures h (g.S.Store.image before) (g.S.Store.image after) hist (Rose (g.S.Store.faults before) (g.S.Store.faults after)) js lines
