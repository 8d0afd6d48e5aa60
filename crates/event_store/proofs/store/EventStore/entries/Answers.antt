use Rattle.std.proofs.Common.{◌∙◌, ap}
use Rattle.event_store.proofs.Words.{entries_among, entries_of}
use Rattle.event_store.proofs.Holding.{held_tells, number_prop}
use Rattle.event_store.proofs.store.EventStore.entries.Goals as goal

pub returns : goal.returns
returns g c = record {
  entries = λ t lines walk.
      held_tells (g.L.LogFile.bytes c.args.self.now.tail.log) c.args.self.now.tail.place c.args.self.now.read c.args.self.now.index c.args.self.now.recent.records.entries (number_prop c.len.result (entries_of lines)) c.args.self.now.held t lines walk (λ marks knows counts cache. c.len.ensures marks knows.keeps ∙ ap entries_among knows.ids);
}
