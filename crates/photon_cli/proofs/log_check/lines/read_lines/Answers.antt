use Rattle.std.proofs.Common.{◌≡◌, [], refl, ◌∙◌, arith}
use Rattle.photon_cli.specs.declared.log_check.check.CheckFault.TheVariants as fault
use Rattle.photon_cli.specs.declared.log_check.step.Step.TheVariants as step
use Rattle.photon_cli.proofs.CheckedLogs.{starts, few, stepped, one_more_line, refuses_next}
use Rattle.photon_cli.proofs.log_check.lines.read_lines.Goals as goal

pub loop-count-init : goal.loop-count-init
loop-count-init g c =
    record {
      read = λ t. ([], starts g.K.Record.spelled g.K.Record.is_record g.K.Record.own_id c.args.keep (g.L.LogFile.bytes c.args.tail.now.log) c.args.tail.now.place c.new-check.result.places c.new-ids.result.items c.requires c.new-check.ensures c.new-ids.ensures.items);
      same = λ t. refl;
      later = omega arith;
    }

pub loop-count-preserved : goal.loop-count-preserved
loop-count-preserved g c =
    record {
      read = λ t.
          let before = c.loop-count.invariant.read t in
          let came = stepped g.K.Record.spelled g.K.Record.is_record g.K.Record.own_id g.K.Record.whys c.args.keep (g.L.LogFile.bytes c.args.tail.now.log) (g.L.LogFile.bytes c.loop-count.tail.log) c.loop-count.tail.place c.next_step.new.tail.place c.loop-count.check.places c.next_step.new.check.places c.loop-count.count c.loop-count.ids.items before.0 c.in-Ok-Line.field-0 (step.Line c.in-Ok-Line.id) (c.loop-count.invariant.same t) c.in-Ok-Line.field-0-is before.1 (c.in-Ok-Line.ensures.step t) in
          one_more_line g.K.Record.spelled g.K.Record.is_record g.K.Record.own_id g.K.Record.whys c.args.keep (g.L.LogFile.bytes c.args.tail.now.log) c.loop-count.tail.place c.next_step.new.tail.place c.loop-count.check.places c.next_step.new.check.places c.loop-count.count c.loop-count.ids.items c.keep_id.new.ids.items c.in-Ok-Line.id before.0 before.1 came c.in-Ok.ensures;
      same = λ t. c.in-Ok-Line.ensures.same t ∙ c.loop-count.invariant.same t;
      later = omega (arith, c.loop-count.invariant.later, c.in-Ok-Line.ensures.count.later);
    }

pub returns-in-Ok-Wrong-clause-refused : goal.returns-in-Ok-Wrong-clause-refused
returns-in-Ok-Wrong-clause-refused g c = λ t bad e.
    let own : c.wrong.result ≡ fault.Refused bad = cc in
    let before = c.loop-count.invariant.read t in
    let came = stepped g.K.Record.spelled g.K.Record.is_record g.K.Record.own_id g.K.Record.whys c.args.keep (g.L.LogFile.bytes c.args.tail.now.log) (g.L.LogFile.bytes c.loop-count.tail.log) c.loop-count.tail.place c.next_step.new.tail.place c.loop-count.check.places c.next_step.new.check.places c.loop-count.count c.loop-count.ids.items before.0 c.in-Ok-Wrong.field-0 (step.Wrong c.in-Ok-Wrong.why) (c.loop-count.invariant.same t) c.in-Ok-Wrong.field-0-is before.1 (c.in-Ok-Wrong.ensures.step t) in
    refuses_next g.K.Record.spelled g.K.Record.is_record g.K.Record.own_id g.K.Record.whys c.args.keep (g.L.LogFile.bytes c.args.tail.now.log) c.loop-count.tail.place c.loop-count.check.places c.loop-count.count c.loop-count.ids.items before.0 c.in-Ok-Wrong.why bad before.1 came (c.wrong.ensures.refused bad own)

pub returns-clause-refused : goal.returns-clause-refused
returns-clause-refused g c = λ t bad e.
    let before = c.loop-count.invariant.read t in
    let few_lines = few g.K.Record.spelled g.K.Record.is_record g.K.Record.own_id c.args.keep (g.L.LogFile.bytes c.args.tail.now.log) c.loop-count.tail.place c.loop-count.check.places c.loop-count.count c.loop-count.ids.items before.0 before.1 in
    absurd (omega arith)
