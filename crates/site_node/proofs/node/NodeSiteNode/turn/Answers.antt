use Rattle.std.proofs.Common.{◌≡◌, true, false, rules, refl, sym, ◌∙◌, subst}
use Rattle.site_node.specs.Faults.{was_stopped}
use Rattle.site_node.specs.States.{row, written}
use Rattle.site_node.proofs.Turns.{fits_of, on_err}
use Rattle.site_node.specs.Shell.{both_tell}
use Rattle.site_node.proofs.Turning.{no_doubt, quiet, keeps_quiet, keeps_open, opens_quiet, opens_doubt, idles, ends, meets, junk_unspent, spent_input}
use Rattle.site_node.proofs.node.NodeSiteNode.turn.Goals as goal

-- ---- nothing is decided

pub returns-in_err-read_input-clause-moments : goal.returns-in_err-read_input-clause-moments
returns-in_err-read_input-clause-moments g c tells s t at led left here =
    let told = (both_tell g.C.Core.tells g.R.Records.tells tells).1 in
    let records = c.args.self.now.records in
    let known = quiet g.C.Core g.R.Records _ _ _ _ s (no_doubt g.C.Core g.R.Records _ _ c.requires.up) at in
    keeps_quiet g.C.Core g.R.Records s t c.args.input.now left led.2 ((g.met.R.Records.stays records records s.kept told (g.met.R.Records.still records told) known.0).1 left here)

pub returns-in_err-read_input-clause-grown : goal.returns-in_err-read_input-clause-grown
returns-in_err-read_input-clause-grown g c tells s at =
    let told = (both_tell g.C.Core.tells g.R.Records.tells tells).1 in
    let records = c.args.self.now.records in
    let known = quiet g.C.Core g.R.Records _ _ _ _ s (no_doubt g.C.Core g.R.Records _ _ c.requires.up) at in
    (g.met.R.Records.stays records records s.kept told (g.met.R.Records.still records told) known.0).2

pub returns-in-None-clause-done : goal.returns-in-None-clause-done
returns-in-None-clause-done g c tells s t at led sent le =
    let junk = rw c.in-None.is at (c.in_ok-read_input.ensures.junk s.setting at.setting) in
    idles g.C.Core g.R.Records _ _ _ _ s t 0 c.args.input.now c.new.result sent (no_doubt g.C.Core g.R.Records _ _ c.requires.up) at led junk c.new.ensures le

pub returns-in-None-clause-moments : goal.returns-in-None-clause-moments
returns-in-None-clause-moments g c tells s t at led left here =
    let told = (both_tell g.C.Core.tells g.R.Records.tells tells).1 in
    let records = c.args.self.now.records in
    let known = quiet g.C.Core g.R.Records _ _ _ _ s (no_doubt g.C.Core g.R.Records _ _ c.requires.up) at in
    keeps_quiet g.C.Core g.R.Records s t c.args.input.now left led.2 ((g.met.R.Records.stays records records s.kept told (g.met.R.Records.still records told) known.0).1 left here)

pub returns-in-None-clause-grown : goal.returns-in-None-clause-grown
returns-in-None-clause-grown g c tells s at =
    let told = (both_tell g.C.Core.tells g.R.Records.tells tells).1 in
    let records = c.args.self.now.records in
    let known = quiet g.C.Core g.R.Records _ _ _ _ s (no_doubt g.C.Core g.R.Records _ _ c.requires.up) at in
    (g.met.R.Records.stays records records s.kept told (g.met.R.Records.still records told) known.0).2

pub returns-in-None-clause-spends : goal.returns-in-None-clause-spends
returns-in-None-clause-spends g c s at epoch is =
    let junk = rw c.in-None.is at (c.in_ok-read_input.ensures.junk s.setting at.setting) in
    junk_unspent g.C.Core.spent s c.args.input.now epoch junk is

pub returns-in_err-ready-in-Some-clause-open : goal.returns-in_err-ready-in-Some-clause-open
returns-in_err-ready-in-Some-clause-open g c tells s t at led =
    let both = both_tell g.C.Core.tells g.R.Records.tells tells in
    let e = c.prepare.ensures in
    let known = quiet g.C.Core g.R.Records _ _ _ _ s (no_doubt g.C.Core g.R.Records _ _ c.requires.up) at in
    let kept = g.met.R.Records.stays _ _ s.kept both.1 (e.calm both.1) known.0 in
    on_err c.from_residual-in_err-ready-in-Some.result
    (opens_quiet g.C.Core g.R.Records _ _ _ _ s t c.args.input.now (rw (← e.same.2) at (no_doubt g.C.Core g.R.Records _ _ c.requires.up)) (at.setting ∙ sym e.same.1) kept.0 (e.knows both.0 s.setting s.kept s.live known.1) e.ready led.2)

pub returns-in_err-ready-in-Some-clause-moments : goal.returns-in_err-ready-in-Some-clause-moments
returns-in_err-ready-in-Some-clause-moments g c tells s t at led left here =
    let told = (both_tell g.C.Core.tells g.R.Records.tells tells).1 in
    let known = quiet g.C.Core g.R.Records _ _ _ _ s (no_doubt g.C.Core g.R.Records _ _ c.requires.up) at in
    keeps_quiet g.C.Core g.R.Records s t c.args.input.now left led.2 ((g.met.R.Records.stays _ _ s.kept told (c.prepare.ensures.calm told) known.0).1 left here)

pub returns-in_err-ready-in-Some-clause-grown : goal.returns-in_err-ready-in-Some-clause-grown
returns-in_err-ready-in-Some-clause-grown g c tells s at =
    let told = (both_tell g.C.Core.tells g.R.Records.tells tells).1 in
    let known = quiet g.C.Core g.R.Records _ _ _ _ s (no_doubt g.C.Core g.R.Records _ _ c.requires.up) at in
    (g.met.R.Records.stays _ _ s.kept told (c.prepare.ensures.calm told) known.0).2

pub returns-in_err-ready-in-Some-clause-spent : goal.returns-in_err-ready-in-Some-clause-spent
returns-in_err-ready-in-Some-clause-spent g c s at epoch is =
    let known = quiet g.C.Core g.R.Records _ _ _ _ s (no_doubt g.C.Core g.R.Records _ _ c.requires.up) at in
    let reads = rw c.in-Some.is at (c.in_ok-read_input.ensures.reads s.setting at.setting) in
    let spent = c.in_err-ready-in-Some.ensures.spent s.setting s.kept s.live known.1 epoch (search rules) in
    sym (spent_input g.C.Core.spent s c.args.input.now c.in-Some.input reads) ∙ spent

-- ---- a turn is decided

pub returns-in_err-note-in-Some-clause-open : goal.returns-in_err-note-in-Some-clause-open
returns-in_err-note-in-Some-clause-open g c tells s t at led =
    let both = both_tell g.C.Core.tells g.R.Records.tells tells in
    let core = g.C.Core in
    let mid = c.prepare.new.self in
    let new = c.append.new.self in
    let e = c.in_ok-ready-in-Some.ensures in
    let f = c.in_err-note-in-Some.ensures in
    let known = quiet g.C.Core g.R.Records _ _ _ _ s (no_doubt g.C.Core g.R.Records _ _ c.requires.up) at in
    let reads = rw c.in-Some.is at (c.in_ok-read_input.ensures.reads s.setting at.setting) in
    let turn = e.turn both.0 s.setting s.kept s.live known.1 (fits_of s.setting s.live c.args.input.now c.in-Some.input reads led.1) in
    let kept = g.met.R.Records.stays _ _ s.kept both.1 (e.calm both.1) known.0 in
    let serves = g.met.C.Core.serves_known mid.core s.setting s.kept s.live (e.knows both.0 s.setting s.kept s.live known.1) in
    on_err c.from_residual-in_err-note-in-Some.result
    (opens_doubt g.C.Core g.R.Records new.config new.in_doubt new.core new.records s t c.args.input.now c.in-Some.input _ (at.setting ∙ sym (f.same.1 ∙ e.same.1)) reads turn.noted (f.doubts both.1 s.kept kept.0)
    (subst (λ own. core.serves own s.setting s.kept) (sym f.same.2) serves)
    (subst (λ own. core.serves own s.setting (written core.rows s c.in-Some.input)) (sym f.same.2) turn.served) led.2)

pub returns-in_err-note-in-Some-clause-moments : goal.returns-in_err-note-in-Some-clause-moments
returns-in_err-note-in-Some-clause-moments g c tells s t at led left here =
    let both = both_tell g.C.Core.tells g.R.Records.tells tells in
    let e = c.in_ok-ready-in-Some.ensures in
    let known = quiet g.C.Core g.R.Records _ _ _ _ s (no_doubt g.C.Core g.R.Records _ _ c.requires.up) at in
    let reads = rw c.in-Some.is at (c.in_ok-read_input.ensures.reads s.setting at.setting) in
    let turn = e.turn both.0 s.setting s.kept s.live known.1 (fits_of s.setting s.live c.args.input.now c.in-Some.input reads led.1) in
    keeps_open g.C.Core g.R.Records s t c.args.input.now c.in-Some.input _ left led.2 reads turn.noted (c.append.ensures.moments both.1 _ s.kept (e.calm both.1) known.0 left here)

pub returns-in_err-note-in-Some-clause-grown : goal.returns-in_err-note-in-Some-clause-grown
returns-in_err-note-in-Some-clause-grown g c tells s at =
    let told = (both_tell g.C.Core.tells g.R.Records.tells tells).1 in
    let known = quiet g.C.Core g.R.Records _ _ _ _ s (no_doubt g.C.Core g.R.Records _ _ c.requires.up) at in
    c.append.ensures.grown told _ s.kept (c.in_ok-ready-in-Some.ensures.calm told) known.0

pub returns-in_err-note-in-Some-clause-plan : goal.returns-in_err-note-in-Some-clause-plan
returns-in_err-note-in-Some-clause-plan g c planned =
    let same : true ≡ was_stopped c.from_residual-in_err-note-in-Some.result = search rules in
    meets g.C.Core g.R.Records true _ _ c.prepare.new.self.records _ same (c.in_ok-ready-in-Some.ensures.plan planned) (c.in_err-note-in-Some.ensures.plan planned)

pub returns-in_ok-note-in-Some-clause-moments : goal.returns-in_ok-note-in-Some-clause-moments
returns-in_ok-note-in-Some-clause-moments g c tells s t at led left here =
    let both = both_tell g.C.Core.tells g.R.Records.tells tells in
    let e = c.in_ok-ready-in-Some.ensures in
    let known = quiet g.C.Core g.R.Records _ _ _ _ s (no_doubt g.C.Core g.R.Records _ _ c.requires.up) at in
    let reads = rw c.in-Some.is at (c.in_ok-read_input.ensures.reads s.setting at.setting) in
    let turn = e.turn both.0 s.setting s.kept s.live known.1 (fits_of s.setting s.live c.args.input.now c.in-Some.input reads led.1) in
    keeps_open g.C.Core g.R.Records s t c.args.input.now c.in-Some.input _ left led.2 reads turn.noted (c.append.ensures.moments both.1 _ s.kept (e.calm both.1) known.0 left here)

pub returns-in_ok-note-in-Some-clause-grown : goal.returns-in_ok-note-in-Some-clause-grown
returns-in_ok-note-in-Some-clause-grown g c tells s at =
    let told = (both_tell g.C.Core.tells g.R.Records.tells tells).1 in
    let known = quiet g.C.Core g.R.Records _ _ _ _ s (no_doubt g.C.Core g.R.Records _ _ c.requires.up) at in
    c.append.ensures.grown told _ s.kept (c.in_ok-ready-in-Some.ensures.calm told) known.0

pub returns-in_ok-note-in-Some-clause-plan : goal.returns-in_ok-note-in-Some-clause-plan
returns-in_ok-note-in-Some-clause-plan g c planned = meets g.C.Core g.R.Records false false _ c.prepare.new.self.records _ refl (c.in_ok-ready-in-Some.ensures.plan planned) (c.in_ok-note-in-Some.ensures.plan planned)

pub returns-in_ok-note-in-Some-clause-spends : goal.returns-in_ok-note-in-Some-clause-spends
returns-in_ok-note-in-Some-clause-spends g c s at epoch is =
    let known = quiet g.C.Core g.R.Records _ _ _ _ s (no_doubt g.C.Core g.R.Records _ _ c.requires.up) at in
    let reads = rw c.in-Some.is at (c.in_ok-read_input.ensures.reads s.setting at.setting) in
    c.in_ok-ready-in-Some.ensures.spends s.setting s.kept s.live known.1 epoch (spent_input g.C.Core.spent s c.args.input.now c.in-Some.input reads ∙ is)

pub returns-in_ok-note-in-Some-clause-done : goal.returns-in_ok-note-in-Some-clause-done
returns-in_ok-note-in-Some-clause-done g c tells s t at led sent le =
    let both = both_tell g.C.Core.tells g.R.Records.tells tells in
    let core = g.C.Core in
    let new = c.append.new.self in
    let e = c.in_ok-ready-in-Some.ensures in
    let ready = c.in_ok-ready-in-Some.ready in
    let f = c.in_ok-note-in-Some.ensures in
    let i = c.in-Some.input in
    let known = quiet g.C.Core g.R.Records _ _ _ _ s (no_doubt g.C.Core g.R.Records _ _ c.requires.up) at in
    let reads = rw c.in-Some.is at (c.in_ok-read_input.ensures.reads s.setting at.setting) in
    let turn = e.turn both.0 s.setting s.kept s.live known.1 (fits_of s.setting s.live c.args.input.now i reads led.1) in
    let kept = g.met.R.Records.stays _ _ s.kept both.1 (e.calm both.1) known.0 in
    let next = subst (λ own. core.goes_on own ready.turn.note ready.turn.change s.setting (written core.rows s i) (row core.rows s i).live) (sym f.same.2) turn.next in
    ends g.C.Core g.R.Records new.config new.in_doubt c.keep.new.self new.records s t 0 c.args.input.now i _ ready.turn.packets.items c.in_ok-note-in-Some.note ready.packets sent _ _ (at.setting ∙ sym (f.same.1 ∙ e.same.1)) led reads turn e.packets f.note f.up
    (c.keep.ensures.knows s.setting (written core.rows s i) (row core.rows s i).live next) (f.holds both.1 s.kept kept.0) le
