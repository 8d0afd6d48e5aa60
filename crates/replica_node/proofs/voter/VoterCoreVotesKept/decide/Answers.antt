use Rattle.std.proofs.Common.{[], None, ◌∙◌, refl, ap, sym, subst}
use Rattle.replica_node.proofs.Words.{sent_ok, All-same, IsNote, worked, GoesOn, Stands, kept_of, Change, ReplicaCore, VoterView, gets_ok, views_ok}
use Rattle.replica_node.proofs.Spelled.{note_ok}
use Rattle.replica_node.proofs.Voters.{taken, down_at, start_row, idle_turn, gets_row, up_at, is_packet}
use Rattle.replica_node.proofs.voter.VoterCoreVotesKept.decide.Goals as goal

pub returns-in-Start-clause-turn : goal.returns-in-Start-clause-turn
returns-in-Start-clause-turn c = λ tells g k live knows fits.
    let i = c.args.input in
    let turn = c.in_ok-start-in-Start.field-0 in
    let e = c.in_ok-start-in-Start.ensures in
    let notes = c.notes.ensures ∙ ap (λ (v : VoterView). v.notes) c.self.view_is in
    let goes = e.next k (ap kept_of notes ∙ down_at c.args.self.now i k live c.in-Start.is fits knows) in
    taken g i k live _ turn (start_row i g k live turn c.in-Start.is fits (e.turn g k)) (subst (λ (x : ReplicaCore). GoesOn x turn.change k) (ap (λ (v : VoterView). v.core) c.self.view_is) goes)

pub returns-in-Start-clause-packets : goal.returns-in-Start-clause-packets
returns-in-Start-clause-packets c = sent_ok worked [] c.in_ok-start-in-Start.field-0.packets.items tt (c.in_ok-start-in-Start.ensures.turn worked (kept_of [])).packets

pub returns-in-Start-clause-spelled : goal.returns-in-Start-clause-spelled
returns-in-Start-clause-spelled c = note_ok c.in_ok-start-in-Start.field-0.note None (c.in_ok-start-in-Start.ensures.turn worked (kept_of [])).note tt

pub returns-in-Start-clause-can_keep : goal.returns-in-Start-clause-can_keep
returns-in-Start-clause-can_keep c =
    let notes = c.notes.result.now in
    let turn = c.in_ok-start-in-Start.field-0 in
    let e = c.in_ok-start-in-Start.ensures in
    rw (← (ap (λ (v : VoterView). v.core) c.self.view_is))
    (record {
      room = e.room;
      note = note_ok turn.note None (e.turn worked (kept_of notes)).note tt;
      kept = kept_of notes;
      goes_on = e.next (kept_of notes) refl;
      spelled = views_ok notes (All-same IsNote notes c.self.inside.votes.notes.items c.notes.ensures c.self.inside.votes.are_notes);
    })

pub returns-in-Own-clause-turn : goal.returns-in-Own-clause-turn
returns-in-Own-clause-turn c = λ tells g k live knows fits.
    let i = c.args.input in
    let e = c.idle.ensures in
    let at = idle_turn c.args.self.now i g k live c.idle.result c.in-Own.is fits knows e.note e.packets e.change in
    taken g i k live _ c.idle.result at.0 at.1

pub returns-clause-turn : goal.returns-clause-turn
returns-clause-turn c = λ tells g k live knows fits.
    let i = c.args.input in
    let turn = c.in_ok-gets-in-Deliver.field-0 in
    let e = c.in_ok-gets-in-Deliver.ensures in
    let stands = subst (λ (x : ReplicaCore). Stands x k) (ap (λ (v : VoterView). v.core) (sym c.self.view_is)) (up_at c.args.self.now i _ _ k live c.in-Deliver.is fits knows) in
    taken g i k live _ turn (gets_row i _ _ g k live turn c.in-Deliver.is fits (e.turn g k stands)) (subst (λ (x : Change). GoesOn c.gets.new.self x k) (sym e.change) (e.same k stands))

pub returns-clause-packets : goal.returns-clause-packets
returns-clause-packets c =
    let so = c.self.invariant in
    sent_ok worked _ c.in_ok-gets-in-Deliver.field-0.packets.items (gets_ok so.kept _ _ so.spelled (is_packet c.args.input _ _ c.in-Deliver.is c.requires)).packets (c.in_ok-gets-in-Deliver.ensures.turn worked so.kept so.stands).packets

pub returns-clause-spelled : goal.returns-clause-spelled
returns-clause-spelled c =
    let so = c.self.invariant in
    note_ok c.in_ok-gets-in-Deliver.field-0.note _ (c.in_ok-gets-in-Deliver.ensures.turn worked so.kept so.stands).note (gets_ok so.kept _ _ so.spelled (is_packet c.args.input _ _ c.in-Deliver.is c.requires)).note

pub returns-clause-can_keep : goal.returns-clause-can_keep
returns-clause-can_keep c =
    let so = c.self.invariant in
    let e = c.in_ok-gets-in-Deliver.ensures in
    record {
      room = e.room;
      note = returns-clause-spelled c;
      kept = so.kept;
      goes_on = subst (λ (x : Change). GoesOn c.gets.new.self x so.kept) (sym e.change) (e.same so.kept so.stands);
      spelled = so.spelled;
    }
