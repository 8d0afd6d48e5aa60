use Rattle.std.proofs.Common.{List, ◌++◌, ap, refl, sym, subst, ℕ, ◌<◌, ◌^◌}
use Rattle.dispatch_core.proofs.Words.{zip, All-same, each_append, Click, DispatcherLive, dispatcher_tick, Puts, waiting_joins, IsJoin, Sends, Nothing}
use Rattle.dispatch_core.proofs.Joins.{puts_more, tick_are}
use Rattle.dispatch_core.proofs.Spelled.{waiting_spelled, zip_spelled}
use Rattle.dispatch_core.proofs.Rows.{row_of, sends_of, dealt_of}
use Rattle.dispatch_core.proofs.dispatch.DispatchCore.tick.Goals as goal
use Rattle.dispatch_core.proofs.dispatch.DispatchCore.tick.Goals.{After-drop-clicks-2}

sends : (c : After-drop-clicks-2) → Sends c.args.self.now c.turn.result Nothing (waiting_joins c.args.self.now.fresh.items ++ zip c.args.self.now.trying.keys c.args.clicks.items)
sends c =
    let core = c.args.self.now in
    let js = waiting_joins core.fresh.items in
    let ks = zip core.trying.keys c.args.clicks.items in
    let trying : Puts c.put_waiting.new.self c.put_trying.new.self ks = subst (λ (xs : List (ℕ × Click)). Puts c.put_waiting.new.self c.put_trying.new.self xs) (λ i. zip (c.as_slice.ensures.keys i) (c.deref.ensures.value i)) c.in_ok-put_trying.ensures.puts in
    sends_of core c.new-outbox.result c.put_trying.new.self c.turn.result Nothing (js ++ ks) c.new-outbox.ensures.dealer c.new-outbox.ensures.packets (puts_more c.new-outbox.result c.put_waiting.new.self c.put_trying.new.self js ks c.in_ok-put_waiting.ensures trying) c.turn.ensures.change c.turn.ensures.packets c.turn.ensures.next
    (each_append IsJoin js ks (waiting_spelled core.fresh.items) (zip_spelled core.trying.keys c.args.clicks.items (All-same (λ n. n < 2 ^ 64) core.trying.keys c.as_slice.result.now (sym c.as_slice.ensures.keys) c.put_trying.ensures.numbers) c.requires))

pub returns-clause-turn : goal.returns-clause-turn
returns-clause-turn c = λ g k l s clicks.
    let core = c.args.self.now in
    row_of g core k l c.turn.result Nothing (waiting_joins core.fresh.items ++ zip core.trying.keys c.args.clicks.items) (dispatcher_tick g core.dealer.site k l) s.of_setting (sends c) refl
    (tick_are g core.dealer.site k l core.fresh.items l.fresh core.trying.keys l.trying c.args.clicks.items (ap (λ (m : DispatcherLive). m.fresh) s.live) (ap (λ (m : DispatcherLive). m.trying) s.live) clicks) refl s

pub returns-clause-joiners : goal.returns-clause-joiners
returns-clause-joiners c = dealt_of c.args.self.now c.turn.result Nothing (waiting_joins c.args.self.now.fresh.items ++ zip c.args.self.now.trying.keys c.args.clicks.items) (sends c)
