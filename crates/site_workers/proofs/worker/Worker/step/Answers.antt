use Rattle.std.proofs.Common.{rules, ◌≡◌, ◌≢◌, ℕ, ◌+◌, ◌≤◌, Bool, true, false, List, Option, None, Some, Err, arith, refl, sym, ap, ◌∙◌, subst}
use Rattle.site_workers.proofs.Words.{Begin, End, Entry, HasMet, IsIdle, NodeFault, Stop, is_stop, list_any, phase, stop_count}
use Rattle.air_bus.specs.declared.entry.Phase.TheVariants.{Down, Idle}
use Rattle.outside.specs.Faults.{added}
use Rattle.site_node.specs.declared.kind.NodeFault.TheVariants.{Stopped, Disk, Read}
use Rattle.site_node.specs.Faults.{HasFailed, IsOfTurn, IsOfRestart, IsWhole}
use Rattle.site_workers.proofs.Stepping.{Opened, none_of, went_on, went_from, went_looking, went_short, opened, ended, stopped, met_more, met_refused, eighth, told_same, too_often_told, plan_done, plan_stopped, plan_shut, plan_left, was_met, turn_closed, turn_left}
use Rattle.site_workers.proofs.worker.Worker.step.Given.{Over}
use Rattle.site_workers.proofs.worker.Worker.step.Goals as goal
use Rattle.site_workers.proofs.worker.Worker.step.Goals.{After-turn}

none : (g : Over) (c : After-turn g) → c.self.inside.fault ≡ None
none g c = none_of c.self.inside.fault c.is_some.result c.is_some.ensures c.if-is_some.false

idle : (g : Over) (c : After-turn g) → IsIdle (g.N.SiteNode.number c.self.inside.node) (g.N.SiteNode.waits c.self.inside.node) c.self.inside.seat
idle g c = c.self.inside.idle (none g c)

begins : (g : Over) (c : After-turn g) → Opened (g.N.SiteNode.number c.self.inside.node) c.wants-wants.result c.self.inside.tick c.self.inside.seat c.begin.new.seat c.in-Ok-Some.input
begins g c =
    let self = c.self.inside in
    opened (g.N.SiteNode.number self.node) c.wants-wants.result self.tick self.seat c.begin.new.seat c.in-Ok-Some.field-0 c.in-Ok-Some.input self.whose c.in-Ok-Some.field-0-is c.begin.ensures.kept c.in-Ok-Some.ensures.did

pub returns-in-Err : goal.returns-in-Err
returns-in-Err g c =
    let m = g.N.SiteNode in
    let self = c.self.inside in
    let s1 = c.begin.new.seat in
    went_from m self.node self.seat self.fault c.args.self.now _ c.self.view_is (none_of self.fault c.is_some.result c.is_some.ensures c.if-is_some.false)
    (went_on m (record { node = self.node; seat = self.seat; fault = None }) (record { node = self.node; seat = s1; fault = None }) _ (went_looking m self.node self.seat s1 None c.begin.ensures.kept c.in-Err.ensures.err) (went_short m self.node s1))

pub returns-in-Ok : goal.returns-in-Ok
returns-in-Ok g c =
    let m = g.N.SiteNode in
    let self = c.self.inside in
    let after = (goal.at.returns-in-Ok g c).After-turn in
    let n = m.number self.node in
    let s1 = c.begin.new.seat in
    let s2 = c.end.new.seat in
    let d = c.in-Ok.field-0 in
    let end = ended n s1 s2 d.note d.packets (c.begin.ensures.kept.1 ∙ self.whose) c.end.ensures.kept c.end.ensures.adds in
    let same : stop_count s2.mine ≡ stop_count s1.mine + 0 = end.2.stops in
    went_from m self.node self.seat self.fault c.args.self.now _ c.self.view_is (none g after)
    (turn_closed m self.node self.seat s1 c.in-Ok-Some.input c.wants-wants.result self.tick (begins g after) (idle g after).closed c.turn.new.self s2 (End n d.note d.packets end.0) true self.fault (none g after) c.turn.ensures.number end.2 c.turn.ensures.disks
    (λ p. plan_done m self.node s1.mine c.turn.new.self None s2.mine (omega (arith, same)) (c.in-Ok.ensures.waits ∙ sym (idle g after).up) (c.in-Ok.ensures.plan p))
    (λ tells s t at led. c.in-Ok.ensures.done tells s t at led end.0 end.1)
    (λ tells s t at led. (1, (self.node, refl, c.turn.ensures.grown tells s at))))

pub returns-in-Ok-restart : goal.returns-in-Ok-restart
returns-in-Ok-restart g c =
    let m = g.N.SiteNode in
    let self = c.self.inside in
    let after = (goal.at.returns-in-Ok-restart g c).After-turn in
    let n = m.number self.node in
    let s1 = c.begin.new.seat in
    let s2 = c.stop.new.seat in
    let u = c.turn.new.self in
    let w = c.restart.new.self in
    let landed = c.in-Ok-restart.landed in
    let stop = stopped n s1 s2 landed (c.begin.ensures.kept.1 ∙ self.whose) c.stop.ensures.kept c.stop.ensures.adds in
    let more : stop_count s2.mine ≡ stop_count s1.mine + 1 = stop.stops in
    went_from m self.node self.seat self.fault c.args.self.now _ c.self.view_is (none g after)
    (turn_closed m self.node self.seat s1 c.in-Ok-Some.input c.wants-wants.result self.tick (begins g after) (idle g after).closed w s2 (Stop n landed) _ c.too_often-self-inside.result c.too_often-self-inside.ensures (c.restart.ensures.number ∙ c.turn.ensures.number) stop (c.restart.ensures.disks ∙ c.turn.ensures.disks)
    (λ p. plan_stopped m self.node s1.mine u w None s2.mine (omega (arith, more)) (was_met m self.node s1.mine u c.in-Err-Stopped.field-0 c.in-Err-Stopped.field-0-is (c.in-Err-Stopped.ensures.plan p)) (c.in-Ok-restart.ensures.plan p))
    (λ tells s t at led. let x = c.in-Ok-restart.ensures.stopped tells t (c.in-Err-Stopped.ensures.open tells s t at led) in (x.0, subst (λ k. m.leads t (Stop k landed) x.0) c.turn.ensures.number x.1, x.2))
    (λ tells s t at led. (2, (u, (self.node, refl, c.turn.ensures.grown tells s at), c.restart.ensures.grown tells t (c.in-Err-Stopped.ensures.open tells s t at led)))))

pub returns-in-Err-Stopped : goal.returns-in-Err-Stopped
returns-in-Err-Stopped g c =
    let m = g.N.SiteNode in
    let self = c.self.inside in
    let after = (goal.at.returns-in-Err-Stopped g c).After-turn in
    let s1 = c.begin.new.seat in
    let u = c.turn.new.self in
    let w = c.restart.new.self in
    let fault = c.in-Err-restart.fault in
    went_from m self.node self.seat self.fault c.args.self.now _ c.self.view_is (none g after)
    (turn_left m self.node self.seat s1 c.in-Ok-Some.input c.wants-wants.result self.tick (begins g after) (idle g after).closed w fault (c.restart.ensures.number ∙ c.turn.ensures.number) (c.restart.ensures.disks ∙ c.turn.ensures.disks)
    (λ p. plan_shut m self.node s1.mine u w fault (was_met m self.node s1.mine u c.in-Err-Stopped.field-0 c.in-Err-Stopped.field-0-is (c.in-Err-Stopped.ensures.plan p)) (c.in-Err-restart.ensures.plan p))
    (λ tells s t at led. c.in-Err-restart.ensures.open tells t (c.in-Err-Stopped.ensures.open tells s t at led))
    (λ tells s t at led disk place is. subst IsWhole is (c.in-Err-restart.ensures.whole tells t (c.in-Err-Stopped.ensures.open tells s t at led)))
    (λ s at epoch is. absurd (subst IsOfRestart is c.in-Err-restart.ensures.kind))
    (λ tells s t at led. (2, (u, (self.node, refl, c.turn.ensures.grown tells s at), c.restart.ensures.grown tells t (c.in-Err-Stopped.ensures.open tells s t at led)))))

pub returns : goal.returns
returns g c =
    let m = g.N.SiteNode in
    let self = c.self.inside in
    let after = (goal.at.returns g c).After-turn in
    let s1 = c.begin.new.seat in
    let w = c.turn.new.self in
    let fault = c.in-Err-turn.fault in
    let other : fault ≢ Stopped = search rules in
    went_from m self.node self.seat self.fault c.args.self.now _ c.self.view_is (none g after)
    (turn_left m self.node self.seat s1 c.in-Ok-Some.input c.wants-wants.result self.tick (begins g after) (idle g after).closed w fault c.turn.ensures.number c.turn.ensures.disks
    (λ p. plan_left m self.node s1.mine w fault other c.in-Err-turn.ensures.kind (idle g after).up c.in-Err-turn.ensures.waits (c.in-Err-turn.ensures.plan p))
    c.in-Err-turn.ensures.open
    (λ tells s t at led disk place is. subst IsOfTurn is c.in-Err-turn.ensures.kind)
    (λ s at epoch is. c.in-Err-turn.ensures.spent s at epoch (ap Err is))
    (λ tells s t at led. (1, (self.node, refl, c.turn.ensures.grown tells s at))))

-- a node without a fault, which waits for no restart
calm : {N : Type 0} (faults : N → ℕ) (waits : N → Bool) (w : N) (o : Option NodeFault) (mine : List Entry) → o ≡ None → waits w ≡ false → (list_any is_stop mine ≡ true → 1 ≤ faults w) × (stop_count mine ≤ 8) → HasMet faults waits w o mine
calm faults waits w o mine none up met = record {
  up = λ is. up;
  stops = met.0;
  most = met.1;
  ended = λ is. absurd (cc (sym none ∙ is));
  within = λ f is other short. absurd (cc (sym none ∙ is));
}

pub invariant_of-self-inside-in-Ok : goal.invariant_of-self-inside-in-Ok
invariant_of-self-inside-in-Ok g c =
    let m = g.N.SiteNode in
    let self = c.self.inside in
    let after = (goal.at.invariant_of-self-inside-in-Ok g c).After-turn in
    let n = m.number self.node in
    let s1 = c.begin.new.seat in
    let s2 = c.end.new.seat in
    let w = c.turn.new.self in
    let d = c.in-Ok.field-0 in
    let none_is = none g after in
    let begun = (begins g after).begun in
    let end = ended n s1 s2 d.note d.packets (c.begin.ensures.kept.1 ∙ self.whose) c.end.ensures.kept c.end.ensures.adds in
    let same : stop_count s1.mine ≡ stop_count self.seat.mine + 0 = begun.stops in
    let still : stop_count s2.mine ≡ stop_count s1.mine + 0 = end.2.stops in
    let before = self.counted none_is in
    let rests : phase (m.number w) s2.mine ≡ Idle = ap (λ k. phase k s2.mine) c.turn.ensures.number ∙ end.2.phased in
    let first = calm m.faults m.waits w self.fault s1.mine none_is c.in-Ok.ensures.waits
    (met_more m.faults m.waits self.node w self.fault self.seat.mine s1.mine (Begin n c.in-Ok-Some.input) begun.mine refl c.turn.ensures.count self.met) in
    let met = calm m.faults m.waits w self.fault s2.mine none_is c.in-Ok.ensures.waits
    (met_more m.faults m.waits w w self.fault s1.mine s2.mine (End n d.note d.packets end.0) end.2.mine refl (omega arith) first) in (
      c.end.ensures.kept.1 ∙ c.begin.ensures.kept.1 ∙ self.whose ∙ ap Some (sym c.turn.ensures.number),
      (
        λ is. record { up = c.in-Ok.ensures.waits; closed = λ busy. absurd (cc (rests, busy)) },
        (
          λ is up. rests,
          (
            record { disk = λ disk is. absurd (cc (sym none_is ∙ is)); read = λ is. absurd (cc (sym none_is ∙ is)) },
            (
              λ is. (omega (arith, before.0, same, still), before.1),
              (met, tt),
            ),
          ),
        ),
      ),
    )

pub invariant_of-self-inside-in-Ok-restart : goal.invariant_of-self-inside-in-Ok-restart
invariant_of-self-inside-in-Ok-restart g c =
    let m = g.N.SiteNode in
    let self = c.self.inside in
    let after = (goal.at.invariant_of-self-inside-in-Ok-restart g c).After-turn in
    let n = m.number self.node in
    let s1 = c.begin.new.seat in
    let s2 = c.stop.new.seat in
    let w = c.restart.new.self in
    let kept = c.begin.ensures.kept in
    let number = c.restart.ensures.number ∙ c.turn.ensures.number in
    let stop = stopped n s1 s2 c.in-Ok-restart.landed (kept.1 ∙ self.whose) c.stop.ensures.kept c.stop.ensures.adds in
    let same : stop_count s1.mine ≡ stop_count self.seat.mine + 0 = (begins g after).begun.stops in
    let more : stop_count s2.mine ≡ stop_count s1.mine + 1 = stop.stops in
    let before = self.counted (none g after) in
    let stops = c.saturating_add-self-inside.result in
    let next : stops ≡ self.stops + 1 = omega (arith, c.saturating_add-self-inside.ensures, before.1) in
    let o = c.too_often-self-inside.result in
    let told = eighth stops o c.too_often-self-inside.ensures in
    let down : phase (m.number w) s2.mine ≡ Down = ap (λ k. phase k s2.mine) number ∙ stop.phased in
    let faulty : 1 ≤ m.faults w = omega (arith, c.in-Err-Stopped.ensures.fault (ap Err c.in-Err-Stopped.field-0-is), c.in-Ok-restart.ensures.count) in (
      c.stop.ensures.kept.1 ∙ kept.1 ∙ self.whose ∙ ap Some (sym number),
      (
        λ is. record { up = c.in-Ok-restart.ensures.up; closed = λ busy. absurd (cc (down, busy)) },
        (
          λ is up. absurd (cc up),
          (
            record {
              disk = λ disk is. absurd (too_often_told _ o (Disk disk) c.too_often-self-inside.ensures (λ e. absurd (cc e)) is);
              read = λ is. absurd (too_often_told _ o Read c.too_often-self-inside.ensures (λ e. absurd (cc e)) is);
            },
            (
              λ up. (omega (arith, next, before.0, same, more), told.1 up),
              (
                record {
                  up = λ is. c.in-Ok-restart.ensures.up;
                  stops = λ has. faulty;
                  most = omega (arith, next, before.0, before.1, same, more);
                  ended = λ is. let most = told.0 is in omega (arith, most, next, before.0, before.1, same, more);
                  within = λ f is other short. absurd (too_often_told _ o f c.too_often-self-inside.ensures other is);
                },
                tt,
              ),
            ),
          ),
        ),
      ),
    )

pub invariant_of-self-inside-in-Err-turn : goal.invariant_of-self-inside-in-Err-turn
invariant_of-self-inside-in-Err-turn g c =
    let m = g.N.SiteNode in
    let self = c.self.inside in
    let after = (goal.at.invariant_of-self-inside-in-Err-turn g c).After-turn in
    let s1 = c.begin.new.seat in
    let w = c.turn.new.self in
    let fault = c.in-Err-turn.fault in
    let other : fault ≢ Stopped = search rules in (
      c.begin.ensures.kept.1 ∙ self.whose ∙ ap Some (sym c.turn.ensures.number),
      (
        λ is. absurd (cc is),
        (
          λ is. absurd (cc is),
          (
            record {
              disk = λ disk is. absurd (subst IsOfTurn (told_same fault (Disk disk) is) c.in-Err-turn.ensures.kind);
              read = λ is.
                  let read : fault ≡ Read = told_same fault Read is in
                  let tally = c.in-Err-turn.ensures.log_tally in
                  let told : m.log_faults w ≡ added (m.log_faults self.node) 1 = rw read at tally in
                  omega (arith, told);
            },
            (
              λ is. absurd (cc is),
              (met_refused m.faults m.waits self.node w self.fault fault self.seat.mine s1.mine (m.number self.node) c.in-Ok-Some.input (begins g after).begun.mine other c.turn.ensures.count self.met, tt),
            ),
          ),
        ),
      ),
    )

pub invariant_of-self-inside-in-Err-restart : goal.invariant_of-self-inside-in-Err-restart
invariant_of-self-inside-in-Err-restart g c =
    let m = g.N.SiteNode in
    let self = c.self.inside in
    let after = (goal.at.invariant_of-self-inside-in-Err-restart g c).After-turn in
    let s1 = c.begin.new.seat in
    let w = c.restart.new.self in
    let fault = c.in-Err-restart.fault in
    let kind = c.in-Err-restart.ensures.kind in
    let grew : m.faults self.node ≤ m.faults w = omega (arith, c.turn.ensures.count, c.in-Err-restart.ensures.count) in
    let other : fault ≢ Stopped = λ is. absurd (subst IsOfRestart is kind) in (
      c.begin.ensures.kept.1 ∙ self.whose ∙ ap Some (sym (c.restart.ensures.number ∙ c.turn.ensures.number)),
      (
        λ is. absurd (cc is),
        (
          λ is. absurd (cc is),
          (
            record {
              disk = λ disk is. let failed = subst (HasFailed (m.disk_faults c.turn.new.self) (m.disk_faults w)) (told_same fault (Disk disk) is) c.in-Err-restart.ensures.fault in omega (arith, failed);
              read = λ is. absurd (subst IsOfRestart (told_same fault Read is) kind);
            },
            (
              λ is. absurd (cc is),
              (met_refused m.faults m.waits self.node w self.fault fault self.seat.mine s1.mine (m.number self.node) c.in-Ok-Some.input (begins g after).begun.mine other grew self.met, tt),
            ),
          ),
        ),
      ),
    )
