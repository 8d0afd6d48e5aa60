-- One turn of a worker, and what it leads on to.
use Rattle.std.proofs.Common.{◌≡◌, ◌≢◌, ℕ, zero, suc, ◌+◌, ◌<◌, ◌≤◌, nat_lt, Bool, true, false, ◌||◌, List, [], ◌∷◌, ◌++◌, length, Option, Some, None, is_some, filter, if◌then◌else◌, refl, sym, ap, ◌∙◌, subst, arith, append_assoc, length-append}
use Rattle.std.proofs.lemmas.Bool.{ltb-true, ltb-false}
use Rattle.std.proofs.lemmas.List.Sums.{fold_push}
use Rattle.site_workers.proofs.Words.{Adds, Begin, Begins, End, Entry, Err, Ghosts, Grew, HasMet, IfSome, IsPrefix, IsTrue, KeepsPlan, Looks, NodeFault, Path, Reached, Sight, StandsAt, Stop, WentOn, WorkerView, append-nil, filter-append, is_begin, is_in_turn, is_stop, list_any, next_for, next_input, node_of, open_stops, phase, phase_after, stop_count}
use Rattle.air_bus.specs.declared.entry.Input.{Input}
use Rattle.air_bus.specs.declared.entry.Phase.TheVariants.{Busy}
use Rattle.air_bus.specs.Copies.{Copy}
use Rattle.air_bus.proofs.Phases.{phase_here}
use Rattle.site_node.specs.declared.kind.Done.{Done}
use Rattle.site_node.specs.declared.kind.NodeDisk.{NodeDisk}
use Rattle.site_node.specs.declared.kind.NodeFault.TheVariants.{Stopped, Damaged, Spent, Memory}
use Rattle.site_node.specs.Faults.{MeetsStops, IsOfTurn, was_stopped, was_shut_out}

pub none_of : {A : Type 0} (o : Option A) (b : Bool) → b ≡ is_some o → b ≡ false → o ≡ None
none_of None b is off = refl
none_of (Some x) b is off = absurd (cc (is, off))

-- ---- one after another

path_on : {S : Type 0} (leads : S → Entry → S → Type 0) (s t u : S) (es fs : List Entry) → Path leads s es t → Path leads t fs u → Path leads s (es ++ fs) u
path_on leads s t u [] fs p q = subst (λ x. Path leads x fs u) (sym p) q
path_on leads s t u (e ∷ es) fs p q = (p.0, p.1, path_on leads p.0 t u es fs p.2 q)

reached_on : {N : Type 0} (grown : N → N → Type 0) (u v w : N) (k n : ℕ) → Reached grown k u v → Reached grown n v w → (m : ℕ) × Reached grown m u w
reached_on grown u v w k zero first next = (k, subst (Reached grown k u) next first)
reached_on grown u v w k (suc n) first next = let before = reached_on grown u v next.0 k n first next.1 in (suc before.0, (next.0, before.1, next.2))

grew_on : (u v w : Sight) → Grew u v → Grew v w → Grew u w
grew_on u v w first next = record {
  bus = next.bus ∙ first.bus;
  number = next.number ∙ first.number;
  seen = prefix_on u.seen v.seen w.seen first.seen next.seen;
  mine = prefix_on u.mine v.mine w.mine first.mine next.mine;
}
  where
    prefix_on : (a b c : List Entry) → IsPrefix a b → IsPrefix b c → IsPrefix a c
    prefix_on a b c p q = (p.0 ++ q.0, sym (append_assoc a p.0 q.0) ∙ ap (λ (xs : List Entry). xs ++ q.0) p.1 ∙ q.1)

module _ {N : Type 0} (m : Ghosts N) where
  pub went_on : (u v w : WorkerView N) → WentOn m u v → WentOn m v w → WentOn m u w
  went_on u v w a b = record {
    grew = grew_on u.seat v.seat w.seat a.grew b.grew;
    disks = b.disks ∙ a.disks;
    plan = grind arith;
    leads_on = λ t s at.
        let f = a.leads_on t s at in
        let n = b.leads_on t f.1 f.4 in
        (f.0 ++ n.0, n.1, n.2 ∙ ap (λ (xs : List Entry). xs ++ n.0) f.2 ∙ append_assoc u.seat.mine f.0 n.0, path_on m.leads s f.1 n.1 f.0 n.0 f.3 n.3, n.4);
    grows_on = λ t s at.
        let there = a.leads_on t s at in
        let f = a.grows_on t s at in
        let n = b.grows_on t there.1 there.4 in
        reached_on m.grown u.node v.node w.node f.0 n.0 f.1 n.1;
  }

  -- of the worker, seen by its parts
  pub went_from : (v : N) (s : Sight) (o : Option NodeFault) (u w : WorkerView N) → record { node = v; seat = s; fault = o } ≡ u → o ≡ None → WentOn m (record { node = v; seat = s; fault = None }) w → WentOn m u w
  went_from v s o u w is none went = subst (λ x. WentOn m x w) is (subst (λ f. WentOn m (record { node = v; seat = s; fault = f }) w) (sym none) went)

  -- a seat that only looked
  pub went_looking : (v : N) (s t : Sight) (o : Option NodeFault) → (t.bus ≡ s.bus) × (t.number ≡ s.number) → Looks s t → WentOn m (record { node = v; seat = s; fault = o }) (record { node = v; seat = t; fault = o })
  went_looking v s t o kept looks = grind (arith, append-nil)

  -- there was no memory for a turn
  pub went_short : (v : N) (s : Sight) → WentOn m (record { node = v; seat = s; fault = None }) (record { node = v; seat = s; fault = Some Memory })
  went_short v s = grind (arith, append-nil)

-- ---- entries

-- how many are stops
counted_more : (es : List Entry) (e : Entry) → stop_count (es ++ e ∷ []) ≡ stop_count es + stop_count (e ∷ [])
counted_more es e = ap length (filter-append is_stop es (e ∷ [])) ∙ length-append (filter is_stop es) (filter is_stop (e ∷ []))

any_more : (old : List Entry) (e : Entry) → is_stop e ≡ false → list_any is_stop (old ++ e ∷ []) ≡ list_any is_stop old
any_more [] e never = ap (λ b. b || false) never
any_more (x ∷ xs) e never = ap (λ b. is_stop x || b) (any_more xs e never)

pub in_turn : (old new : List Entry) (e : Entry) → new ≡ old ++ e ∷ [] → is_begin e ≡ true → is_in_turn new ≡ true
in_turn old new e is begun = ap is_in_turn is ∙ fold_push (λ _ x. is_begin x) false old e ∙ begun

-- what a call added with node n's seat
pub record Added (n : ℕ) (v w : Sight) (e : Entry) : Type 0 where
  pub grew : Grew v w
  pub mine : w.mine ≡ v.mine ++ e ∷ []
  pub phased : phase n w.mine ≡ phase_after e
  pub stops : stop_count w.mine ≡ stop_count v.mine + stop_count (e ∷ [])

pub added : (n : ℕ) (v w : Sight) (e : Entry) → node_of e ≡ n → (w.bus ≡ v.bus) × (w.number ≡ v.number) → Adds v e w → Added n v w e
added n v w e is kept adds = record {
  grew = record { bus = kept.0; number = kept.1; seen = (adds.0 ++ e ∷ [], sym (adds.1 ∙ append_assoc v.seen adds.0 (e ∷ []))); mine = (e ∷ [], sym adds.2) };
  mine = adds.2;
  phased = ap (phase n) adds.2 ∙ phase_here v.mine e n is;
  stops = ap stop_count adds.2 ∙ counted_more v.mine e;
}

pub ended : (n : ℕ) (v w : Sight) (noted : Option (List ℕ)) (packets : List (ℕ × List ℕ)) → v.number ≡ Some n → (w.bus ≡ v.bus) × (w.number ≡ v.number) → IfSome v.number (λ k. (kept : ℕ) × (kept ≤ length packets) × Adds v (End k noted packets kept) w)
    → (kept : ℕ) × (kept ≤ length packets) × Added n v w (End n noted packets kept)
ended n v w noted packets whose same did =
    let t = subst (λ o. IfSome o (λ k. (kept : ℕ) × (kept ≤ length packets) × Adds v (End k noted packets kept) w)) whose did in
    (t.0, t.1, added n v w (End n noted packets t.0) refl same t.2)

pub stopped : (n : ℕ) (v w : Sight) (landed : Option (List ℕ)) → v.number ≡ Some n → (w.bus ≡ v.bus) × (w.number ≡ v.number) → IfSome v.number (λ k. Adds v (Stop k landed) w) → Added n v w (Stop n landed)
stopped n v w landed whose same did = added n v w (Stop n landed) refl same (subst (λ o. IfSome o (λ k. Adds v (Stop k landed) w)) whose did)

-- the turn that it opened of node n
pub record Opened (n : ℕ) (wants tick : Bool) (v w : Sight) (i : Input) : Type 0 where
  pub next : Option Copy
  pub given : next_input (phase n v.mine) next tick wants ≡ Some i
  pub begun : Added n v w (Begin n i)

pub opened : (n : ℕ) (wants tick : Bool) (v w : Sight) (o : Option Input) (i : Input) → v.number ≡ Some n → o ≡ Some i → (w.bus ≡ v.bus) × (w.number ≡ v.number) → IfSome v.number (λ k. Begins k wants tick v o w) → Opened n wants tick v w i
opened n wants tick v w o i whose is kept did =
    let b : Begins n wants tick v (Some i) w = subst (λ k. IfSome k (λ j. Begins j wants tick v (Some i) w)) whose (subst (λ x. IfSome v.number (λ k. Begins k wants tick v x w)) is did) in
    record { next = next_for v.bus.base n (v.seen ++ b.0); given = b.3; begun = added n v w (Begin n i) refl kept (b.0, b.1, b.2) }

-- ---- what was met

-- an entry that is no stop changes nothing
pub met_more : {N : Type 0} (faults : N → ℕ) (waits : N → Bool) (v w : N) (o : Option NodeFault) (old new : List Entry) (e : Entry) → new ≡ old ++ e ∷ [] → is_stop e ≡ false → faults v ≤ faults w → HasMet faults waits v o old
    → (list_any is_stop new ≡ true → 1 ≤ faults w) × (stop_count new ≤ 8)
met_more faults waits v w o old new e is never more met = grind (arith, counted_more, any_more)

pub told_same : (f h : NodeFault) → Some f ≡ Some h → f ≡ h
told_same f h e = cc

-- and its open turn ended its work
pub met_refused : {N : Type 0} (faults : N → ℕ) (waits : N → Bool) (v w : N) (o : Option NodeFault) (f : NodeFault) (old new : List Entry) (n : ℕ) (i : Input) → new ≡ old ++ Begin n i ∷ [] → f ≢ Stopped → faults v ≤ faults w → HasMet faults waits v o old → HasMet faults waits w (Some f) new
met_refused faults waits v w o f old new n i is other more met =
    let begun = met_more faults waits v w o old new (Begin n i) is refl more met in
    record { up = λ none. absurd (cc none); stops = begun.0; most = begun.1; ended = λ was. absurd (other (told_same f Stopped was)); within = λ h was plain short. in_turn old new (Begin n i) is refl }

-- whether it was the last stop
last_stop : (b : Bool) (n : ℕ) (o : Option NodeFault) → nat_lt n 8 ≡ b → o ≡ (if b then None else Some Stopped) → (o ≡ Some Stopped → 8 ≤ n) × (o ≡ None → n < 8)
last_stop true n o below told = (λ is. absurd (cc (sym told ∙ is)), λ none. ltb-true n 8 below)
last_stop false n o below told = (λ is. ltb-false n 8 below, λ none. absurd (cc (sym told ∙ none)))

pub eighth : (n : ℕ) (o : Option NodeFault) → o ≡ (if nat_lt n 8 then None else Some Stopped) → (o ≡ Some Stopped → 8 ≤ n) × (o ≡ None → n < 8)
eighth n o told = last_stop (nat_lt n 8) n o refl told

-- ---- planned stops

module _ {N : Type 0} (m : Ghosts N) (v : N) (x : List Entry) where
  abbrev Plan : N → Option NodeFault → List Entry → Type 0
  Plan = KeepsPlan m.stops_left m.faults m.waits v None x

  abbrev Meets : Bool → N → N → Type 0
  Meets met u w = MeetsStops met (m.stops_left u) (m.stops_left w) (m.faults u) (m.faults w)

  -- a turn that wasn't stopped
  pub plan_done : (w : N) (o : Option NodeFault) (y : List Entry) → stop_count y + open_stops o ≡ stop_count x → m.waits w ≡ m.waits v → Meets false v w → Plan w o y
  plan_done w o y same up met = grind arith

  -- one that was, be it closed by a stop or not
  pub plan_stopped : (u w : N) (o : Option NodeFault) (y : List Entry) → stop_count y + open_stops o ≤ stop_count x + 1 → Meets true v u → Meets false u w → Plan w o y
  plan_stopped u w o y more met back = grind arith

  -- one that was, and its node isn't up again
  pub plan_shut : (u w : N) (f : NodeFault) → Meets true v u → Meets (was_shut_out {T = Option (List ℕ)} (Err f)) u w → Plan w (Some f) x
  plan_shut u w h met back = grind arith

  pub was_met : (u : N) (f : NodeFault) → f ≡ Stopped → Meets (was_stopped {T = Done} (Err f)) v u → Meets true v u
  was_met u f is met = subst (λ g. Meets (was_stopped {T = Done} (Err g)) v u) is met

  -- one that is open still
  pub plan_left : (w : N) (f : NodeFault) → f ≢ Stopped → IsOfTurn f → m.waits v ≡ false → m.waits w ≡ was_stopped {T = Done} (Err f) → Meets (was_stopped {T = Done} (Err f)) v w → Plan w (Some f) x
  plan_left w h other kind up waits met = grind arith

-- ---- a turn

-- a node that stopped too often is told as stopped
pub too_often_told : (b : Bool) (o : Option NodeFault) (f : NodeFault) → o ≡ (if b then None else Some Stopped) → f ≢ Stopped → o ≢ Some f
too_often_told true o f told other is = absurd (cc (sym told ∙ is))
too_often_told false o f told other is = other (sym (told_same Stopped f (sym told ∙ is)))

module _ {N : Type 0} (m : Ghosts N) (v : N) (s0 s1 : Sight) (i : Input) (wants tick : Bool) (begins : Opened (m.number v) wants tick s0 s1 i) (closed : phase (m.number v) s0.mine ≢ Busy) where
  abbrev Keeps : N → Option NodeFault → List Entry → Type 0
  Keeps = KeepsPlan m.stops_left m.faults m.waits v None s1.mine

  abbrev Grown : N → Type 0
  Grown w = IsTrue m.tells → (s t : m.State) → m.stands v s → m.leads s (Begin (m.number v) i) t → (k : ℕ) × Reached m.grown k v w

  pub turned : (w : N) (s2 : Sight) (o : Option NodeFault) → Grew s1 s2 → m.disk_count w ≡ m.disk_count v → (IsTrue m.planned → Keeps w o s2.mine)
      → (IsTrue m.tells → (s t : m.State) → m.stands v s → m.leads s (Begin (m.number v) i) t → (es : List Entry) × (u : m.State) × (s2.mine ≡ s1.mine ++ es) × Path m.leads t es u × StandsAt m.leads m.phase_of m.stands m.number m.spends w o s2.mine u)
      → Grown w → WentOn m (record { node = v; seat = s0; fault = None }) (record { node = w; seat = s2; fault = o })
  turned w s2 o grew disks plan led grown = record {
    grew = grew_on s0 s1 s2 begins.begun.grew grew;
    disks = disks;
    plan = λ p. let kept = plan p in let same : stop_count s1.mine ≡ stop_count s0.mine + 0 = begins.begun.stops in record {
      most = λ k h. kept.most k (h.0, h.1, omega (arith, h.2, same));
      calm = λ h. kept.calm (h.0, h.1, omega (arith, h.2, same));
    };
    leads_on = λ tells s at.
        let t = first s at in
        let l = led tells s t.0 at.at t.1 in
        (Begin (m.number v) i ∷ l.0, l.1, l.2 ∙ ap (λ (xs : List Entry). xs ++ l.0) begins.begun.mine ∙ append_assoc s0.mine (Begin (m.number v) i ∷ []) l.0, (t.0, t.1, l.3), l.4);
    grows_on = λ tells s at. let t = first s at in grown tells s t.0 at.at t.1;
  }
    where
      first : (s : m.State) → StandsAt m.leads m.phase_of m.stands m.number m.spends v None s0.mine s → (t : m.State) × m.leads s (Begin (m.number v) i) t
      first s at =
          let phased = at.phased refl in
          m.begins s (m.number v) begins.next tick wants i (λ busy. closed (sym phased ∙ busy)) (ap (λ q. next_input q begins.next tick wants) phased ∙ begins.given)

  -- that was closed, by the last of its stops or another entry
  pub turn_closed : (w : N) (s2 : Sight) (e : Entry) (b : Bool) (o : Option NodeFault) → o ≡ (if b then None else Some Stopped) → m.number w ≡ m.number v → Added (m.number v) s1 s2 e → m.disk_count w ≡ m.disk_count v → (IsTrue m.planned → Keeps w None s2.mine)
      → (IsTrue m.tells → (s t : m.State) → m.stands v s → m.leads s (Begin (m.number v) i) t → (u : m.State) × m.leads t e u × m.stands w u)
      → Grown w → WentOn m (record { node = v; seat = s0; fault = None }) (record { node = w; seat = s2; fault = o })
  turn_closed w s2 e b o told number end disks plan led grown =
      turned w s2 o end.grew disks (λ p. plan_told b told (plan p))
      (λ tells s t at begun. let u = led tells s t at begun in (
        e ∷ [],
        u.0,
        end.mine,
        (u.0, u.1, refl),
        record {
          at = u.2;
          phased = λ none. m.phases t u.0 e u.1 ∙ sym end.phased ∙ ap (λ k. phase k s2.mine) (sym number);
          whole = λ disk place. too_often_told b o (Damaged disk place) told (λ is. absurd (cc is));
          spent = λ epoch is. absurd (too_often_told b o (Spent epoch) told (λ same. absurd (cc same)) is);
        },
      ))
      grown
    where
      plan_told : (b : Bool) → o ≡ (if b then None else Some Stopped) → Keeps w None s2.mine → Keeps w o s2.mine
      plan_told true is kept = subst (λ x. Keeps w x s2.mine) (sym is) kept
      plan_told false is kept = subst (λ x. Keeps w x s2.mine) (sym is) (record { most = λ k h. kept.most k h; calm = λ h. kept.calm h })

  -- that is open still
  pub turn_left : (w : N) (f : NodeFault) → m.number w ≡ m.number v → m.disk_count w ≡ m.disk_count v → (IsTrue m.planned → Keeps w (Some f) s1.mine)
      → (IsTrue m.tells → (s t : m.State) → m.stands v s → m.leads s (Begin (m.number v) i) t → m.stands w t)
      → (IsTrue m.tells → (s t : m.State) → m.stands v s → m.leads s (Begin (m.number v) i) t → (disk : NodeDisk) (place : ℕ) → f ≢ Damaged disk place)
      → ((s : m.State) → m.stands v s → (epoch : ℕ) → f ≡ Spent epoch → m.spends s i ≡ Some epoch)
      → Grown w → WentOn m (record { node = v; seat = s0; fault = None }) (record { node = w; seat = s1; fault = Some f })
  turn_left w f number disks plan stands whole spent grown =
      turned w s1 (Some f) (record { bus = refl; number = refl; seen = ([], append-nil s1.seen); mine = ([], append-nil s1.mine) }) disks plan
      (λ tells s t at begun. (
        [],
        t,
        sym (append-nil s1.mine),
        refl,
        record {
          at = stands tells s t at begun;
          phased = λ none. absurd (cc none);
          whole = λ disk place is. whole tells s t at begun disk place (told_same f (Damaged disk place) is);
          spent = λ epoch is. (s, i, subst (λ (k : ℕ). m.leads s (Begin k i) t) (sym number) begun, spent s at epoch (told_same f (Spent epoch) is));
        },
      ))
      grown
