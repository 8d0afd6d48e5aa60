-- From what a run leaves of each node to the run of the whole system, and which nodes may be dead.
use Rattle.std.proofs.Common.{◌≡◌, ◌≢◌, ℕ, ◌≤◌, ◌<◌, List, [], ◌∷◌, length, slice_index_or, Bool, true, false, Option, Some, None, refl, sym, ap, ◌∙◌, subst, arith, IsTrue, fold, suc, ◌+◌, ◌-◌, ◌*◌, ◌&&◌, ◌++◌, replicate, length-append}
use Rattle.site_run.proofs.Words.{get_or_default, Begin, End, Stop, Entry, Phase, is_begin, is_in_turn, Idle, Busy, Bytes, Kind, PlanView, IsAired, phase, is_dead, Node, Dispatcher, Server, Replica, Joiner, Setting, IsNode, NumbersAreNodes, node_number, node_of, node_count, NodeDisk, NodeFault, Damaged, Spent, Rows, State, state_phase, phase_by, dispatcher_at_rest, joiner_at_rest, server_at_rest, Disks, UpWith, StateOf, rows_of, down_over, RestsAt, StatesRest, made_by, EachWalked, IsRunOf, AiredIsRun, Chosen, choose, StandsAt, LeadsOn, GrowsOn, Reached, Rests, AnyState, any_of, any_phase, any_rests, IsAtLast, IsMeant, AreDownOver, DeadAreReplicas, IsRunFrom, HaveGrown, and_parts, get_or-append_right, get_or-replicate, length-replicate, kind_at, kinds_of, WalksOn, phase_after, is_for_replica as is_replica, RunEntry, RowPath}
use Rattle.site_run.proofs.Lists.{some_of}
use Rattle.site_run.proofs.Epochs.{comes_to_last}
use Rattle.site_run.proofs.Walking.{phase_is, walked}
use Rattle.site_node.specs.Paths.{phase_led}
use Rattle.lossy_link.specs.declared.plan.Kind.TheVariants as kind

down_phase : (g : Setting) (d : Disks) (n : Node) (m : ℕ) → any_phase (any_of n (down_over g d n)) ≡ phase m []
down_phase g d n m = phase_is n (down_over g d n)

-- a node whose own entries leave it up with no open turn knows something
live_by : {L : Type 0} (live : Option L) (o : Option Bytes) → phase_by live o ≡ Idle → (l : L) × (live ≡ Some l)
live_by None None is = absurd (cc is)
live_by None (Some b) is = absurd (cc is)
live_by (Some l) None is = (l, refl)
live_by (Some l) (Some b) is = absurd (cc is)

up_live : {K L : Type 0} (s : State K L) → state_phase s ≡ Idle → (l : L) × (s.live ≡ Some l)
up_live s is = live_by s.live s.opened is

-- entries the last of which begins a turn leave it open
begun : (e : Entry) → is_begin e ≡ true → phase_after e ≡ Busy
begun (Begin m b) is = refl
begun (End m noted packets kept) is = absurd (cc is)
begun (Stop m landed) is = absurd (cc is)

open_by : {K L : Type 0} (rows : Rows K L) (was : Bool) (es : List Entry) (s t : State K L) → (was ≡ true → state_phase s ≡ Busy) → RowPath rows s es t → fold (λ before e. is_begin e) was es ≡ true → state_phase t ≡ Busy
open_by rows was [] s t busy path last = ap state_phase (sym path) ∙ busy last
open_by rows was (e ∷ es) s t busy path last = open_by rows (is_begin e) es path.0 t (λ is. phase_led rows s path.0 e path.1 ∙ begun e is) path.2 last

open_at : (g : Setting) (d : Disks) (n : Node) (u : StateOf n) (mine : List Entry) → RowPath (rows_of n) (down_over g d n) mine u → is_in_turn mine ≡ true → any_phase (any_of n u) ≡ Busy
open_at g d n u mine path last = phase_is n u ∙ open_by (rows_of n) false mine (down_over g d n) u (λ e. absurd (cc e)) path last

module _ {N S : Type 0} (leads : S → Entry → S → Type 0) (phase_of : S → Phase) (stands : N → S → Type 0) (number : N → ℕ) (at_rest_as : S → Bool → Type 0) (spends : S → Bytes → Option ℕ) (places : N → AnyState → Type 0)
    (walks : (v : N) (u : AnyState) → places v u → WalksOn leads phase_of stands at_rest_as spends places v u) where
  -- where a node that was down over its records stands at the end of its own entries
  pub record Ended (g : Setting) (d : Disks) (h : List Entry) (w : N × Option NodeFault) (n : Node) (u : StateOf n) : Type 0 where
    pub path : RowPath (rows_of n) (down_over g d n) (made_by (node_number n) h) u
    pub here : S
    pub at : stands w.0 here
    pub meant : IsMeant leads phase_of stands at_rest_as spends places here (any_of n u)
    pub phased : w.1 ≡ None → phase_of here ≡ phase (number w.0) (made_by (node_number n) h)
    pub whole : (disk : NodeDisk) (place : ℕ) → w.1 ≢ Some (Damaged disk place)
    pub spent : (epoch : ℕ) → w.1 ≡ Some (Spent epoch) → IsAtLast (any_of n u) epoch

  -- a node that was opened has no fault
  opened_at : {v : N} (s : S) → stands v s → phase_of s ≡ phase (number v) [] → StandsAt leads phase_of stands number spends v None [] s
  opened_at s at phased = record { at = at; phased = λ none. phased; whole = λ disk place is. absurd (cc is); spent = λ epoch is. absurd (cc is) }

  ended : (g : Setting) (d : Disks) (h : List Entry) (n : Node) (v : N) (w : N × Option NodeFault) → places v (any_of n (down_over g d n))
      → LeadsOn leads phase_of stands number spends v None [] w.0 w.1 (made_by (node_number n) h) → (u : StateOf n) × Ended g d h w n u
  ended g d h n v w at led =
      let go = walks v (any_of n (down_over g d n)) at in
      let from = led go.from (opened_at go.from go.at (sym go.led.phased ∙ down_phase g d n (number v))) in
      let on = go.on from.0 from.1 from.3 in
      let to = walked n (down_over g d n) from.0 on.0 on.1 in (
        to.0,
        record {
          path = subst (λ es. RowPath (rows_of n) (down_over g d n) es to.0) (sym from.2) to.2;
          here = from.1;
          at = from.4.at;
          meant = subst (IsMeant leads phase_of stands at_rest_as spends places from.1) to.1 on.2;
          phased = from.4.phased;
          whole = from.4.whole;
          spent = λ epoch is. let x = from.4.spent epoch is in subst (λ a. IsAtLast a epoch) to.1 (on.2.spent x.0 (number w.0) x.1 epoch x.2 x.3);
        },
      )

  -- a node that was down over its records has grown from there
  pub grown_from : (grown : N → N → Type 0) (g : Setting) (d : Disks) (n : Node) (v : N) (w : N) → places v (any_of n (down_over g d n))
      → GrowsOn leads phase_of stands number spends grown v None [] w → (k : ℕ) × Reached grown k v w
  grown_from grown g d n v w at grows =
      let go = walks v (any_of n (down_over g d n)) at in
      grows go.from (opened_at go.from go.at (sym go.led.phased ∙ down_phase g d n (number v)))

  pub have_grown : (grown : N → N → Type 0) (g : Setting) (d : Disks) (vs : List N) (ws : List (N × Option NodeFault)) → ((n : Node) → IsNode g n → node_number n < length vs) → AreDownOver places g d vs
      → ((i : ℕ) (a : N) (b : N × Option NodeFault) → i < length vs → GrowsOn leads phase_of stands number spends grown (slice_index_or vs i a) None [] (slice_index_or ws i b).0) → HaveGrown grown g vs ws
  have_grown grown g d vs ws inside down grows n is a b = grown_from grown g d n (slice_index_or vs (node_number n) a) (slice_index_or ws (node_number n) b).0 (down n is a) (grows (node_number n) a b (inside n is))

  module _ (law : AiredIsRun) (rest_law : StatesRest) (numbers : (g : Setting) → NumbersAreNodes g) (ends : (g : Setting) (m : ℕ) → node_of g m ≡ None → node_count g ≤ m)
      (silent : (plan : PlanView) (kinds : List Kind) (h : List Entry) → IsAired plan kinds h → (m : ℕ) → is_dead plan.dead kinds m ≡ true → made_by m h ≡ [])
      (g : Setting) (d : Disks) (plan : PlanView) (kinds : List Kind) (h : List Entry) (vs : List N) (ws : List (N × Option NodeFault)) (rest : Bool)
      (count : length vs ≡ node_count g) (len : length ws ≡ length vs) (aired : IsAired plan kinds h) (others : (m : ℕ) → length vs ≤ m → made_by m h ≡ []) (dead : DeadAreReplicas g plan kinds) (down : AreDownOver places g d vs)
      (went : (i : ℕ) (a : N) (b : N × Option NodeFault) → i < length vs → LeadsOn leads phase_of stands number spends (slice_index_or vs i a) None [] (slice_index_or ws i b).0 (slice_index_or ws i b).1 (made_by i h))
      (rested : IsTrue rest → (i : ℕ) (b : N × Option NodeFault) → i < length vs → is_dead plan.dead kinds i ≡ false → Rests number stands at_rest_as (slice_index_or ws i b) (made_by i h)) where
    some : 0 < length vs
    some = omega (arith, count)

    abbrev one_left : N × Option NodeFault
    one_left = some_of ws (omega (arith, some, len))

    inside : (n : Node) → IsNode g n → node_number n < length vs
    inside n is = omega (arith, (numbers g).below n is, count)

    abbrev left_at : Node → N × Option NodeFault
    left_at n = slice_index_or ws (node_number n) one_left

    each : (n : Node) → IsNode g n → (u : StateOf n) × Ended g d h (left_at n) n u
    each n is = ended g d h n (slice_index_or vs (node_number n) (some_of vs some)) (left_at n) (down n is (some_of vs some)) (went (node_number n) (some_of vs some) one_left (inside n is))

    chosen : Chosen g StateOf (λ n u. Ended g d h (left_at n) n u) (down_over g d)
    chosen = choose g StateOf (λ n u. Ended g d h (left_at n) n u) (down_over g d) each

    all_walked : EachWalked g d h chosen.at
    all_walked = record {
      paths = λ n is. (chosen.holds n is).path;
      no_others = λ m none. others m (omega (arith, ends g m none, count));
    }

    whole : (es : List RunEntry) × IsRunOf g d h chosen.at es
    whole = law g d plan kinds h chosen.at aired all_walked

    -- a node that rests says so of its state in the system
    rests_here : (n : Node) (u : StateOf n) (w : N × Option NodeFault) → Ended g d h w n u → Rests number stands at_rest_as w (made_by (node_number n) h) → (any_phase (any_of n u) ≡ Idle) × any_rests (any_of n u) true
    rests_here n u w e r = (e.meant.phased ∙ e.phased r.whole ∙ r.up, e.meant.rested true (r.rests e.here e.at))

    rests_at : (n : Node) (u : StateOf n) → u.setting ≡ g → any_phase (any_of n u) ≡ Idle → any_rests (any_of n u) true → RestsAt g n u
    rests_at (Dispatcher s) u of_g up says =
        let l = up_live u up in
        subst (UpWith (λ x. dispatcher_at_rest x ≡ true)) (sym l.1) (sym (says l.0 l.1))
    rests_at (Server s) u of_g up says =
        let l = up_live u up in
        subst (UpWith (λ x. server_at_rest g x ≡ true)) (sym l.1) (ap (λ x. server_at_rest x l.0) (sym of_g) ∙ sym (says l.0 l.1))
    rests_at (Replica k) u of_g up says = tt
    rests_at (Joiner j) u of_g up says =
        let l = up_live u up in
        subst (UpWith (λ x. joiner_at_rest x ≡ true)) (sym l.1) (sym (says l.0 l.1))

    -- a dead replica has nothing to do, and no turn
    replica_rests : (n : Node) (u : StateOf n) (r : ℕ) → n ≡ Replica r → RestsAt g n u
    replica_rests (Replica k) u r is = tt
    replica_rests _ u r is = absurd (cc is)

    no_turn : (n : Node) (u : StateOf n) (mine : List Entry) → RowPath (rows_of n) (down_over g d n) mine u → mine ≡ [] → any_phase (any_of n u) ≢ Busy
    no_turn n u [] path none busy = absurd (cc (sym (down_phase g d n 0) ∙ ap (λ x. any_phase (any_of n x)) path ∙ busy))
    no_turn n u (e ∷ es) path none busy = absurd (cc none)

    abbrev gone : (n : Node) → Bool
    gone n = is_dead plan.dead kinds (node_number n)

    rest_of : IsTrue rest → (n : Node) → IsNode g n → (b : Bool) → gone n ≡ b → RestsAt g n (chosen.at n) × (any_phase (any_of n (chosen.at n)) ≢ Busy)
    rest_of r n is true e = (
      (let replica = dead n is e in replica_rests n (chosen.at n) replica.0 replica.1),
      no_turn n (chosen.at n) (made_by (node_number n) h) (chosen.holds n is).path (silent plan kinds h aired (node_number n) e),
    )
    rest_of r n is false e =
        let rests = rests_here n (chosen.at n) (left_at n) (chosen.holds n is) (rested r (node_number n) one_left (inside n is) e) in
        let of_g = (whole.1.stands n is).setting in
        (rests_at n (chosen.at n) of_g rests.0 rests.1, λ busy. absurd (cc (sym rests.0 ∙ busy)))

    -- whatever stands for a node that isn't there
    left_is : (n : Node) → IsNode g n → (c : N × Option NodeFault) → left_at n ≡ slice_index_or ws (node_number n) c
    left_is n is c = get_or_default ws (node_number n) one_left c (omega (arith, inside n is, len))

    -- what a run leaves of all nodes is a run from what they were opened over
    pub runs_from : IsRunFrom places g d h ws rest
    runs_from =
        record {
          at = chosen.at;
          entries = whole.0;
          run = whole.1;
          stand = λ n is c.
              let e = chosen.holds n is in
              subst (λ (x : N × Option NodeFault). places x.0 (any_of n (chosen.at n))) (left_is n is c) (e.meant.placed (left_at n).0 e.at);
          at_rest = λ r. rest_law g d h chosen.at whole.0 whole.1 (λ n is. (rest_of r n is (gone n) refl).0);
          whole = λ n is c disk place told. (chosen.holds n is).whole disk place (ap (λ (x : N × Option NodeFault). x.1) (left_is n is c) ∙ told);
          spent = λ n is c epoch told.
              let e = chosen.holds n is in
              comes_to_last g d h n (chosen.at n) epoch e.path (e.spent epoch (ap (λ (x : N × Option NodeFault). x.1) (left_is n is c) ∙ told));
          closed = λ r n is. (rest_of r n is (gone n) refl).1;
          still = λ r n is last. (rest_of r n is (gone n) refl).1 (open_at g d n (chosen.at n) (made_by (node_number n) h) (chosen.holds n is).path last);
        }

-- how many nodes there are
pub kinds_count : (joiners replicas : ℕ) (kinds : List Kind) → kinds ≡ kinds_of joiners replicas → length kinds ≡ 4 + replicas + 2 * joiners
kinds_count joiners replicas kinds are = omega (arith, ap length are, length-append (kind.Dispatcher ∷ kind.Dispatcher ∷ kind.Server ∷ kind.Server ∷ [] ++ replicate replicas kind.Replica) (replicate (2 * joiners) kind.Joiner), length-append (kind.Dispatcher ∷ kind.Dispatcher ∷ kind.Server ∷ kind.Server ∷ []) (replicate replicas kind.Replica), length-replicate replicas kind.Replica, length-replicate (2 * joiners) kind.Joiner)

-- joiners are behind the replicas
are_joiners : (joiners replicas i : ℕ) → 4 + replicas ≤ i → i < 4 + replicas + 2 * joiners → kind_at (kinds_of joiners replicas) i ≡ kind.Joiner
are_joiners joiners replicas i low high =
    get_or-append_right (kind.Dispatcher ∷ kind.Dispatcher ∷ kind.Server ∷ kind.Server ∷ replicate replicas kind.Replica) (replicate (2 * joiners) kind.Joiner) (4 + replicas) i kind.Dispatcher (omega (arith, length-replicate replicas kind.Replica)) low
    ∙ get_or-replicate (2 * joiners) (i - (4 + replicas)) kind.Joiner kind.Dispatcher (omega (arith, low, high))

is_one : (g : Setting) (n : Node) → IsNode g n → is_replica (kind_at (kinds_of g.config.joiners g.config.replicas) (node_number n)) ≡ true → (r : ℕ) × (n ≡ Replica r)
is_one g (Dispatcher (suc (suc s))) is at = absurd (omega (arith, is))
is_one g (Server (suc (suc s))) is at = absurd (omega (arith, is))
is_one g (Replica r) is at = (r, refl)
is_one g (Joiner j) is at = absurd (cc (sym (ap is_replica (are_joiners g.config.joiners g.config.replicas j is.0 is.1)) ∙ at))
is_one g _ is at = absurd (cc at)

-- whoever is dead is a replica
pub dead_replicas : (g : Setting) (plan : PlanView) (kinds : List Kind) → kinds ≡ kinds_of g.config.joiners g.config.replicas → DeadAreReplicas g plan kinds
dead_replicas g plan kinds are n is gone = is_one g n is (subst (λ ks. is_replica (kind_at ks (node_number n)) ≡ true) are (and_parts _ _ gone).1)
