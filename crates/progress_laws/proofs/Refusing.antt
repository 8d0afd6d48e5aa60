-- Where more than half of the replicas take part, each attempt ends in an interval in which nothing is done.
use Rattle.std.proofs.Common.{◌≡◌, ◌⊎◌, inl, inr, ⊎_elim, ℕ, suc, ◌<◌, ◌≤◌, Bool, true, false, ◌||◌, nat_lt, List, ◌∷◌, length, Some, None, refl, sym, ap, ◌∙◌, subst, arith, [], Option, not, is_some, slice_get}
use Rattle.progress_laws.proofs.Words.{true≢false, or_left, Ballot, marked, Majority, Batch, same_batch, bound_of, Place, Prepared, on_prepare, on_accept, Grant, Refuse, Phase, Promising, Accepting, Ended, Mem, some_same, Setting, shards, Out, is_empty, Packet, Node, Server, Replica, Only, Input, Tick, Deliver, Sent, ServerKept, ServerLive, Proposal, first_shard, is_free, shard_unfinished, server_unfinished, server_turn, ReplicaKept, cell_at, prepared, taken, replica_turn, IfUp, World, Entry, Disks, server_row, after, world_after, opening, if_up, is_unfinished, first_none, IsIdle, next_of, slice_get_within, up_is}
use Rattle.progress_laws.proofs.Moments.{opened_at, IsEnd, Step, along_idle, Pending, comes, SitesUp, turned, ended_own, lives, up_after, sites_up, by_turn, goes, row_sent_to}
use Rattle.progress_laws.proofs.Phases.{IsOpen, IfOpen, AreOpen, question, IsAnswer, HasMark}
use Rattle.progress_laws.proofs.Asking.{Counts, answer_counts, tick_asks}
use Rattle.progress_laws.proofs.Turning.{AsksAll, IsKept, AllFollow, LiveOpen, turns}
use Rattle.progress_laws.proofs.Lasting.{lasts, after_run}

-- the question is underway to a replica
abbrev IsAsked : World → List Sent → List Entry → ℕ → ℕ → Place → Ballot → Phase Batch → Type 0
IsAsked w air es s r at b y = Pending w air es (Replica r) (Deliver (Server s) (question at b y))

-- its answer is underway to the server
abbrev IsAnswered : World → List Sent → List Entry → ℕ → ℕ → Place → Ballot → Phase Batch → Type 0
IsAnswered w air es s r at b y = (q : Packet) × IsAnswer at b y q × Pending w air es (Server s) (Deliver (Replica r) q)

module _ (g : Setting) (dead : ℕ → Bool) (w : World) (air : List Sent) (es : List Entry) where
  -- With a replica an attempt goes on: it is counted, or the question is underway to it, or its answer to the server, or the
  -- server has a Tick.
  abbrev pub AttemptGoesOn : ℕ → Place → Proposal → ℕ → Type 0
  AttemptGoesOn s at p r = (HasMark r p.phase ⊎ IsAsked w air es s r at p.ballot p.phase) ⊎ (IsAnswered w air es s r at p.ballot p.phase ⊎ Pending w air es (Server s) Tick)

  -- Servers and replicas that take part are up, and each attempt at a shard of the table goes on with each such replica.
  pub record AttemptsGoOn : Type 0 where
    pub servers : SitesUp w
    pub replicas : (r : ℕ) → r < g.config.replicas → dead r ≡ false → (u : Unit {0}) × ((w.replicas r).live ≡ Some u)
    pub open_ : AreOpen g w
    pub each :
        (s : ℕ) → s < 2 → (l : ServerLive) → (w.servers s).live ≡ Some l → (k : ℕ) → k < shards g → (p : Proposal) → (l.shards k).proposal ≡ Some p →
        (r : ℕ) → r < g.config.replicas → dead r ≡ false → AttemptGoesOn s (next_of k (l.shards k)) p r

-- ---- each attempt is open

turn_open : (g : Setting) (s : ℕ) (k : ServerKept) (l : ServerLive) → LiveOpen g s k l l → (i : Input) → LiveOpen g s k l (server_turn g s k l i).live
turn_open g s k l h i = (turns g s k l i).opens h

pub every_attempt_open : (g : Setting) (d : Disks) (es : List Entry) → AreOpen g (world_after g (opening d) es)
every_attempt_open g = after_run g (λ st. IfOpen g.config.replicas st.proposal) tt (turn_open g)

-- ---- a replica answers each question

prepare_answers : (at : Place) (b : Ballot) (marks : List Bool) (best : Option (Ballot × Batch)) (t : Prepared Batch) → IsAnswer at b (Promising marks best) (prepared at b t)
prepare_answers at b marks best (Grant prior) = inl (prior, refl)
prepare_answers at b marks best (Refuse c) = inr (c, refl)

replica_answers : (n : ℕ) (k : ReplicaKept) (from : Node) (at : Place) (b : Ballot) (y : Phase Batch) → IsOpen n y → (q : Packet) × IsAnswer at b y q × Mem (Only from, q) (replica_turn k (Deliver from (question at b y))).packets
replica_answers n k from at b (Promising marks best) o = (prepared at b (on_prepare (cell_at k at) b).1, prepare_answers at b marks best (on_prepare (cell_at k at) b).1, inl refl)
replica_answers n k from at b (Accepting v marks) o = (taken at b (on_accept same_batch (cell_at k at) b v).1, (grind arith), inl refl)
replica_answers n k from at b Ended o = absurd o

module _ {g : Setting} {dead : ℕ → Bool} {w : World} {air next : List Sent} {e : Entry} {es : List Entry} (step : Step g dead w air next e es) where
  -- a replica's open question is answered
  question_moves : (s r : ℕ) (at : Place) (b : Ballot) (y : Phase Batch) → IsOpen g.config.replicas y → (u : Unit {0}) → (w.replicas r).live ≡ Some u → IsAsked w air (e ∷ es) s r at b y → IsAsked (after g w e) next es s r at b y ⊎ IsAnswered (after g w e) next es s r at b y
  question_moves s r at b y o u up asked =
      goes step (Replica r) (Deliver (Server s) (question at b y)) asked (λ k. inl k)
      (λ end opened.
      let a = replica_answers g.config.replicas (w.replicas r).kept (Server s) at b y o in
      inr (a.0, a.1, row_sent_to step (Replica r) end (Server s) a.0 (subst (λ (x : Out (Unit {0})). Mem (Only (Server s), a.0) x.packets) (sym (turned g w (Replica r) u (Deliver (Server s) (question at b y)) up opened)) a.2) refl))

  -- ---- a server's turn

  module _ (h : AttemptsGoOn g dead w air (e ∷ es)) (s : ℕ) (lt : s < 2) (l : ServerLive) (up : (w.servers s).live ≡ Some l) (k : ℕ) (below : k < shards g) (r : ℕ) (is : r < g.config.replicas) (live : dead r ≡ false) where
    abbrev r_out : Out ServerLive
    r_out = server_row g s (w.servers s)

    -- a proposal of the row goes on
    abbrev RowGoesOn : Proposal → Type 0
    RowGoesOn p = AttemptGoesOn g dead (after g w e) next es s (next_of k (r_out.live.shards k)) p r

    opens_of : (p : Proposal) → (l.shards k).proposal ≡ Some p → IsOpen g.config.replicas p.phase
    opens_of p q = subst (IfOpen g.config.replicas) q (subst (IfUp (λ (l : ServerLive). (k : ℕ) → IfOpen g.config.replicas (l.shards k).proposal)) up (h.open_ s) k)

    asked_all : IsEnd e (Server s) → (p : Proposal) → AsksAll g s (w.servers s).kept l k (r_out.live.shards k) p r_out.packets → RowGoesOn p
    asked_all end p all = inl (inr (row_sent_to step (Server s) end (Replica r) (question (next_of k (r_out.live.shards k)) p.ballot p.phase) (all r is) live))

    -- the attempt goes on, unless the server's turn ends; then this is what becomes of it
    unless_ended : (p : Proposal) → (l.shards k).proposal ≡ Some p → {X : Type 0} → (AttemptGoesOn g dead (after g w e) next es s (next_of k (l.shards k)) p r → X) → (IsEnd e (Server s) → ((q : Packet) × IsAnswer (next_of k (l.shards k)) p.ballot p.phase q × (opened_at w (Server s) ≡ Some (Deliver (Replica r) q))) ⊎ (opened_at w (Server s) ≡ Some Tick) → X) → X
    unless_ended p stands {X} still ended = go (h.each s lt l up k below p stands r is live)
      where
        go : AttemptGoesOn g dead w air (e ∷ es) s (next_of k (l.shards k)) p r → X
        go (inl (inl m)) = still (inl (inl m))
        go (inl (inr u)) = let v = h.replicas r is live in ⊎_elim (λ y. still (inl (inr y))) (λ y. still (inr (inl y))) (question_moves s r (next_of k (l.shards k)) p.ballot p.phase (opens_of p stands) v.0 v.1 u)
        go (inr (inl (q, a, u))) = goes step (Server s) (Deliver (Replica r) q) u (λ y. still (inr (inl (q, a, y)))) (λ end o. ended end (inl (q, a, o)))
        go (inr (inr t)) = goes step (Server s) Tick t (λ y. still (inr (inr y))) (λ end o. ended end (inr o))

    -- the turn took an answer to the attempt, or a Tick
    took : IsEnd e (Server s) → (old : Proposal) (stands : (l.shards k).proposal ≡ Some old) → ((q : Packet) × IsAnswer (next_of k (l.shards k)) old.ballot old.phase q × (opened_at w (Server s) ≡ Some (Deliver (Replica r) q))) ⊎ (opened_at w (Server s) ≡ Some Tick) → (p : Proposal) → (r_out.live.shards k).proposal ≡ Some p → RowGoesOn p
    took end old stands (inl (q, a, o)) p now =
        ⊎_elim (λ all. asked_all end p all) (λ m. inl (inl m))
        (subst (λ (x : Out ServerLive). Counts g s (w.servers s).kept l k below old stands (opens_of old stands) r x) (sym (turned g w (Server s) l (Deliver (Replica r) q) up o)) (answer_counts g s (w.servers s).kept l k below old stands (opens_of old stands) r is q a) p now)
    took end old stands (inr o) p now = asked_all end p (subst (λ (x : Out ServerLive). (x.live.shards k).proposal ≡ Some p → AsksAll g s (w.servers s).kept l k (x.live.shards k) p x.packets) (sym (turned g w (Server s) l Tick up o)) (λ q. tick_asks g s (w.servers s).kept l k below p q (opens_of p q)) now)

    -- what becomes of it in the server's turn
    ended : IsEnd e (Server s) → (p : Proposal) → (r_out.live.shards k).proposal ≡ Some p → RowGoesOn p
    ended end p now = ⊎_elim (λ all. asked_all end p all) kept ((by_turn step (Server s) l up end (AllFollow g s (w.servers s).kept l) (λ i _. (turns g s (w.servers s).kept l i).follows)) k p now)
      where
        kept : IsKept g s (w.servers s).kept l k (r_out.live.shards k) p → RowGoesOn p
        kept (old, stands, learned, ballot, goes) = unless_ended old stands still (λ end x. took end old stands x p now)
          where
            at_is : next_of k (l.shards k) ≡ next_of k (r_out.live.shards k)
            at_is = ap (λ (vs : List Batch). record { shard = k; slot = length vs }) (sym learned)

            still : AttemptGoesOn g dead (after g w e) next es s (next_of k (l.shards k)) old r → RowGoesOn p
            still (inl (inl m)) = inl (inl (goes.marks r m))
            still (inl (inr u)) = inl (inr (subst (λ (q : Packet). Pending (after g w e) next es (Replica r) (Deliver (Server s) q)) (ap (λ a. question a old.ballot old.phase) at_is ∙ ap (λ b. question (next_of k (r_out.live.shards k)) b old.phase) (sym ballot) ∙ goes.asks (next_of k (r_out.live.shards k)) p.ballot) u))
            still (inr (inl (q, a, u))) = inr (inl (q, goes.hears (next_of k (r_out.live.shards k)) p.ballot q (subst (λ b. IsAnswer (next_of k (r_out.live.shards k)) b old.phase q) (sym ballot) (subst (λ at. IsAnswer at old.ballot old.phase q) at_is a)), u))
            still (inr (inr t)) = inr (inr t)

  pub attempts_go_on : AttemptsGoOn g dead w air (e ∷ es) → AttemptsGoOn g dead (after g w e) next es
  attempts_go_on h =
      record {
        servers = sites_up step h.servers;
        replicas = λ r lt live. let u = h.replicas r lt live in up_after step (Replica r) u.0 u.1;
        open_ = (lasts g (λ st. IfOpen g.config.replicas st.proposal) tt (turn_open g)) w e h.open_;
        each = λ s lt l now k below p stands r is live.
            let u = h.servers s lt in
            let at_end : IsEnd e (Server s) → AttemptGoesOn g dead (after g w e) next es s (next_of k (l.shards k)) p r = λ end. (
            let l_is : (server_row g s (w.servers s)).live ≡ l = some_same _ l (sym (ended_own g w e (Server s) end) ∙ now) in
            subst (λ (m : ServerLive). (m.shards k).proposal ≡ Some p → AttemptGoesOn g dead (after g w e) next es s (next_of k (m.shards k)) p r) l_is (ended h s lt u.0 u.1 k below r is live end p) stands
            ) in
            lives step (Server s) (λ same. unless_ended h s lt l (sym same ∙ now) k below r is live p stands (λ y. y) (λ end _. at_end end)) (λ end _. at_end end);
      }

-- ---- along an interval

some_found : (test : ℕ → Bool) (n k : ℕ) → k < n → test k ≡ true → is_some (first_shard test 0 n) ≡ true
some_found test n k b t = go (first_shard test 0 n) refl
  where
    go : (o : Option ℕ) → first_shard test 0 n ≡ o → is_some o ≡ true
    go (Some x) e = refl
    go None e = absurd (true≢false (sym t ∙ first_none test 0 n e k (omega arith) (omega arith)))

-- a server with such a shard is unfinished
pub unfinished_at : (g : Setting) (w : World) (s : ℕ) (l : ServerLive) → (w.servers s).live ≡ Some l → (k : ℕ) → k < shards g → shard_unfinished g (l.shards k) ≡ true → is_unfinished g w (Server s) ≡ true
unfinished_at g w s l up k below t = ap (λ (o : Option ServerLive). if_up (server_unfinished g) o) up ∙ some_found (λ k. shard_unfinished g (l.shards k)) (shards g) k below t

more_marked : (xs ys : List Bool) → length xs ≡ length ys → ((r : ℕ) → slice_get xs r ≡ Some true → slice_get ys r ≡ Some true) → marked xs ≤ marked ys
more_marked [] ys e h = omega arith
more_marked (x ∷ xs) [] e h = absurd (omega (arith, e))
more_marked (x ∷ xs) (y ∷ ys) e h = go x y (h 0) (more_marked xs ys (omega (arith, e)) (λ r q. h (suc r) q))
  where
    go : (x y : Bool) → (Some x ≡ Some true → Some y ≡ Some true) → marked xs ≤ marked ys → marked (x ∷ xs) ≤ marked (y ∷ ys)
    go x y f le = grind arith

module _ (g : Setting) (dead : ℕ → Bool) (w : World) (es : List Entry) (most : Majority g.config.replicas (λ r. dead r ≡ false)) (i : IsIdle g dead w es) where
  unfinished : (s : ℕ) (l : ServerLive) → (w.servers s).live ≡ Some l → (k : ℕ) → k < shards g → (p : Proposal) → (l.shards k).proposal ≡ Some p → is_unfinished g w (Server s) ≡ true
  unfinished s l up k below p stands = unfinished_at g w s l up k below (or_left (not (is_free (l.shards k).proposal) || (l.shards k).held) (not (is_empty (l.shards k).queue) || nat_lt (bound_of (l.shards k).learned) g.config.horizon) (or_left (not (is_free (l.shards k).proposal)) (l.shards k).held (ap (λ o. not (is_free o)) stands)))

  begins : AreOpen g w → AttemptsGoOn g dead w [] es
  begins o =
      record {
        servers = λ s lt. let u = up_is _ (w.servers s).live (i.interval.starts.servers s lt).1 in (u.0, u.1);
        replicas = λ r lt live. let u = up_is _ (w.replicas r).live (i.interval.starts.replicas r lt live).1 in (u.0, u.1);
        open_ = o;
        each = λ s lt l up k below p stands r is live. inr (inr (comes g dead w es i.interval (Server s) lt (unfinished s l up k below p stands)));
      }

  abbrev v : World
  v = world_after g w es

  ends : AreOpen g w → AttemptsGoOn g dead v [] []
  ends o = along_idle g dead (AttemptsGoOn g dead) (λ w air next e es step. attempts_go_on step) es w i (begins o)

  -- at the quiet end each replica that takes part is counted, so a majority is
  no_majority : (p : Proposal) → IsOpen g.config.replicas p.phase → ((r : ℕ) → r < g.config.replicas → dead r ≡ false → HasMark r p.phase) → ⊥
  no_majority p = grind (arith, more_marked, slice_get_within)

  pub no_attempt : AreOpen g w → (s : ℕ) → s < 2 → (l : ServerLive) → (v.servers s).live ≡ Some l → (k : ℕ) → k < shards g → (l.shards k).proposal ≡ None
  no_attempt o s lt l up k below = go (l.shards k).proposal refl
    where
      go : (x : Option Proposal) → (l.shards k).proposal ≡ x → x ≡ None
      go None e = refl
      go (Some p) e = absurd (no_majority p (subst (IfOpen g.config.replicas) e (subst (IfUp (λ (l : ServerLive). (k : ℕ) → IfOpen g.config.replicas (l.shards k).proposal)) up ((ends o).open_ s) k)) counted)
        where
          counted : (r : ℕ) → r < g.config.replicas → dead r ≡ false → HasMark r p.phase
          counted r is live = only ((ends o).each s lt l up k below p e r is live)
            where
              only : AttemptGoesOn g dead v [] [] s (next_of k (l.shards k)) p r → HasMark r p.phase
              only h = grind arith
