-- One entry of an interval in which nothing is done: what it makes of a node, and of what a node is to take.
use Rattle.std.proofs.Common.{◌≡◌, ◌⊎◌, inl, inr, ⊎_elim, ℕ, ◌<◌, Bool, true, false, List, [], ◌∷◌, ◌++◌, length, Some, None, refl, sym, ap, ◌∙◌, subst, arith, Option, filter, not}
use Rattle.progress_laws.proofs.Words.{cond_both, cond-true, not-true, length-filter, Mem, Each, each_at, mem_left, mem_right, mem_split, none_some, some_same, Setting, IsNode, IsTo, Packet, Node, Dispatcher, Server, Replica, Joiner, To, Only, Input, Start, Own, Tick, Deliver, Sent, Note, Out, land, ServerLive, World, Entry, Begin, End, Stop, begun, ended, row, sends, after, world_after, May, IsTurn, IsRun, same_node, put_in, is_tick_of, ticks_due, is_unfinished, is_out, to_live, IsQuiet, IsInterval, Carries, BothUp, DispatcherWorks, JoinerWorks, ServerWorks, IsWork, KeptOf, LiveOf, at_node, land_at, start_at, turn_at, row_of, addressed, sent_addressed, same_node-self, own_one, HasNumbers, IsWithinLimits, NoWork, IsIdle}
use Rattle.photon_model.proofs.Words.{Cell}
pub use Rattle.photon_model.proofs.Worlds.{opened_at}

-- ---- a node, of whatever kind

abbrev pub row_at : Setting → World → (n : Node) → Out (LiveOf n)
row_at g w n = row_of g n (at_node w n)

abbrev pub WorksAt : (n : Node) → Option Note → LiveOf n → LiveOf n → Type 0
WorksAt (Dispatcher s) o a b = DispatcherWorks a b o
WorksAt (Server s) o a b = ServerWorks a b
WorksAt (Replica r) o a b = ⊥
WorksAt (Joiner j) o a b = JoinerWorks a b

-- ---- what an entry makes of a node

-- the entry is an End of the node
abbrev pub IsEnd : Entry → Node → Type 0
IsEnd e n = (o : Option Note) × (ps : List (Node × Packet)) × (kept : ℕ) × (e ≡ End n o ps kept)

module _ (g : Setting) (w : World) where
  pub begun_own : (n : Node) (i : Input) → at_node (after g w (Begin n i)) n ≡ begun (at_node w n) i
  begun_own n i = own_one g w n (Begin n i) ∙ cond-true (same_node n n) _ _ (same_node-self n)

  -- what an End leaves its node
  pub ended_own : (e : Entry) (n : Node) → IsEnd e n → (at_node (after g w e) n).live ≡ Some (row_at g w n).live
  ended_own e n (o, ps, kept, q) = ap (λ x. (at_node (after g w x) n).live) q ∙ ap (λ (c : Cell (KeptOf n) (LiveOf n)). c.live) (own_one g w n (End n o ps kept) ∙ cond-true (same_node n n) _ _ (same_node-self n))

  -- the row of a node that is up, with its open turn's input
  pub turned : (n : Node) (l : LiveOf n) (i : Input) → (at_node w n).live ≡ Some l → opened_at w n ≡ Some i → row_at g w n ≡ turn_at g n (at_node w n).kept l i
  turned n l i up o = ap (λ x. row (start_at n) (turn_at g n) (at_node w n).kept x (at_node w n).opened) up ∙ ap (λ x. row (start_at n) (turn_at g n) (at_node w n).kept (Some l) x) o

  is_work : (n : Node) (l : LiveOf n) → (at_node w n).live ≡ Some l → (o : Option Note) (ps : List (Node × Packet)) (kept : ℕ) → WorksAt n o l (row_at g w n).live → IsWork g w (End n o ps kept)
  is_work n l up o ps kept works = go n l (both (WorksAt n o) _ _ l _ up (ended_own (End n o ps kept) n (o, ps, kept, refl)) works) works
    where
      both : {L : Type 0} (R : L → L → Type 0) (x y : Option L) (a b : L) → x ≡ Some a → y ≡ Some b → R a b → BothUp R x y
      both R x y a b p q r = subst (λ z. BothUp R z y) (sym p) (subst (λ z. BothUp R (Some a) z) (sym q) r)

      go : (n : Node) (l : LiveOf n) → BothUp (WorksAt n o) (at_node w n).live (at_node (after g w (End n o ps kept)) n).live → WorksAt n o l (row_at g w n).live → IsWork g w (End n o ps kept)
      go (Replica r) l b works = works
      go _ l b works = b

-- ---- one entry of an interval

-- what is on its way after one more entry
abbrev pub CarriesOne : (ℕ → Bool) → List Sent → Entry → List Sent → Type 0
CarriesOne dead air (Begin n (Deliver from p)) next = put_in (record { from = from; to = n; packet = p }) next air
CarriesOne dead air (Begin n i) next = next ≡ air
CarriesOne dead air (End n _ ps kept) next = next ≡ filter (to_live dead) (sends n ps) ++ air
CarriesOne dead air (Stop n landed) next = ⊥

-- it may come, what is on its way goes on, it is no work, and numbers can grow before it
pub record Step (g : Setting) (dead : ℕ → Bool) (w : World) (air next : List Sent) (e : Entry) (es : List Entry) : Type 0 where
  pub may : May g w e
  pub carries : CarriesOne dead air e next
  pub idle : IsWork g w e → ⊥
  pub limits : HasNumbers g w

-- what each entry of an interval keeps holds at its end, if nothing is done in it
pub along_idle : (g : Setting) (dead : ℕ → Bool) (P : World → List Sent → List Entry → Type 0) → ((w : World) (air next : List Sent) (e : Entry) (es : List Entry) → Step g dead w air next e es → P w air (e ∷ es) → P (after g w e) next es) → (es : List Entry) (w : World) → IsIdle g dead w es → P w [] es → P (world_after g w es) [] []
along_idle g dead P step es w i p = go es w [] i.run i.interval.carries i.limits i.no_work p
  where
    one : (air : List Sent) (e : Entry) (es : List Entry) → Carries dead air (e ∷ es) → (next : List Sent) × CarriesOne dead air e next × Carries dead next es
    one air e es c = grind arith

    go : (es : List Entry) (w : World) (air : List Sent) → IsRun g w es → Carries dead air es → IsWithinLimits g w es → NoWork g w es → P w air es → P (world_after g w es) [] []
    go [] w air r c l n p = subst (λ a. P w a []) c p
    go (e ∷ es) w air r c l n p = let o = one air e es c in go es (after g w e) o.0 r.1 o.2 l.1 n.1 (step w air o.0 e es (record { may = r.0; carries = o.1; idle = n.0; limits = l.0 }) p)

-- ---- what a node is to take

-- a packet that is on its way to it, or a Tick that is to come
abbrev pub IsDue : List Sent → List Entry → Node → Input → Type 0
IsDue air es n (Deliver from p) = Mem (record { from = from; to = n; packet = p }) air
IsDue air es n Tick = Mem (Begin n Tick) es
IsDue air es n Start = ⊥
IsDue air es n Own = ⊥

-- or its open turn took it
abbrev pub Pending : World → List Sent → List Entry → Node → Input → Type 0
Pending w air es n i = IsDue air es n i ⊎ (opened_at w n ≡ Some i)

-- the entry sends it to a node that takes part
abbrev pub IsSent : (ℕ → Bool) → Entry → Sent → Type 0
IsSent dead e x = (n : Node) × (o : Option Note) × (ps : List (Node × Packet)) × (kept : ℕ) × (e ≡ End n o ps kept) × Mem x (sends n ps) × (is_out dead x.to ≡ false)

module _ (dead : ℕ → Bool) (x : Sent) where
  passing : (xs : List Sent) → Mem x xs → to_live dead x ≡ true → Mem x (filter (to_live dead) xs)
  passing [] m t = absurd m
  passing (y ∷ xs) m t = grind (arith, passing xs)

  passed : (xs : List Sent) → Mem x (filter (to_live dead) xs) → Mem x xs × (to_live dead x ≡ true)
  passed [] m = absurd m
  passed (y ∷ xs) m = grind (arith, passed xs)

  -- an element of a list stays, but for the one taken out
  put_out : (y : Sent) (xs ys : List Sent) → put_in y xs ys → Mem x ys → (y ≡ x) ⊎ Mem x xs
  put_out y xs ys (front, back, a, b) m =
      ⊎_elim (λ l. inr (subst (Mem x) (sym a) (mem_left x front back l)))
      (λ r. ⊎_elim (λ e. inl e) (λ k. inr (subst (Mem x) (sym a) (mem_right x front back k))) r)
      (mem_split x front (y ∷ back) (subst (Mem x) b m))

  pub put_back : (y : Sent) (xs ys : List Sent) → put_in y xs ys → (y ≡ x) ⊎ Mem x xs → Mem x ys
  put_back y xs ys (front, back, a, b) (inl e) = subst (Mem x) (sym b) (mem_right x front (y ∷ back) (inl e))
  put_back y xs ys (front, back, a, b) (inr m) = subst (Mem x) (sym b) (⊎_elim (λ l. mem_left x front (y ∷ back) l) (λ r. mem_right x front (y ∷ back) (inr r)) (mem_split x front back (subst (Mem x) a m)))

  air_stays : (air next : List Sent) (e : Entry) → CarriesOne dead air e next → Mem x air → Mem x next ⊎ (e ≡ Begin x.to (Deliver x.from x.packet))
  air_stays air next (Begin n (Deliver from p)) c m = ⊎_elim (λ s. inr (ap (λ (y : Sent). Begin y.to (Deliver y.from y.packet)) s)) (λ k. inl k) (put_out _ next air c m)
  air_stays air next (Begin n _) c m = inl (subst (Mem x) (sym c) m)
  air_stays air next (End n _ ps kept) c m = inl (subst (Mem x) (sym c) (mem_right x (filter (to_live dead) (sends n ps)) air m))
  air_stays air next (Stop n landed) c m = absurd c

  was_in_air : (air next : List Sent) (e : Entry) → CarriesOne dead air e next → Mem x next → Mem x air ⊎ IsSent dead e x
  was_in_air air next (Begin n (Deliver from p)) c m = inl (put_back _ next air c (inr m))
  was_in_air air next (Begin n _) c m = inl (subst (Mem x) c m)
  was_in_air air next (End n o ps kept) c m =
      ⊎_elim (λ k. let h = passed (sends n ps) k in inr (n, o, ps, kept, refl, h.0, not-true (is_out dead x.to) h.1)) (λ k. inl k)
      (mem_split x (filter (to_live dead) (sends n ps)) air (subst (Mem x) c m))
  was_in_air air next (Stop n landed) c m = absurd c

-- where a node that takes part stands quiet, no turn is open, and it is to take nothing
pub quiet_closed : (g : Setting) (dead : ℕ → Bool) (w : World) → IsQuiet g dead w → (n : Node) → IsNode g n → is_out dead n ≡ false → opened_at w n ≡ None
quiet_closed g dead w q (Dispatcher s) is live = (q.dispatchers s is).0
quiet_closed g dead w q (Server s) is live = (q.servers s is).0
quiet_closed g dead w q (Replica r) is live = (q.replicas r is live).0
quiet_closed g dead w q (Joiner j) is live = (q.joiners j is).0

-- a node that is unfinished where an interval begins has a Tick
pub comes : (g : Setting) (dead : ℕ → Bool) (w : World) (es : List Entry) → IsInterval g dead w es → (n : Node) → IsNode g n → is_unfinished g w n ≡ true → Pending w [] es n Tick
comes g dead w es i n is u = let one : length (filter (is_tick_of n) es) ≡ 1 = length-filter (is_tick_of n) es ∙ i.ticks n is ∙ ap ticks_due u in inl (some_tick es (omega (arith, one)))
  where
    is_tick : (e : Entry) → is_tick_of n e ≡ true → e ≡ Begin n Tick
    is_tick e t = grind arith

    some_tick : (es : List Entry) → 0 < length (filter (is_tick_of n) es) → Mem (Begin n Tick) es
    some_tick [] h = absurd (omega arith)
    some_tick (e ∷ es) h = grind (arith, cond_both, some_tick es)

-- both servers are up
abbrev pub SitesUp : World → Type 0
SitesUp w = (s : ℕ) → s < 2 → (l : ServerLive) × ((w.servers s).live ≡ Some l)

module _ {g : Setting} {dead : ℕ → Bool} {w : World} {air next : List Sent} {e : Entry} {es : List Entry} (step : Step g dead w air next e es) where
  -- nothing, or its turn begins or ends
  cell_after : (n : Node) (P : Cell (KeptOf n) (LiveOf n) → Type 0) → P (at_node w n) → ((i : Input) → e ≡ Begin n i → P (begun (at_node w n) i)) → ((o : Option Note) (ps : List (Node × Packet)) (kept : ℕ) → e ≡ End n o ps kept → P (ended (land_at n) (at_node w n) o (row_at g w n).live)) → P (at_node (after g w e) n)
  cell_after n P same begins ends = grind (arith, own_one)

  -- a node knows what it knew, or what its row says
  pub lives : {X : Type 0} (n : Node) → ((at_node (after g w e) n).live ≡ (at_node w n).live → X) → (IsEnd e n → (at_node (after g w e) n).live ≡ Some (row_at g w n).live → X) → X
  lives {X} n same ended = cell_after n (λ c. (c.live ≡ (at_node w n).live → X) → (IsEnd e n → c.live ≡ Some (row_at g w n).live → X) → X) (λ s _. s refl) (λ i q s _. s refl) (λ o ps kept q _ d. d (o, ps, kept, q) refl) same ended

  pub up_after : (n : Node) (l : LiveOf n) → (at_node w n).live ≡ Some l → (m : LiveOf n) × ((at_node (after g w e) n).live ≡ Some m)
  up_after n l up = lives n (λ same. (l, same ∙ up)) (λ end now. ((row_at g w n).live, now))

  pub sites_up : SitesUp w → SitesUp (after g w e)
  sites_up up s lt = let u = up s lt in up_after (Server s) u.0 u.1

  -- what its End may be: that of the open turn, with its row's note and packets
  pub ends : (n : Node) (end : IsEnd e n) → IsNode g n × IsTurn g (at_node w n) (row_at g w n) end.0 end.1
  ends n (o, ps, kept, q) = let m : May g w (End n o ps kept) = subst (May g w) q step.may in (m.0, m.1)

  -- what a node's disk holds: the same, or its row's note besides
  pub kept_after : (n : Node) → ((at_node (after g w e) n).kept ≡ (at_node w n).kept) ⊎ (IsEnd e n × ((at_node (after g w e) n).kept ≡ land (land_at n) (row_at g w n).note (at_node w n).kept))
  kept_after n =
      cell_after n (λ c. (c.kept ≡ (at_node w n).kept) ⊎ (IsEnd e n × (c.kept ≡ land (land_at n) (row_at g w n).note (at_node w n).kept))) (inl refl) (λ i q. inl refl)
      (λ o ps kept q. inr ((o, ps, kept, q), ap (λ x. land (land_at n) x (at_node w n).kept) (ends n (o, ps, kept, q)).1.1))

  -- a row's cases, where its turn ends
  pub by_row : (n : Node) → IsEnd e n → (P : Out (LiveOf n) → Type 0) → ((at_node w n).live ≡ None → P (start_at n (at_node w n).kept)) → ((l : LiveOf n) → (at_node w n).live ≡ Some l → (i : Input) → opened_at w n ≡ Some i → P (turn_at g n (at_node w n).kept l i)) → P (row_at g w n)
  by_row n end P starts turns = grind arith

  pub by_turn : (n : Node) (l : LiveOf n) → (at_node w n).live ≡ Some l → IsEnd e n → (P : Out (LiveOf n) → Type 0) → ((i : Input) → opened_at w n ≡ Some i → P (turn_at g n (at_node w n).kept l i)) → P (row_at g w n)
  by_turn n l up end P each = let i = (ends n end).1.0 in subst P (sym (turned g w n l i.0 up i.1)) (each i.0 i.1)

  -- the row of the turn that ends is no work
  pub no_work : (n : Node) (l : LiveOf n) → (at_node w n).live ≡ Some l → IsEnd e n → ((o : Option Note) → WorksAt n o l (row_at g w n).live) → ⊥
  no_work n l up (o, ps, kept, q) works = step.idle (subst (IsWork g w) (sym q) (is_work g w n l up o ps kept (works o)))

  -- an open turn stays open until its End
  stays_open : (n : Node) (i : Input) → opened_at w n ≡ Some i → (opened_at (after g w e) n ≡ Some i) ⊎ (IsEnd e n × (opened_at w n ≡ Some i))
  stays_open n i o = cell_after n (λ c. (c.opened ≡ Some i) ⊎ (IsEnd e n × (opened_at w n ≡ Some i))) (inl o) (λ j q. let m : May g w (Begin n j) = subst (May g w) q step.may in none_some i (sym m.1.0 ∙ o)) (λ o' ps kept q. inr ((o', ps, kept, q), o))

  begins : (n : Node) (i : Input) → e ≡ Begin n i → opened_at (after g w e) n ≡ Some i
  begins n i q = ap (λ x. opened_at (after g w x) n) q ∙ ap (λ (c : Cell (KeptOf n) (LiveOf n)). c.opened) (begun_own g w n i)

  goes_on : (n : Node) (i : Input) → Pending w air (e ∷ es) n i → Pending (after g w e) next es n i ⊎ (IsEnd e n × (opened_at w n ≡ Some i))
  goes_on n i h = grind (arith, stays_open, begins, air_stays)

  -- what a node is to take it is still, or the entry ends the turn that took it
  pub goes : {X : Type 0} (n : Node) (i : Input) → Pending w air (e ∷ es) n i → (Pending (after g w e) next es n i → X) → (IsEnd e n → opened_at w n ≡ Some i → X) → X
  goes n i u still ended = ⊎_elim still (λ q. ended q.0 q.1) (goes_on n i u)

  -- a packet that is on its way after the entry was so before, or the entry sends it
  pub was_pending : (x : Sent) → Pending (after g w e) next es x.to (Deliver x.from x.packet) → Pending w air (e ∷ es) x.to (Deliver x.from x.packet) ⊎ IsSent dead e x
  was_pending x (inl m) = ⊎_elim (λ k. inl (inl k)) (λ k. inr k) (was_in_air dead x air next e step.carries m)
  was_pending x (inr o) =
      inl (cell_after x.to (λ c. c.opened ≡ Some i → Pending w air (e ∷ es) x.to i) (λ o. inr o)
      (λ j q o. inl (put_back dead x x next air (subst (λ (y : Entry). CarriesOne dead air y next) (q ∙ ap (Begin x.to) (some_same j i o)) step.carries) (inl refl)))
      (λ o ps kept q k. none_some i k) o)
    where
      i : Input
      i = Deliver x.from x.packet

  -- a packet of a row is to be taken after the End, where its node takes part
  pub row_sent : (n : Node) → IsEnd e n → (a : To × Packet) → Mem a (row_at g w n).packets → (to : Node) × IsTo g a.0 to × (is_out dead to ≡ false → Pending (after g w e) next es to (Deliver n a.1))
  row_sent n (o, ps, kept, q) a m =
      let s = addressed g n (row_at g w n).packets ps (ends n (o, ps, kept, q)).1.2 a m in
      (s.0, s.1, λ live. inl (subst (Mem _) (sym (subst (λ (x : Entry). CarriesOne dead air x next) q step.carries)) (mem_left _ (filter (to_live dead) (sends n ps)) air (passing dead _ (sends n ps) s.2 (ap not live)))))

  -- to one node
  pub row_sent_to : (n : Node) → IsEnd e n → (to : Node) (p : Packet) → Mem (Only to, p) (row_at g w n).packets → is_out dead to ≡ false → Pending (after g w e) next es to (Deliver n p)
  row_sent_to n end to p m live = grind (arith, row_sent)

  pub each_of_row : (P : Packet → Type 0) (n : Node) (end : IsEnd e n) → Each (λ (a : To × Packet). P a.1) (row_at g w n).packets → (x : Sent) → Mem x (sends n end.1) → P x.packet
  each_of_row P n end each x m = let a = sent_addressed g n (row_at g w n).packets end.1 (ends n end).1.2 x m in subst P a.2 (each_at (λ (b : To × Packet). P b.1) (row_at g w n).packets each a.0 a.1)
