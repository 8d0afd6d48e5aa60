-- How far a node's epoch rises: by one at each of its starts, and it starts no more often than it has stopped, and once more.
use Rattle.std.proofs.Common.{◌≡◌, inl, ⊎_elim, ℕ, suc, ◌+◌, ◌≤◌, List, [], ◌∷◌, ◌++◌, true, Option, None, Some, refl, sym, ap, ◌∙◌, subst, arith, eqb-true}
use Rattle.photon_model.proofs.ServerRows as serving
use Rattle.photon_model.proofs.Words.{Phase, Proposal, accepted, joiner_turn, server_turn}
use Rattle.site_run.proofs.Words.{each_at, mem_right, BusEntry, Begin, End, Stop, Batch, Bytes, Disks, Dispatcher, Each, Server, Replica, Joiner, Input, JoinerKept, JoinerLive, Mem, Node, Note, Place, Rows, ServerKept, ServerLive, Setting, State, StateOf, ComesToLast, HasCome, IsAtLast, any_of, down_over, is_of, land, land_server, made_by, node_number, row_of, rows_of, stop_count, Start, StartsAt, land_joiner, Leads, RowEnds, RowPath, RowStops, written}

-- ---- rows that raise no epoch

accepted_quiet : (g : Setting) (site : ℕ) (k : ServerKept) (l : ServerLive) (at : Place) (p : Proposal) (phase : Phase Batch) (o : Option Batch) → (accepted g site k l at (l.shards at.shard) p phase o).note ≡ None
accepted_quiet g site k l at p phase None = refl
accepted_quiet g site k l at p phase (Some v) = refl

server_quiet : (g : Setting) (site : ℕ) (k : ServerKept) (l : ServerLive) (i : Input) → (server_turn g site k l i).note ≡ None
server_quiet g site k l =
    serving.every_row g site k l (λ i o. o.note ≡ None)
    (record {
      idles = λ i. refl;
      ticks = refl;
      draws = λ s may. refl;
      answers = λ from x a is. refl;
      queues = λ from x. refl;
      learns_of = λ from at v is. refl;
      promises = λ r at b o p is current. refl;
      accepts = λ r at b p is current. accepted_quiet g site k l at p _ _;
      refuses = λ r at b above p is current. refl;
    })

joiner_keeps : (g : Setting) (j : ℕ) (k : JoinerKept) (l : JoinerLive) (i : Input) → (land land_joiner (joiner_turn g j k l i).note k).epoch ≡ k.epoch
joiner_keeps g j k l = grind (arith, land)

-- ---- a node's own entries

abbrev up : {L : Type 0} → Option L → ℕ
up None = 0
up (Some l) = 1

few_up : {L : Type 0} (live : Option L) → up live ≤ 1
few_up None = omega arith
few_up (Some l) = omega arith

module _ {K L : Type 0} (rows : Rows K L) (epoch : K → ℕ) (starts : (k : K) → epoch (land rows.lands (rows.start k).note k) ≡ suc (epoch k)) (turns : (g : Setting) (k : K) (l : L) (i : Input) → epoch (land rows.lands (rows.turn g k l i).note k) ≡ epoch k)
    (first : ℕ) where
  -- after so many stops
  record IsRaised (stops : ℕ) (live : Option L) (kept : K) : Type 0 where
    least : first ≤ epoch kept
    most : epoch kept ≤ first + stops + up live

  row_raises : (g : Setting) (k : K) (live : Option L) (i : Input) → epoch (land rows.lands (row_of rows g k live i).note k) + up live ≡ suc (epoch k)
  row_raises g k None i = omega (arith, starts k)
  row_raises g k (Some l) i = omega (arith, turns g k l i)

  abbrev Raised : ℕ → State K L → Type 0
  Raised stops s = IsRaised stops s.live s.kept

  after_end : (stops : ℕ) (s t : State K L) (b : Bytes) (noted : Option (List ℕ)) (ps : List (ℕ × List ℕ)) → RowEnds rows s b noted ps t → Raised stops s → Raised stops t
  after_end stops s t b noted ps ends was =
      let few = few_up s.live in
      ⊎_elim
      (λ done.
      let risen = row_raises s.setting s.kept s.live done.0 in
      subst (Raised stops) (sym done.2.state) (record { least = omega (arith, was.least, few, risen); most = omega (arith, was.most, risen) }))
      (λ idle. subst (Raised stops) (sym idle.state) (record { least = was.least; most = omega (arith, was.most, few) }))
      ends

  after_stop : (stops : ℕ) (s t : State K L) (b : Bytes) (landed : Option (List ℕ)) → RowStops rows s b landed t → Raised stops s → Raised (suc stops) t
  after_stop stops s t b landed stop was =
      let few = few_up s.live in
      ⊎_elim
      (λ none. subst (Raised (suc stops)) (sym none.1) (record { least = was.least; most = omega (arith, was.most, few) }))
      (λ some.
      let risen = row_raises s.setting s.kept s.live some.0 in
      subst (Raised (suc stops)) (sym some.3) (record { least = omega (arith, was.least, few, risen); most = omega (arith, was.most, risen) }))
      stop

  raised : (stops : ℕ) (es : List BusEntry) (s t : State K L) → RowPath rows s es t → Raised stops s → Raised (stops + stop_count es) t
  raised stops [] s t path was = let same : stops ≡ stops + 0 = omega arith in subst (λ k. Raised k t) same (subst (Raised stops) path was)
  raised stops (Begin n b ∷ es) s t path was = raised stops es path.0 t path.2 (subst (Raised stops) (sym path.1.2) was)
  raised stops (End n noted ps kept ∷ es) s t path was = raised stops es path.0 t path.2 (after_end stops s path.0 path.1.0 noted ps path.1.3 was)
  raised stops (Stop n landed ∷ es) s t path was =
      let more : suc stops + stop_count es ≡ stops + suc (stop_count es) = omega arith in
      subst (λ k. Raised k t) more (raised (suc stops) es path.0 t path.2 (after_stop stops s path.0 path.1.0 landed path.1.2 was))

  -- a node whose turn is open began it by its last entry
  abbrev BeginsLast : Bytes → List BusEntry → Type 0
  BeginsLast b es = (front : List BusEntry) × (n : ℕ) × (es ≡ front ++ Begin n b ∷ [])

  later : (b : Bytes) (e : BusEntry) (es : List BusEntry) → BeginsLast b es → BeginsLast b (e ∷ es)
  later b e es is = (e ∷ is.0, is.1, ap (λ (xs : List BusEntry). e ∷ xs) is.2)

  closed_after : (e : BusEntry) (s t : State K L) (b : Bytes) → Leads rows s e t → t.opened ≡ Some b → (n : ℕ) × (e ≡ Begin n b)
  closed_after (Begin n c) s t b led is = (n, ap (Begin n) (let same : c ≡ b = cc (ap (λ (x : State K L). x.opened) led.2, is) in same))
  closed_after (End n noted ps kept) s t b led is =
      ⊎_elim (λ done. absurd (cc (sym (ap (λ (x : State K L). x.opened) done.2.state) ∙ is))) (λ idle. absurd (cc (sym (ap (λ (x : State K L). x.opened) idle.state) ∙ is))) led.3
  closed_after (Stop n landed) s t b led is =
      ⊎_elim (λ none. absurd (cc (sym (ap (λ (x : State K L). x.opened) none.1) ∙ is))) (λ some. absurd (cc (sym (ap (λ (x : State K L). x.opened) some.3) ∙ is))) led.2

  begins_last : (b : Bytes) (e : BusEntry) (es : List BusEntry) (s t : State K L) → RowPath rows s (e ∷ es) t → t.opened ≡ Some b → BeginsLast b (e ∷ es)
  begins_last b e [] s t path busy =
      let is = closed_after e s t b (subst (Leads rows s e) path.2 path.1) busy in
      ([], is.0, ap (λ (x : BusEntry). x ∷ []) is.1)
  begins_last b e (f ∷ es) s t path busy = later b e (f ∷ es) (begins_last b f es path.0 t path.2 busy)

  pub begins : (b : Bytes) (es : List BusEntry) (s t : State K L) → s.opened ≡ None → RowPath rows s es t → t.opened ≡ Some b → BeginsLast b es
  begins b [] s t none path busy = absurd (cc (sym none ∙ ap (λ (x : State K L). x.opened) path ∙ busy))
  begins b (e ∷ es) s t none path busy = begins_last b e es s t path busy

-- ---- of the entries of a number

module _ (n : ℕ) where
  each_own : (h : List BusEntry) → Each (λ e. is_of n e ≡ true) (made_by n h)
  each_own [] = tt
  each_own (e ∷ h) = grind (arith, is_of, each_own h)

  own_number : (h front : List BusEntry) (m : ℕ) (b : Bytes) → made_by n h ≡ front ++ Begin m b ∷ [] → made_by n h ≡ front ++ Begin n b ∷ []
  own_number h front m b is =
      let own = each_at (λ e. is_of n e ≡ true) (made_by n h) (each_own h) (Begin m b) (subst (Mem (Begin m b)) (sym is) (mem_right (Begin m b) front (Begin m b ∷ []) (inl refl))) in
      is ∙ ap (λ k. front ++ Begin k b ∷ []) (eqb-true m n own)

-- ---- a node at its last epoch

come_so : (first stops kept last now : ℕ) → kept ≤ first + (0 + stops) + now → now ≡ 0 → kept ≡ last → last ≤ first + stops
come_so first stops kept last now most none is = omega (arith, most, none, is)

module _ (g : Setting) (d : Disks) (h : List BusEntry) where
  has_come : {K L : Type 0} (rows : Rows K L) (epoch : K → ℕ) (starts : (k : K) → epoch (land rows.lands (rows.start k).note k) ≡ suc (epoch k)) (turns : (g : Setting) (k : K) (l : L) (i : Input) → epoch (land rows.lands (rows.turn g k l i).note k) ≡ epoch k)
      → (n last : ℕ) (s t : State K L) → s.opened ≡ None → RowPath rows s (made_by n h) t → StartsAt t.opened t.live (epoch t.kept) last → HasCome n (made_by n h) (epoch s.kept) last
  has_come {K} {L} rows epoch starts turns n last s t closed path at =
      let begun = begins rows epoch starts turns (epoch s.kept) Start (made_by n h) s t closed path at.starts in
      let risen = raised rows epoch starts turns (epoch s.kept) 0 (made_by n h) s t path (record { least = omega arith; most = omega arith }) in
      let least = risen.least in
      let most = risen.most in
      let none : up t.live ≡ 0 = ap (λ (o : Option L). up o) at.down in
      let is = at.keeps in
      grind (arith, own_number, come_so, stop_count)

  pub comes_to_last : (n : Node) (u : StateOf n) (epoch : ℕ) → RowPath (rows_of n) (down_over g d n) (made_by (node_number n) h) u → IsAtLast (any_of n u) epoch → ComesToLast d h n epoch
  comes_to_last (Dispatcher s) u epoch path at = absurd at
  comes_to_last (Server s) u epoch path at =
      ((d.servers s).epoch, refl, has_come (rows_of (Server s)) (λ (k : ServerKept). k.epoch) (λ k. refl) (λ o k l i. ap (λ (x : Option Note). (land land_server x k).epoch) (server_quiet o s k l i)) (node_number (Server s)) epoch (down_over g d (Server s)) u refl path at)
  comes_to_last (Replica r) u epoch path at = absurd at
  comes_to_last (Joiner j) u epoch path at =
      ((d.joiners j).epoch, refl, has_come (rows_of (Joiner j)) (λ (k : JoinerKept). k.epoch) (λ k. refl) (λ o k l i. joiner_keeps o j k l i) (node_number (Joiner j)) epoch (down_over g d (Joiner j)) u refl path at)
