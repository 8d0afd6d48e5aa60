-- Stops of all nodes after a run are a run, and leave what an image holds.
use Rattle.std.proofs.Common.{◌≡◌, ◌⊎◌, inl, inr, ⊎_elim, zero, suc, ◌*◌, Bool, true, cond, ◌&&◌, List, [], ◌∷◌, ◌++◌, Some, None, refl, sym, ap, ◌∙◌, subst, arith, lit<, Option, is_some}
use Rattle.std.proofs.lemmas.Bool.{cases_lt, cond_both}
use Rattle.photon_model.proofs.Worlds.{opened_at, run_append, after_append}
use Rattle.photon_model.proofs.Local.{same_node-true, same_node-self, own_one}
use Rattle.photon_model.proofs.Words.{KeptOf, LiveOf, at_node, land_at, row_of, same_node, clash, Mem, Each, Setting, first_joiner, Checked, Node, Dispatcher, Server, Replica, Joiner, Input, Note, land, none_some, each_append, mem_left, mem_right, IsNode, SoundStore, World, Entry, Stop, Disks, disks, stopped, after, world_after, May, IsRun, opening, left_by, image, Cell, values_from}
use Rattle.photon_model.proofs.Journals.{values_mem, values_each}
use Rattle.photon_model.proofs.Closing.{runs_keep_stores}

module _ (g : Setting) (landed : Node → Bool) where
  -- what a stop of the node leaves
  abbrev left_at : World → (n : Node) → KeptOf n
  left_at w n = left_by (land_at n) (row_of g n (at_node w n)) (landed n) (at_node w n)

  -- the cell is as it was, or has stopped
  abbrev IsStopped : World → (n : Node) → Cell (KeptOf n) (LiveOf n) → Type 0
  IsStopped w n c = (c ≡ at_node w n) ⊎ ((c.opened ≡ None) × (c.kept ≡ left_at w n))

  abbrev AllStopped : World → World → Type 0
  AllStopped w v = (n : Node) → IsStopped w n (at_node v n)

  abbrev note_of : World → Node → Option Note
  note_of w n = cond (landed n) (row_of g n (at_node w n)).note None

  may_stop : (w : World) (n : Node) (i : Input) → IsNode g n → opened_at w n ≡ Some i → May g w (Stop n (note_of w n))
  may_stop w n i k e = (k, ((i, e), cond_both (landed n) (row_of g n (at_node w n)).note None (λ x. (x ≡ None) ⊎ (x ≡ (row_of g n (at_node w n)).note)) (λ _. inr refl) (λ _. inl refl)))

  -- what is left of a cell with this turn, if any
  left_of : (w : World) (n : Node) (o : Option Input) (c : Cell (KeptOf n) (LiveOf n)) → c ≡ at_node w n → c.opened ≡ o → land (land_at n) (cond (is_some o && landed n) (row_of g n c).note None) c.kept ≡ left_at w n
  left_of w n o c same e = grind arith

  stop_keeps : (w v : World) (n : Node) (i : Input) → opened_at v n ≡ Some i → AllStopped w v → AllStopped w (after g v (Stop n (note_of v n)))
  stop_keeps w v n i e h m =
      subst (IsStopped w m) (sym (own_one g v m (Stop n (note_of v n))))
      (cond_both (same_node m n) (stopped (land_at m) (at_node v m) (note_of v n)) (at_node v m) (IsStopped w m) (λ t. subst (λ k. IsStopped w k (stopped (land_at k) (at_node v k) (note_of v n))) (sym (same_node-true m n t)) here) (λ _. h m))
    where
      here : IsStopped w n (stopped (land_at n) (at_node v n) (note_of v n))
      here = inr (refl, ⊎_elim (λ same. left_of w n (Some i) (at_node v n) same e) (λ x. none_some i (sym x.0 ∙ e)) (h n))

  -- at the end, of a node that is closed
  left_is : (w v : World) (n : Node) → AllStopped w v → opened_at v n ≡ None → (at_node v n).kept ≡ left_at w n
  left_is w v n h closed = ⊎_elim (λ same. left_of w n None (at_node v n) same closed) (λ x. x.1) (h n)

  -- a stopped node is closed, and the others stay closed
  stop_closes : (v : World) (n : Node) (o : Option Note) (m : Node) → (n ≡ m) ⊎ (opened_at v m ≡ None) → opened_at (after g v (Stop n o)) m ≡ None
  stop_closes v n o m x =
      subst (λ (c : Cell (KeptOf m) (LiveOf m)). c.opened ≡ None) (sym (own_one g v m (Stop n o)))
      (cond_both (same_node m n) (stopped (land_at m) (at_node v m) o) (at_node v m) (λ (c : Cell (KeptOf m) (LiveOf m)). c.opened ≡ None) (λ _. refl)
      (λ t. ⊎_elim (λ s. clash (same_node m n) (subst (λ k. same_node m k ≡ true) (sym s) (same_node-self m)) t) (λ q. q) x))

  -- stops of these nodes one after another
  record Ends (w v : World) (ns : List Node) : Type 0 where
    pub entries : List Entry
    pub run : IsRun g v entries
    pub stopped_all : AllStopped w (world_after g v entries)
    pub closed : (m : Node) → Mem m ns ⊎ (opened_at v m ≡ None) → opened_at (world_after g v entries) m ≡ None

  ends : (w v : World) (ns : List Node) → Each (IsNode g) ns → AllStopped w v → Ends w v ns
  ends w v [] k h = record { entries = []; run = tt; stopped_all = h; closed = λ m x. ⊎_elim (λ q. absurd q) (λ q. q) x }
  ends w v (n ∷ ns) k h = go (opened_at v n) refl (ends w v ns k.1 h) (λ i e. ends w (after g v (Stop n (note_of v n))) ns k.1 (stop_keeps w v n i e h))
    where
      go : (o : Option Input) → opened_at v n ≡ o → Ends w v ns → ((i : Input) → opened_at v n ≡ Some i → Ends w (after g v (Stop n (note_of v n))) ns) → Ends w v (n ∷ ns)
      go None e here later = record { entries = here.entries; run = here.run; stopped_all = here.stopped_all; closed = λ m x. ⊎_elim (λ q. ⊎_elim (λ s. here.closed m (inr (subst (λ (z : Node). opened_at v z ≡ None) s e))) (λ s. here.closed m (inl s)) q) (λ q. here.closed m (inr q)) x }
      go (Some i) e here later =
          let z = later i e in
          record {
            entries = Stop n (note_of v n) ∷ z.entries;
            run = (may_stop v n i k.0 e, z.run);
            stopped_all = z.stopped_all;
            closed = λ m x. ⊎_elim (λ q. ⊎_elim (λ s. z.closed m (inr (stop_closes v n (note_of v n) m (inl s)))) (λ s. z.closed m (inl s)) q) (λ q. z.closed m (inr (stop_closes v n (note_of v n) m (inr q)))) x;
          }

-- ---- the nodes there are

abbrev replicas_of : Setting → List Node
replicas_of g = values_from Replica 0 g.config.replicas

abbrev joiners_of : Setting → List Node
joiners_of g = values_from Joiner (first_joiner g) (2 * g.config.joiners)

all_nodes : Setting → List Node
all_nodes g = Dispatcher 0 ∷ Dispatcher 1 ∷ Server 0 ∷ Server 1 ∷ (replicas_of g ++ joiners_of g)

are_nodes : (g : Setting) → Each (IsNode g) (all_nodes g)
unfolding all_nodes
are_nodes g = (lit< tt, (lit< tt, (lit< tt, (lit< tt, each_append (IsNode g) (replicas_of g) (joiners_of g) (values_each (IsNode g) Replica 0 g.config.replicas (λ j a b. omega (arith, b))) (values_each (IsNode g) Joiner (first_joiner g) (2 * g.config.joiners) (λ j a b. (a, b)))))))

node_in : (g : Setting) (n : Node) → IsNode g n → Mem n (all_nodes g)
unfolding all_nodes
node_in g (Dispatcher zero) k = inl refl
node_in g (Dispatcher (suc zero)) k = inr (inl refl)
node_in g (Server zero) k = inr (inr (inl refl))
node_in g (Server (suc zero)) k = inr (inr (inr (inl refl)))
node_in g (Replica r) k = inr (inr (inr (inr (mem_left (Replica r) (replicas_of g) (joiners_of g) (values_mem Replica 0 g.config.replicas r (omega arith) (omega arith))))))
node_in g (Joiner j) k = inr (inr (inr (inr (mem_right (Joiner j) (replicas_of g) (joiners_of g) (values_mem Joiner (first_joiner g) (2 * g.config.joiners) j k.0 k.1)))))
node_in g _ k = absurd (omega arith)

-- ---- nodes that the setting doesn't have stay closed

outside_closed : (g : Setting) (es : List Entry) (w : World) → IsRun g w es → (n : Node) → (IsNode g n → ⊥) → opened_at w n ≡ None → opened_at (world_after g w es) n ≡ None
outside_closed g [] w r n no_ h = h
outside_closed g (e ∷ es) w r n no_ h = grind (arith, own_one, outside_closed g es)

opening_closed : (d : Disks) (n : Node) → opened_at (opening d) n ≡ None
opening_closed d (Dispatcher s) = refl
opening_closed d _ = refl

module _ (g : Setting) (d : Disks) (es : List Entry) (landed : Node → Bool) (r : IsRun g (opening d) es) where
  abbrev now : World
  now = world_after g (opening d) es

  -- the stops
  stops : Ends g landed now now (all_nodes g)
  stops = ends g landed now now (all_nodes g) (are_nodes g) (λ n. inl refl)

  abbrev later : World
  later = world_after g now stops.entries

  closed : (n : Node) → opened_at later n ≡ None
  closed n = grind (arith, stops, node_in, outside_closed, opening_closed, cases_lt)

  -- what they leave is the image
  is_image : disks later ≡ image g now landed
  is_image =
      let left : (n : Node) → (at_node later n).kept ≡ left_at g landed now n = λ n. left_is g landed now later n stops.stopped_all (closed n) in
      λ i. record { dispatchers = λ s. left (Dispatcher s) i; servers = λ s. left (Server s) i; replicas = λ r. left (Replica r) i; joiners = λ j. left (Joiner j) i }

  pub image_is_run : (all : List Entry) × IsRun g (opening d) (es ++ all) × (disks (world_after g (opening d) (es ++ all)) ≡ image g now landed)
  image_is_run = (stops.entries, run_append g es stops.entries (opening d) r stops.run, ap (λ (x : World). disks x) (after_append g es stops.entries (opening d)) ∙ is_image)

pub leaves_sound : (g : Setting) (d : Disks) (es : List Entry) (landed : Node → Bool) → Checked g → SoundStore g d → IsRun g (opening d) es → SoundStore g (image g (world_after g (opening d) es) landed)
leaves_sound g d es landed c s r = let x = image_is_run g d es landed r in subst (SoundStore g) x.2 (runs_keep_stores g d (es ++ x.0) c s x.1)
