-- From each front of what the bus kept, and of the model's run so far, to the next.
use Rattle.std.proofs.Common.{◌≡◌, ◌≢◌, ◌⊎◌, inl, inr, ⊎_elim, ℕ, Bool, true, false, cond, ◌==◌, List, [], ◌∷◌, ◌++◌, map, Option, Some, None, refl, sym, ap, ◌∙◌, subst, append_assoc, eq-eqb, arith, All}
use Rattle.site_laws.proofs.Words.{eqb-true, eqb-false, All-head, All-tail, Mem, mem_left, mem_right, mem_split, each_at, some_same, Setting, IsNode, node_number, node_of, NumbersAreNodes, Packet, packet, IsPacket, Sent, Node, Input, Start, Own, Tick, Deliver, World, Entry, Disks, after, world_after, sends, WasSent, May, IsRun, opening, BusEntry, number_in, BusSent, sent, sent_by, sent_to, DeliveredWasSent, addressed, Reads, Path, StateOf, rows_of, cell_of, Means, AllMean, OpenedAs, made_by, EachWalked, IsRunOf}
use Rattle.air_bus.specs.declared.entry.Input.{Input as Bytes}
use Rattle.air_bus.specs.declared.entry.Input.TheVariants as bytes
use Rattle.air_bus.specs.declared.entry.Entry.TheVariants as bus
use Rattle.site_laws.specs.Meaning.{StandsFor}
use Rattle.site_laws.proofs.Addressing.{sends_right}
use Rattle.site_laws.proofs.Stepping.{OneSpelling, Deed, Begins, Ends, Stops, entry_of, sent_of, DoesRight, done, state_at, steps}
use Rattle.site_laws.proofs.Lifting.{CellOf, put, put_sent, put_here, put_else, may_come, after_is, cell_opening}

-- ---- a node's own entries

made_here : (e : BusEntry) (es : List BusEntry) (n : ℕ) → number_in e ≡ n → made_by n (e ∷ es) ≡ e ∷ made_by n es
made_here e es n is = ap (λ b. cond b (e ∷ made_by n es) (made_by n es)) (eq-eqb _ _ is)

-- ---- what was sent

-- the packet on its way is the spelling of one that was sent, between two nodes
pub record IsSentAs (g : Setting) (so_far : List Sent) (x : BusSent) : Type 0 where
  pub from : Node
  pub to : Node
  pub what : Packet
  pub from_is : node_of g x.from ≡ Some from
  pub to_is : node_of g x.to ≡ Some to
  pub spelled : IsPacket what
  pub bytes_are : x.bytes ≡ packet what
  pub was_sent : Mem (record { from = from; to = to; packet = what }) so_far

sent_push : (h : List BusEntry) (e : BusEntry) (x : BusSent) → Mem x (sent (h ++ e ∷ [])) → Mem x (sent h) ⊎ Mem x (sent_by e)
sent_push [] e x m = ⊎_elim (λ a. inr a) (λ a. absurd a) (mem_split x (sent_by e) [] m)
sent_push (d ∷ h) e x m =
    ⊎_elim (λ a. inl (mem_left x (sent_by d) (sent h) a))
    (λ a. ⊎_elim (λ b. inl (mem_right x (sent_by d) (sent h) b)) (λ b. inr b) (sent_push h e x a))
    (mem_split x (sent_by d) (sent (h ++ e ∷ [])) m)

from_packets : (k : ℕ) (ps : List (Node × Packet)) (x : BusSent) → Mem x (map (sent_to k) (map addressed ps)) → (q : Node × Packet) × Mem q ps × (sent_to k (addressed q) ≡ x)
from_packets k [] x m = absurd m
from_packets k (p ∷ ps) x h = grind (arith, from_packets k ps x)

all_at : (P : Node × Packet → Type 0) (ps : List (Node × Packet)) (q : Node × Packet) → All P ps → Mem q ps → P q
all_at P [] q all m = absurd m
all_at P (p ∷ ps) q all (inl e) = subst P e (All-head P p ps all)
all_at P (p ∷ ps) q all (inr m) = all_at P ps q (All-tail P p ps all) m

mem_sends : (n : Node) (ps : List (Node × Packet)) (q : Node × Packet) → Mem q ps → Mem (record { from = n; to = q.0; packet = q.1 }) (sends n ps)
mem_sends n [] q m = absurd m
mem_sends n (p ∷ ps) q h = grind (arith, mem_sends n ps q)

module _ (g : Setting) (numbers : NumbersAreNodes g) where
  wider : (old more : List Sent) (x : BusSent) → IsSentAs g old x → IsSentAs g (more ++ old) x
  wider old more x s = record { from = s.from; to = s.to; what = s.what; from_is = s.from_is; to_is = s.to_is; spelled = s.spelled; bytes_are = s.bytes_are; was_sent = mem_right _ more old s.was_sent }

  -- what an entry sends is what its meaning sends
  sent_now : (n : Node) (e : BusEntry) (deed : Deed) (x : BusSent) (old : List Sent)
      → Means g e (entry_of n deed) → DoesRight g deed → Mem x (sent_by e) → IsSentAs g (sent_of n deed ++ old) x
  sent_now n (bus.End m noted ps kept) (Begins i) x old means right mem = absurd means
  sent_now n (bus.End m noted ps kept) (Stops landed) x old means right mem = absurd means
  sent_now n (bus.End m noted ps kept) (Ends made qs taken) x old means right mem =
      let found = from_packets m qs x (subst (λ (l : List (ℕ × List ℕ)). Mem x (map (sent_to m) l)) means.2.bytes mem) in
      let q = found.0 in
      subst (IsSentAs g (sends n qs ++ old)) found.2 (record {
        from = n;
        to = q.0;
        what = q.1;
        from_is = means.0;
        to_is = numbers.of_number q.0 (each_at (λ (p : Node × Packet). IsNode g p.0) qs right q found.1);
        spelled = all_at (λ (p : Node × Packet). IsPacket p.1) qs q means.2.packets found.1;
        bytes_are = refl;
        was_sent = mem_left _ (sends n qs) old (mem_sends n qs q found.1);
      })
  sent_now n _ deed x old means right mem = absurd mem

-- ---- fronts

-- the node stands where the rest of its entries leads from
abbrev pub GoesFrom : Setting → (n : Node) → CellOf n → List BusEntry → StateOf n → Type 0
GoesFrom g n c rest end = (o : Option Bytes) × OpenedAs g o c.opened × Path (rows_of n) (state_at (rows_of n) g c o) (made_by (node_number n) rest) end

module _ (g : Setting) (one : OneSpelling) (numbers : NumbersAreNodes g) (h : List BusEntry) (delivered : DeliveredWasSent h) (at : (n : Node) → StateOf n) where
  -- the model has followed the bus so far
  pub record Followed (before rest : List BusEntry) (w : World) : Type 0 where
    pub split : h ≡ before ++ rest
    pub all_sent : (x : BusSent) → Mem x (sent before) → IsSentAs g w.sent x
    pub nodes : (n : Node) → IsNode g n → GoesFrom g n (cell_of w n) rest (at n)
    pub no_others : (m : ℕ) → node_of g m ≡ None → made_by m rest ≡ []

  -- and follows it to the end
  pub record Follows (w : World) (rest : List BusEntry) : Type 0 where
    pub entries : List Entry
    pub means : AllMean g rest entries
    pub run : IsRun g w entries
    pub stands : (n : Node) → IsNode g n → StandsFor g (cell_of (world_after g w entries) n) (at n)

  pub record OneMore (before : List BusEntry) (e : BusEntry) (rest : List BusEntry) (w : World) : Type 0 where
    pub entry : Entry
    pub means : Means g e entry
    pub may : May g w entry
    pub followed : Followed (before ++ e ∷ []) rest (after g w entry)

  some_node : (before : List BusEntry) (e : BusEntry) (rest : List BusEntry) (w : World) → Followed before (e ∷ rest) w → (n : Node) × (node_of g (number_in e) ≡ Some n)
  some_node before e rest w f = by (node_of g (number_in e)) refl
    where
      by : (o : Option Node) → node_of g (number_in e) ≡ o → (n : Node) × (o ≡ Some n)
      by o is = grind arith

  -- what a turn begins with can be read, and was sent
  reads : (before : List BusEntry) (e : BusEntry) (rest : List BusEntry) (w : World) → Followed before (e ∷ rest) w
      → (n : Node) → node_of g (number_in e) ≡ Some n
      → (b : Bytes) → e ≡ bus.Begin (number_in e) b → (i : Input) × Reads g b i × WasSent w.sent n i
  reads before e rest w f n is bytes.Start eq = (Start, refl, tt)
  reads before e rest w f n is bytes.Own eq = (Own, refl, tt)
  reads before e rest w f n is bytes.Tick eq = (Tick, refl, tt)
  reads before e rest w f n is (bytes.Packet from b) eq =
      let s = f.all_sent _ (delivered.each before rest (number_in e) from b (f.split ∙ ap (λ (d : BusEntry). before ++ d ∷ rest) eq)) in (
        Deliver s.from s.what,
        (s.from, s.what, s.from_is, s.spelled, s.bytes_are, refl),
        subst (λ to. Mem (record { from = s.from; to = to; packet = s.what }) w.sent) (some_same s.to n (sym s.to_is ∙ is)) s.was_sent,
      )

  -- the rest of every node's entries, once one node has done its entry
  nodes_after : (before : List BusEntry) (e : BusEntry) (rest : List BusEntry) (w : World) → Followed before (e ∷ rest) w
      → (n : Node) → node_of g (number_in e) ≡ Some n → (c : CellOf n) (more : List Sent)
      → GoesFrom g n c rest (at n) → (m : Node) → IsNode g m → GoesFrom g m (cell_of (put w n c more) m) rest (at m)
  nodes_after before e rest w f n is c more goes m is_node = by (number_in e == node_number m) refl
    where
      here : number_in e ≡ node_number m → GoesFrom g m (cell_of (put w n c more) m) rest (at m)
      here eq =
          let same : n ≡ m = some_same n m (sym is ∙ ap (node_of g) eq ∙ numbers.of_number m is_node) in
          subst (λ k. GoesFrom g k (cell_of (put w n c more) k) rest (at k)) same (subst (λ (d : CellOf n). GoesFrom g n d rest (at n)) (sym (put_here w n c more)) goes)

      other : number_in e ≢ node_number m → GoesFrom g m (cell_of (put w n c more) m) rest (at m)
      other ne = grind (arith, put_else)

      by : (b : Bool) → (number_in e == node_number m) ≡ b → GoesFrom g m (cell_of (put w n c more) m) rest (at m)
      by h t = grind (arith, eqb-true, number_in, here, other)

  others_after : (before : List BusEntry) (e : BusEntry) (rest : List BusEntry) (w : World) → Followed before (e ∷ rest) w
      → (n : Node) → node_of g (number_in e) ≡ Some n → (m : ℕ) → node_of g m ≡ None → made_by m rest ≡ []
  others_after before e rest w f n is m none = grind arith

  one_more : (before : List BusEntry) (e : BusEntry) (rest : List BusEntry) (w : World) → Followed before (e ∷ rest) w → OneMore before e rest w
  one_more before e rest w f =
      let found = some_node before e rest w f in
      let n = found.0 in
      let is = found.1 in
      let back = numbers.back (number_in e) n is in
      let goes = f.nodes n back.1 in
      let path = subst (λ (l : List BusEntry). Path (rows_of n) (state_at (rows_of n) g (cell_of w n) goes.0) l (at n)) (made_here e rest (node_number n) (sym back.0)) goes.2 in
      let s =
      steps (rows_of n) g n w.sent (cell_of w n) goes.0 goes.1 path.0 one (λ i. sends_right g n (cell_of w n).kept (cell_of w n).live i back.1)
      numbers e is (reads before e rest w f n is) path.1 in
      let c = done (rows_of n) g (cell_of w n) s.deed in
      let more = sent_of n s.deed in
      let led : GoesFrom g n c rest (at n) = (s.begun_with, s.opened, subst (λ (t : StateOf n). Path (rows_of n) t (made_by (node_number n) rest) (at n)) (sym s.state) path.2) in
      let there : Followed (before ++ e ∷ []) rest (put w n c more) = record {
        split = f.split ∙ sym (append_assoc before (e ∷ []) rest);
        all_sent = λ x m. subst (λ l. IsSentAs g l x) (sym (put_sent w n c more))
            (⊎_elim (λ a. wider g numbers w.sent more x (f.all_sent x a)) (λ a. sent_now g numbers n e s.deed x w.sent s.means s.right a)
            (sent_push before e x m));
        nodes = nodes_after before e rest w f n is c more led;
        no_others = others_after before e rest w f n is;
      } in
      record {
        entry = entry_of n s.deed;
        means = s.means;
        may = may_come g w n s.deed back.1 s.may;
        followed = subst (Followed (before ++ e ∷ []) rest) (sym (after_is g w n s.deed)) there;
      }

  pub follow : (rest before : List BusEntry) (w : World) → Followed before rest w → Follows w rest
  follow [] before w f = grind arith
  follow (e ∷ rest) before w f =
      let now = one_more before e rest w f in
      let later = follow rest (before ++ e ∷ []) (after g w now.entry) now.followed in
      record { entries = now.entry ∷ later.entries; means = (now.means, later.means); run = (now.may, later.run); stands = later.stands }

-- the whole history, from the opening
pub aired_run : OneSpelling → (g : Setting) → NumbersAreNodes g → (d : Disks) (h : List BusEntry) (at : (n : Node) → StateOf n)
    → DeliveredWasSent h → EachWalked g d h at → (es : List Entry) × IsRunOf g d h at es
aired_run one g numbers d h at delivered walked =
    let start : Followed g one numbers h delivered at [] h (opening d) = record {
      split = refl;
      all_sent = λ x m. absurd m;
      nodes = λ n is. subst (λ (c : CellOf n). GoesFrom g n c h (at n)) (sym (cell_opening d n)) (None, tt, walked.paths n is);
      no_others = walked.no_others;
    } in
    let end = follow g one numbers h delivered at h [] (opening d) start in
    (end.entries, record { means = end.means; run = end.run; stands = end.stands })
