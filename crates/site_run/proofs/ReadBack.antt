-- What is read back of the disks of nodes at rest is the nodes' records.
use Rattle.std.proofs.Common.{◌≡◌, ℕ, zero, suc, ◌+◌, ◌-◌, ◌*◌, ◌<◌, ◌≤◌, List, [], ◌∷◌, ◌++◌, length, map, drop, slice_index_or, Bool, false, cond, IsTrue, Option, None, Some, refl, sym, ap, ◌∙◌, subst, arith, lit<, lit≤, append_assoc, filter}
use Rattle.site_run.proofs.Words.{All-nil, append-nil, map-id, filter-append, DiskName, ReplicaNote, note_view, PairRec, KeepsPairs, IsPair, Node, Replica, Joiner, Setting, first_joiner, IsNode, NumbersAreNodes, node_count, node_number, node_of, Config, BallotNote, ReplicaKept, notes_kept, journals_of, values_from, Disks, AreOf, Lent, KeepsNotes, StateOf, KeptOf, kept_of, all_from, EachWith, is_replica, is_output, each_with_append, Journals, notes_of, KeepsVotes, HoldsRecords, HoldSameRecords, ReadNotesAreKept, KeepsFor, KeepsAs, AllKeep, lent_replicas, lent_outputs, AreKeptIn, DiskBytes as Bytes, OutputDisk, ReplicaDisk, TopologyDisk}

-- ---- bytes keep one list, of notes or of pairs

-- the bytes of a replica's disk and those of an output, in a setting of one replica and one joiner a site
abbrev two_disks : (votes pairs : List ℕ) → Bytes
two_disks votes pairs (ReplicaDisk r) = votes
two_disks votes pairs (OutputDisk s j) = pairs
two_disks votes pairs _ = []

abbrev two_records : ReplicaKept → List PairRec → Disks
two_records k ps = record {
  dispatchers = λ s. record { offset = 0; pending = [] };
  servers = λ s. record { epoch = 0 };
  replicas = λ r. k;
  joiners = λ j. record { epoch = 0; pairs = ps };
}

abbrev small : Setting → Setting
small g = record g { config = record g.config { replicas = 1; joiners = 1 } }

two_held : (g : Setting) (k : ReplicaKept) (ps : List PairRec) (votes pairs : List ℕ) → KeepsVotes k votes → KeepsPairs ps pairs → HoldsRecords g (two_disks votes pairs) (two_records k ps)
two_held g k ps votes pairs a b TopologyDisk is = tt
two_held g k ps votes pairs a b (ReplicaDisk r) is = a
two_held g k ps votes pairs a b (OutputDisk s j) is = b
two_held g k ps votes pairs a b _ is = refl

no_pairs : KeepsPairs [] []
no_pairs = (All-nil IsPair, refl)

no_votes : KeepsVotes (record { notes = [] }) []
no_votes = (tt, refl)

module _ (once : HoldSameRecords) (g : Setting) where
  one_votes : (k l : ReplicaKept) (c : List ℕ) → KeepsVotes k c → KeepsVotes l c → k ≡ l
  one_votes k l c a b =
      once (small g) (two_disks c []) (two_records k []) (two_records l []) (two_held (small g) k [] c [] a no_pairs) (two_held (small g) l [] c [] b no_pairs) (Replica 0) (lit< tt)

  one_pairs : (p q : List PairRec) (c : List ℕ) → KeepsPairs p c → KeepsPairs q c → p ≡ q
  one_pairs p q c a b =
      let none : ReplicaKept = record { notes = [] } in
      ap (λ k. k.pairs)
      (once (small g) (two_disks [] c) (two_records none p) (two_records none q) (two_held (small g) none p [] c no_votes a) (two_held (small g) none q [] c no_votes b) (Joiner 5) (lit≤ tt, lit< tt))

  one_notes : ReadNotesAreKept → (notes : List ReplicaNote) (kept : List BallotNote) (c : List ℕ) → KeepsNotes notes c → KeepsVotes (record { notes = kept }) c → map note_view notes ≡ kept
  one_notes read notes kept c a b = ap (λ (k : ReplicaKept). k.notes) (one_votes (notes_kept notes) (record { notes = kept }) c (read notes c a) b)

-- ---- disks that keep values, in order

module _ {D V : Type 0} (image : D → List ℕ → Type 0) (keeps : V → List ℕ → Type 0) where
  -- whatever a stop leaves of each disk keeps the value at its place
  abbrev KeepValues : List (Lent D) → List V → Type 0
  KeepValues disks values = EachWith (λ (d : Lent D) v. (c : List ℕ) → image d.disk c → keeps v c) disks values

  -- what such disks are read as are the values
  read_as : {W : Type 0} (tells : Bool) → IsTrue tells → (reads : List W → List ℕ → Type 0) (view : List W → V) → ((ws : List W) (v : V) (c : List ℕ) → reads ws c → keeps v c → view ws ≡ v)
      → (disks : List (Lent D)) (values : List V) (lists : List (List W)) → KeepValues disks values → AreKeptIn tells image reads disks lists → map view lists ≡ values
  read_as tells on reads view one [] [] [] h k = refl
  read_as tells on reads view one [] [] (ws ∷ lists) h k = absurd k
  read_as tells on reads view one [] (v ∷ values) lists h k = absurd h
  read_as tells on reads view one (d ∷ disks) [] lists h k = absurd h
  read_as tells on reads view one (d ∷ disks) (v ∷ values) [] h k = absurd k
  read_as tells on reads view one (d ∷ disks) (v ∷ values) (ws ∷ lists) h k = grind (arith, read_as tells on reads view one disks values lists h.1 k.1)

  module _ (p : DiskName → Bool) where
    abbrev chosen : List (Lent D) → List (Lent D)
    chosen disks = filter (λ d. p d.name) disks

    -- those behind others
    joined : (xs ys : List (Lent D)) (as_ bs : List V) → KeepValues (chosen xs) as_ → KeepValues (chosen ys) bs → KeepValues (chosen (xs ++ ys)) (as_ ++ bs)
    joined xs ys as_ bs a b = grind (arith, filter-append, each_with_append)

    -- a disk in front whose name isn't chosen
    with_front : (topology : Lent D) (disks : List (Lent D)) (vs : List V) → p topology.name ≡ false → KeepValues (chosen disks) vs → KeepValues (chosen (topology ∷ disks)) vs
    with_front topology disks vs not_chosen h = subst (λ b. KeepValues (cond b (topology ∷ chosen disks) (chosen disks)) vs) (sym not_chosen) h

    -- the disks of nodes from this number on, each of which keeps the values of its number
    from_number : {N : Type 0} (disks_of : ℕ → N → List (Lent D)) (values : ℕ → List V) (i : ℕ) (ns : List N)
        → ((k j : ℕ) → k < length ns → j ≡ i + k → (a : N) → KeepValues (chosen (disks_of j (slice_index_or ns k a))) (values j))
        → KeepValues (chosen (all_from disks_of i ns)) (all_from (λ j _. values j) i ns)
    from_number disks_of values i [] each = tt
    from_number {N} disks_of values i (n ∷ ns) each =
        joined (disks_of i n) (all_from disks_of (suc i) ns) (values i) (all_from (λ j (m : N). values j) (suc i) ns) (each 0 i (omega arith) (omega arith) n)
        (from_number disks_of values (suc i) ns (λ k j within at a. each (suc k) j (omega (arith, within)) (omega (arith, at)) a))

-- ---- lists of values, one for each number

abbrev spread : {V : Type 0} → (ℕ → List V) → ℕ → ℕ → List V
spread f i zero = []
spread f i (suc n) = f i ++ spread f (suc i) n

spread_all : {N V : Type 0} (f : ℕ → List V) (i : ℕ) (ns : List N) → all_from (λ j _. f j) i ns ≡ spread f i (length ns)
spread_all f i [] = refl
spread_all f i (n ∷ ns) = ap (λ vs. f i ++ vs) (spread_all f (suc i) ns)

spread_split : {V : Type 0} (f : ℕ → List V) (m n i total next : ℕ) → total ≡ m + n → next ≡ i + m → spread f i total ≡ spread f i m ++ spread f next n
spread_split f zero n i total next all to = grind arith
spread_split f (suc m) n i zero next all to = absurd (omega (arith, all))
spread_split f (suc m) n i (suc total) next all to =
    ap (λ vs. f i ++ vs) (spread_split f m n (suc i) total next (omega (arith, all)) (omega (arith, to))) ∙ sym (append_assoc (f i) (spread f (suc i) m) (spread f next n))

-- none of each number, and one of each
spread_none : {V : Type 0} (f : ℕ → List V) (n i : ℕ) → ((j : ℕ) → i ≤ j → j < i + n → f j ≡ []) → spread f i n ≡ []
spread_none f zero i none = refl
spread_none f (suc n) i none =
    ap (λ vs. vs ++ spread f (suc i) n) (none i (omega arith) (omega arith)) ∙ spread_none f n (suc i) (λ j low high. none j (omega (arith, low)) (omega (arith, high)))

spread_ones : {V : Type 0} (f : ℕ → List V) (v : ℕ → V) (n i h : ℕ) → ((j k l : ℕ) → k < n → j ≡ i + k → l ≡ h + k → f j ≡ v l ∷ []) → spread f i n ≡ values_from v h n
spread_ones f v zero i h one = refl
spread_ones f v (suc n) i h one =
    ap (λ vs. vs ++ spread f (suc i) n) (one i 0 h (omega arith) (omega arith) (omega arith))
    ∙ ap (λ vs. v h ∷ vs) (spread_ones f v n (suc i) (suc h) (λ j k l below at to. one j (suc k) l (omega (arith, below)) (omega (arith, at)) (omega (arith, to))))

-- ---- the nodes of a setting

module _ {N D V : Type 0} (image : D → List ℕ → Type 0) (disks_of : ℕ → N → List (Lent D)) (g : Setting) (numbers : NumbersAreNodes g) (at : (n : Node) → StateOf n) (d : Disks) (same : (n : Node) → IsNode g n → kept_of d n ≡ (at n).kept)
    (keeps : V → List ℕ → Type 0) (p : DiskName → Bool) (values : (n : Node) → KeptOf n → List V)
    (of_node : (n : Node) (t : StateOf n) (lent : List (Lent D)) → KeepsAs image g.config n t lent → KeepValues image keeps (chosen image keeps p lent) (values n t.kept)) where
  abbrev its_values : Node → List V
  its_values n = values n (kept_of d n)

  -- the disks of one node
  of_one : (nodes : List N) → AllKeep image disks_of g at nodes → (n : Node) → IsNode g n → (a : N)
      → KeepValues image keeps (chosen image keeps p (disks_of (node_number n) (slice_index_or nodes (node_number n) a))) (its_values n)
  of_one nodes all n is a =
      let lent = disks_of (node_number n) (slice_index_or nodes (node_number n) a) in
      subst (λ k. KeepValues image keeps (chosen image keeps p lent) (values n k)) (sym (same n is)) (of_node n (at n) lent (all.each n is a))

  -- the values of the node of a number
  abbrev by_node : Option Node → List V
  by_node None = []
  by_node (Some n) = its_values n

  abbrev values_at : ℕ → List V
  values_at i = by_node (node_of g i)

  values_of : (n : Node) → IsNode g n → values_at (node_number n) ≡ its_values n
  values_of n is = ap by_node (numbers.of_number n is)

  -- the values of all nodes: of the sites', of the replicas, and of the joiners
  abbrev all_values : List V
  all_values = (spread values_at 0 4 ++ spread values_at 4 g.config.replicas) ++ spread values_at (first_joiner g) (2 * g.config.joiners)

  in_parts : spread values_at 0 (node_count g) ≡ all_values
  in_parts =
      spread_split values_at (first_joiner g) (2 * g.config.joiners) 0 (node_count g) (first_joiner g) refl (omega arith)
      ∙ ap (λ vs. vs ++ spread values_at (first_joiner g) (2 * g.config.joiners)) (spread_split values_at 4 g.config.replicas 0 (first_joiner g) 4 refl refl)

  of_all : (nodes : List N) → AllKeep image disks_of g at nodes → KeepValues image keeps (chosen image keeps p (all_from disks_of 0 nodes)) all_values
  of_all nodes all =
      subst (KeepValues image keeps (chosen image keeps p (all_from disks_of 0 nodes))) (spread_all values_at 0 nodes ∙ ap (spread values_at 0) all.count ∙ in_parts)
      (from_number image keeps p disks_of values_at 0 nodes
      (λ k j within number a.
      let n = numbers.each k (omega (arith, within, all.count)) in
      let back = numbers.back k n.0 n.1 in
      let same : k ≡ j = omega (arith, number) in
      let own = subst (KeepValues image keeps (chosen image keeps p (disks_of (node_number n.0) (slice_index_or nodes (node_number n.0) a)))) (sym (values_of n.0 back.1)) (of_one nodes all n.0 back.1 a) in
      subst (λ m. KeepValues image keeps (chosen image keeps p (disks_of m (slice_index_or nodes k a))) (values_at m)) same
      (subst (λ m. KeepValues image keeps (chosen image keeps p (disks_of m (slice_index_or nodes m a))) (values_at m)) back.0 own)))

  -- so what all are read as are the values of all nodes
  all_read : {W : Type 0} (tells : Bool) → IsTrue tells → (reads : List W → List ℕ → Type 0) (view : List W → V) → ((ws : List W) (v : V) (c : List ℕ) → reads ws c → keeps v c → view ws ≡ v)
      → (nodes : List N) (topology : Lent D) (lists : List (List W)) → AllKeep image disks_of g at nodes → p topology.name ≡ false → AreKeptIn tells image reads (chosen image keeps p (topology ∷ all_from disks_of 0 nodes)) lists
      → map view lists ≡ all_values
  all_read tells on reads view one nodes topology lists all not_chosen read =
      read_as image keeps tells on reads view one (chosen image keeps p (topology ∷ all_from disks_of 0 nodes)) all_values lists (with_front image keeps p topology (all_from disks_of 0 nodes) all_values not_chosen (of_all nodes all)) read

-- ---- the notes and the pairs of a node

abbrev KeepsNoteList : List BallotNote → List ℕ → Type 0
KeepsNoteList notes c = KeepsVotes (record { notes = notes }) c

abbrev its_notes : (n : Node) → KeptOf n → List (List BallotNote)
its_notes (Replica r) k = k.notes ∷ []
its_notes _ k = []

abbrev its_pairs : (n : Node) → KeptOf n → List (List PairRec)
its_pairs (Joiner j) k = k.pairs ∷ []
its_pairs _ k = []

module _ {D : Type 0} (image : D → List ℕ → Type 0) (config : Config) where
  abbrev HaveNotes : List (List BallotNote) → List (Lent D) → Type 0
  HaveNotes values lent = KeepValues image KeepsNoteList (chosen image KeepsNoteList is_replica lent) values

  abbrev HavePairs : List (List PairRec) → List (Lent D) → Type 0
  HavePairs values lent = KeepValues image KeepsPairs (chosen image KeepsPairs is_output lent) values

  first_is : (l : Lent D) (ls : List (Lent D)) (n : DiskName) (ns : List DiskName) → map (λ x. x.name) (l ∷ ls) ≡ n ∷ ns → l.name ≡ n
  first_is l ls n ns is = cc is

  notes_in : (n : Node) (t : StateOf n) (lent : List (Lent D)) → KeepsAs image config n t lent → HaveNotes (its_notes n t.kept) lent
  notes_in (Replica r) t (l ∷ []) h =
      let is = first_is l [] _ _ h.named in
      subst (λ b. KeepValues image KeepsNoteList (cond b (l ∷ []) []) (t.kept.notes ∷ [])) (sym (ap is_replica is)) (λ c here. subst (λ m. KeepsFor (Replica r) t.kept m c) is (h.keeps.0 c here), tt)
  notes_in n t [] h = grind arith
  notes_in n t (l ∷ []) h = grind arith
  notes_in n t (l ∷ m ∷ []) h = grind arith
  notes_in n t (l ∷ m ∷ o ∷ ls) h = grind arith

  pairs_in : (n : Node) (t : StateOf n) (lent : List (Lent D)) → KeepsAs image config n t lent → HavePairs (its_pairs n t.kept) lent
  pairs_in (Joiner j) t (l ∷ m ∷ []) h =
      let is = first_is m [] _ _ (ap (λ ns. drop 1 ns) h.named) in
      let own = subst (λ b. KeepValues image KeepsPairs (cond b (m ∷ []) []) (t.kept.pairs ∷ [])) (sym (ap is_output is)) (λ c here. subst (λ n. KeepsFor (Joiner j) t.kept n c) is (h.keeps.1.0 c here), tt) in
      with_front image KeepsPairs is_output l (m ∷ []) (t.kept.pairs ∷ []) (ap is_output (first_is l (m ∷ []) _ _ h.named)) own
  pairs_in n t [] h = grind arith
  pairs_in n t (l ∷ []) h = grind arith
  pairs_in n t (l ∷ m ∷ []) h = grind arith
  pairs_in n t (l ∷ m ∷ o ∷ ls) h = grind arith

-- ---- what is read back

module _ {N D : Type 0} (image : D → List ℕ → Type 0) (disks_of : ℕ → N → List (Lent D)) (g : Setting) (numbers : NumbersAreNodes g) (at : (n : Node) → StateOf n) (nodes : List N) (topology : Lent D) (tells : Bool) (journals : Journals)
    (once : HoldSameRecords) (read : ReadNotesAreKept) (all : AllKeep image disks_of g at nodes) (named : topology.name ≡ TopologyDisk) (d : Disks) (same : (n : Node) → IsNode g n → kept_of d n ≡ (at n).kept) (on : IsTrue tells) where
  abbrev notes_at : ℕ → List (List BallotNote)
  notes_at = values_at image disks_of g numbers at d same KeepsNoteList is_replica its_notes (notes_in image g.config)

  notes_of_node : (n : Node) → IsNode g n → notes_at (node_number n) ≡ its_notes n (kept_of d n)
  notes_of_node = values_of image disks_of g numbers at d same KeepsNoteList is_replica its_notes (notes_in image g.config)

  notes_are : AreKeptIn tells image KeepsNotes (lent_replicas (topology ∷ all_from disks_of 0 nodes)) journals.notes.items → notes_of journals ≡ journals_of g.config.replicas d.replicas
  notes_are kept =
      all_read image disks_of g numbers at d same KeepsNoteList is_replica its_notes (notes_in image g.config) tells on KeepsNotes (map note_view) (one_notes once g read) nodes topology journals.notes.items all (ap is_replica named) kept
      ∙ ap (λ vs. vs ++ spread notes_at (first_joiner g) (2 * g.config.joiners))
      (spread_ones notes_at (λ r. (d.replicas r).notes) g.config.replicas 4 0 (λ j r l below at_ to. ap notes_at at_ ∙ notes_of_node (Replica r) below ∙ ap (λ m. (d.replicas m).notes ∷ []) (let here : r ≡ l = omega (arith, to) in here)))
      ∙ ap (λ vs. journals_of g.config.replicas d.replicas ++ vs) (spread_none notes_at (2 * g.config.joiners) (first_joiner g) (λ j low high. notes_of_node (Joiner j) (low, high)))
      ∙ append-nil (journals_of g.config.replicas d.replicas)

  abbrev pairs_at : ℕ → List (List PairRec)
  pairs_at = values_at image disks_of g numbers at d same KeepsPairs is_output its_pairs (pairs_in image g.config)

  pairs_of_node : (n : Node) → IsNode g n → pairs_at (node_number n) ≡ its_pairs n (kept_of d n)
  pairs_of_node = values_of image disks_of g numbers at d same KeepsPairs is_output its_pairs (pairs_in image g.config)

  pairs_are : AreKeptIn tells image KeepsPairs (lent_outputs (topology ∷ all_from disks_of 0 nodes)) journals.pairs.items → journals.pairs.items ≡ values_from (λ j. (d.joiners j).pairs) (first_joiner g) (2 * g.config.joiners)
  pairs_are kept =
      sym (map-id journals.pairs.items)
      ∙ all_read image disks_of g numbers at d same KeepsPairs is_output its_pairs (pairs_in image g.config) tells on KeepsPairs (λ ps. ps) (one_pairs once g) nodes topology journals.pairs.items all (ap is_output named) kept
      ∙ ap (λ vs. vs ++ spread pairs_at (first_joiner g) (2 * g.config.joiners))
      (spread_none pairs_at g.config.replicas 4 (λ j low high. let at_ : j ≡ 4 + (j - 4) = omega (arith, low) in ap pairs_at at_ ∙ pairs_of_node (Replica (j - 4)) (omega (arith, low, high))))
      ∙ spread_ones pairs_at (λ j. (d.joiners j).pairs) (2 * g.config.joiners) (first_joiner g) (first_joiner g)
      (λ j k l below at_ to.
      let same : j ≡ l = at_ ∙ sym to in
      pairs_of_node (Joiner j) (omega (arith, at_), omega (arith, at_, below)) ∙ ap (λ m. (d.joiners m).pairs ∷ []) same)

-- what is read back of the disks of all nodes at rest are the records that the nodes keep
pub read_is : {N D : Type 0} (image : D → List ℕ → Type 0) (disks_of : ℕ → N → List (Lent D)) (g : Setting) (numbers : NumbersAreNodes g) (at : (n : Node) → StateOf n) (nodes : List N) (topology : Lent D) (tells : Bool) (journals : Journals)
    → HoldSameRecords → ReadNotesAreKept
    → AllKeep image disks_of g at nodes → topology.name ≡ TopologyDisk
    → (d : Disks) → ((n : Node) → IsNode g n → kept_of d n ≡ (at n).kept)
    → IsTrue tells
    → AreKeptIn tells image KeepsNotes (lent_replicas (topology ∷ all_from disks_of 0 nodes)) journals.notes.items
    → AreKeptIn tells image KeepsPairs (lent_outputs (topology ∷ all_from disks_of 0 nodes)) journals.pairs.items
    → AreOf g d journals
read_is image disks_of g numbers at nodes topology tells journals once read all named d same on notes pairs =
    record { notes = notes_are image disks_of g numbers at nodes topology tells journals once read all named d same on notes; pairs = pairs_are image disks_of g numbers at nodes topology tells journals once read all named d same on pairs }
