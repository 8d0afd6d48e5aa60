-- From what a run leaves of each node to what it leaves of the store.
use Rattle.std.proofs.Common.{◌≡◌, ◌≢◌, inl, inr, ⊎_elim, ℕ, zero, suc, ◌+◌, ◌<◌, ◌≤◌, List, [], ◌∷◌, ◌++◌, length, map, slice_index_or, Bool, true, false, Option, None, Some, refl, sym, ap, ◌∙◌, subst, arith, length-append, IsTrue, IsSome, option_map}
use Rattle.site_run.proofs.Words.{list_any, Mem, some_same, is_in_turn, DiskName, disk_of, is_read, BusEntry, Bytes, Busy, Node, Dispatcher, Joiner, Setting, IsNode, NumbersAreNodes, node_number, node_count, phase_by, NodeFault, World, Disks, disks, world_after, opening, NoJoinerStops, AreOf, RunFault, damaged_by, IsJournalOf, undamaged, Lent, IsOfOne, MayBeLeft, GoesOn, StateOf, kept_of, cell_of, made_by, HasMet, IsCaused, is_stop, stop_count, AreCaused, HasFault, AnyState, any_of, any_phase, IsRunFrom, HaveGrown, ComesToLast, all_from, topology_of, Images, IsDisk, AreKept, KeepsOf, node_with, KeepsTopology, Journals, Config, journal_of, by_topology, IsCounted, of_node, IsOfDisks, IsOfRun, RunLog, HoldsAs, AllHold, AreHeld, AreMet, IsLeftBy, KeepsItsRecord, NoneStops, HasRun, HasRested, AreOut, IsClosed, KeepsAs, AllKeep, KeepsPairs, KeepsNotes, HoldSameRecords, ReadNotesAreKept, told_of, or_else, first_fault, lent_replicas, lent_outputs, AreKeptIn, SettingTopology, First, Ghosts, names_of, topology_as, TopologyDisk}
use Rattle.site_node.specs.declared.kind.NodeFault.TheVariants as node
use Rattle.run_fault.specs.declared.fault.StorePlace.TheVariants as at
use Rattle.site_run.proofs.Going.{all_gone_on}
use Rattle.site_run.proofs.Places.{at_place, disk_among, log_is}
use Rattle.site_run.proofs.Lists.{some_of}
use Rattle.site_run.proofs.Keeping.{all_keep, all_kept, disk_there, lacks_none, topology_image}
use Rattle.site_run.proofs.Outing.{given_goes_on, gone_out}
use Rattle.site_run.proofs.ReadBack.{read_is}
use Rattle.site_run.proofs.Walking.{phase_is}
use Rattle.run_fault.specs.declared.fault.RunFault.TheVariants as run

-- ---- a node with no open turn

closed_by : {L : Type 0} (live : Option L) (opened : Option Bytes) → phase_by live opened ≢ Busy → opened ≡ None
closed_by live None is = refl
closed_by live (Some b) is = absurd (is refl)

closed_of : (n : Node) (t : StateOf n) → any_phase (any_of n t) ≢ Busy → IsClosed n t
closed_of n t is = closed_by t.live t.opened (λ busy. is (phase_is n t ∙ busy))

kept_same : (w : World) (n : Node) → kept_of (disks w) n ≡ (cell_of w n).kept
kept_same w (Dispatcher s) = refl
kept_same w _ = refl

-- entries that count a stop have one
some_counted : (es : List BusEntry) → 1 ≤ stop_count es → list_any is_stop es ≡ true
some_counted [] some = absurd (omega (arith, some))
some_counted (e ∷ es) some = grind (arith, some_counted es)

-- ---- the node of the first fault

-- the fault that is told is that of the node at this place
record IsToldAt {N : Type 0} (config : Config) (first : ℕ) (ws : List (N × Option NodeFault)) (f : RunFault) : Type 0 where
  place : ℕ
  number : ℕ
  within : place < length ws
  counted : number ≡ first + place
  told : (b : N × Option NodeFault) → (fault : NodeFault) × ((slice_index_or ws place b).1 ≡ Some fault) × (f ≡ of_node config number fault)

told_at : {N : Type 0} (config : Config) (first : ℕ) (ws : List (N × Option NodeFault)) (f : RunFault) → first_fault config first ws ≡ Some f → IsToldAt config first ws f
told_at config first [] f is = absurd (cc is)
told_at config first ((v, None) ∷ ws) f is =
    let r = told_at config (suc first) ws f is in
    record { place = suc r.place; number = r.number; within = omega (arith, r.within); counted = omega (arith, r.counted); told = λ b. r.told b }
told_at config first ((v, Some fault) ∷ ws) f is =
    record { place = 0; number = first; within = omega arith; counted = omega arith; told = λ b. (fault, refl, sym (some_same (of_node config first fault) f is)) }

-- it is that of a node of the setting
pub record IsToldOf {N : Type 0} (config : Config) (g : Setting) (ws : List (N × Option NodeFault)) (f : RunFault) : Type 0 where
  pub node : Node
  pub is : IsNode g node
  pub default : N × Option NodeFault
  pub within : node_number node < length ws
  pub fault : NodeFault
  pub has : (slice_index_or ws (node_number node) default).1 ≡ Some fault
  pub told : f ≡ of_node config (node_number node) fault

pub told_of_node : {N : Type 0} (config : Config) (g : Setting) → NumbersAreNodes g → (ws : List (N × Option NodeFault)) → length ws ≡ node_count g → (f : RunFault) → first_fault config 0 ws ≡ Some f → IsToldOf config g ws f
told_of_node {N} config g numbers ws count f is =
    let t = told_at config 0 ws f is in
    let b = some_of ws (omega (arith, t.within)) in
    let n = numbers.each t.place (omega (arith, t.within, count)) in
    let back = numbers.back t.place n.0 n.1 in
    let at = t.told b in
    let same : t.number ≡ node_number n.0 = omega (arith, back.0, t.counted) in
    record {
      node = n.0;
      is = back.1;
      default = b;
      within = omega (arith, t.within, back.0);
      fault = at.0;
      has = subst (λ k. (slice_index_or ws k b).1 ≡ Some at.0) (sym back.0) at.1;
      told = at.2 ∙ ap (λ k. of_node config k at.0) same;
    }

-- what the topology's disk keeps is a journal of its kind
topology_kept : (t : Option SettingTopology) (c : List ℕ) → KeepsTopology t c → IsJournalOf TopologyDisk c
topology_kept t c keeps = (option_map (λ (u : SettingTopology). topology_as u.joiners u.table) t, keeps)

-- ---- what a run leaves

module _ {N D : Type 0} (image : D → List ℕ → Type 0) (places : N → AnyState → Type 0) (grown : N → N → Type 0) (disks_of : Config → ℕ → N → List (Lent D)) (laws : AreHeld image places grown disks_of)
    (g : Setting) (config : Config) (asked : g.config ≡ config) (numbers : NumbersAreNodes g) (d : Disks) (log : RunLog) (ws : List (N × Option NodeFault)) (rest : Bool)
    (left : IsRunFrom places g d log.air.history ws rest) (count : length ws ≡ node_count g) (topology : Lent D) (kept : KeepsItsRecord image g topology) (inside after : Images)
    (by : (disk : DiskName) (c : List ℕ) → after disk c → MayBeLeft image inside (topology ∷ all_from (λ i (w : N × Option NodeFault). disks_of config i w.0) 0 ws) disk c) where
  abbrev h : List BusEntry
  h = log.air.history

  abbrev disks_at : ℕ → N × Option NodeFault → List (Lent D)
  disks_at i w = disks_of config i w.0

  hold : AllHold image disks_at g left.at ws
  hold = record {
    count = count;
    each = λ n is a. subst (λ k. HoldsAs image k n (left.at n) (disks_at (node_number n) (slice_index_or ws (node_number n) a))) (sym asked)
        (laws.held config n (left.at n) (slice_index_or ws (node_number n) a).0 (left.stand n is a));
  }

  is_left : IsLeftBy image g topology (all_from disks_at 0 ws) after
  is_left disk is c here = ⊎_elim (λ in_it. absurd (lacks_none image disks_at g left.at ws topology numbers hold kept.named disk is (node_with g disk) refl in_it.0)) (λ of. of) (by disk c here)

  keeps_all : AreKept g left.at after
  keeps_all = all_kept image disks_at g left.at ws topology numbers hold kept.named kept after is_left

  pub has_run : HasRun g d h after
  has_run = record { at = left.at; entries = left.entries; run = left.run; keeps = keeps_all }

  -- ---- at rest

  module _ (resting : IsTrue rest) where
    abbrev end_world : World
    end_world = world_after g (opening d) left.entries

    pub keep : AllKeep image disks_at g left.at ws
    keep = record {
      count = count;
      each = λ n is a. subst (λ k. KeepsAs image k n (left.at n) (disks_at (node_number n) (slice_index_or ws (node_number n) a))) (sym asked)
          (laws.rested config n (left.at n) (slice_index_or ws (node_number n) a).0 (closed_of n (left.at n) (left.closed resting n is)) (left.stand n is a));
    }

    pub same : (n : Node) → IsNode g n → kept_of (disks end_world) n ≡ (left.at n).kept
    same n is = kept_same end_world n ∙ (left.run.stands n is).kept

    holds : (disk : DiskName) → IsDisk g disk → (c : List ℕ) → after disk c → KeepsOf g (disks end_world) disk c
    holds disk is c here = all_keep image disks_at g left.at ws topology numbers hold kept.named keep (disks end_world) same disk is c (is_left disk is c here)

    -- what was read back is what the disks keep
    pub rests : HoldSameRecords → ReadNotesAreKept → (tells : Bool) → IsTrue tells → (journals : Journals) → AreKeptIn tells image KeepsNotes (lent_replicas (topology ∷ all_from disks_at 0 ws)) journals.notes.items
        → AreKeptIn tells image KeepsPairs (lent_outputs (topology ∷ all_from disks_at 0 ws)) journals.pairs.items → (faulted : Type 0) → ((faulted → ⊥) → NoJoinerStops left.entries) → HasRested g d h after faulted journals
    rests once read tells sure journals notes pairs faulted stops =
        record {
          at = left.at;
          entries = left.entries;
          run = left.run;
          rest = left.at_rest resting;
          keeps = keeps_all;
          holds = holds;
          read = read_is image disks_at g numbers left.at ws topology tells journals once read keep kept.named (disks end_world) same sure notes pairs;
          stops = stops;
        }

    -- at rest whatever a stop leaves of a disk is a journal of its kind
    never_damaged : (disk : DiskName) (at : ℕ) (c : List ℕ) → IsOfOne image (topology ∷ all_from disks_at 0 ws) disk c → damaged_by disk c at → ⊥
    never_damaged disk at =
        by_topology (λ disk. (c : List ℕ) → IsOfOne image (topology ∷ all_from disks_at 0 ws) disk c → damaged_by disk c at → ⊥)
        (λ c here. undamaged TopologyDisk c at (topology_kept (Some (topology_of g)) c (kept.keeps c (topology_image image disks_at g left.at ws topology numbers hold kept.named c here))))
        (λ disk other c here.
        let is = disk_there image disks_at g left.at ws topology numbers hold kept.named disk other here.one here.among here.named in
        undamaged disk c at (journal_of g (disks end_world) disk other c (all_keep image disks_at g left.at ws topology numbers hold kept.named keep (disks end_world) same disk is c here))) disk

    -- so a fault of reading them back is none of damage
    pub read_back_of : (faulted : Type 0) (f : RunFault) → (tells : Bool) → IsTrue tells → IsOfDisks tells image (topology ∷ all_from disks_at 0 ws) faulted f → IsOfRun g d faulted (Some log) f
    read_back_of faulted (run.Store (at.Disk disk)) tells sure of =
        let read = of.0.0 in
        let other : disk ≢ TopologyDisk = λ e. absurd (cc (sym (ap is_read e) ∙ read)) in
        inr (left.still resting, disk_there image disks_at g left.at ws topology numbers hold kept.named disk other of.0.1 of.0.2 of.0.3, read)
    read_back_of faulted (run.Damaged disk at) tells sure of = let x = of sure in never_damaged disk at x.0 x.1 x.2
    read_back_of faulted run.Memory tells sure of = tt
    read_back_of faulted _ tells sure of = absurd of

  module _ {L : Type 0} (disk_faults : D → ℕ) (log_faults : L → ℕ) (m : Ghosts N) (logs_of : N → List L) (met : AreMet disk_faults log_faults m places disks_of logs_of)
      (stopped : (i : ℕ) (b : N × Option NodeFault) → i < length ws → HasMet m.faults m.waits (slice_index_or ws i b).0 (slice_index_or ws i b).1 (made_by i h)) (faulted : Type 0)
      (rises : (l : Lent D) → Mem l (topology ∷ all_from disks_at 0 ws) → 1 ≤ disk_faults l.disk → faulted) where
    inside_all : (n : Node) → IsNode g n → node_number n < length ws
    inside_all n is = let under = numbers.below n is in omega (arith, under, count)

    one_of : (n : Node) → IsNode g n → N × Option NodeFault
    one_of n is = some_of ws (omega (arith, inside_all n is))

    met_at : (n : Node) (is : IsNode g n) → HasMet m.faults m.waits (slice_index_or ws (node_number n) (one_of n is)).0 (slice_index_or ws (node_number n) (one_of n is)).1 (made_by (node_number n) h)
    met_at n is = stopped (node_number n) (one_of n is) (inside_all n is)

    has_stopped : (n : Node) → IsNode g n → list_any is_stop (made_by (node_number n) h) ≡ true → faulted
    has_stopped n is has =
        let j = node_number n in
        let l = met.disks config j (slice_index_or ws j (one_of n is)).0 ((met_at n is).stops has) in
        rises l.0 (inr (at_place disks_at 0 j j ws (one_of n is) l.0 (inside_all n is) (omega arith) l.1)) l.2

    -- unless a disk met a fault no joiner has stopped
    pub no_stops : NoneStops → (faulted → ⊥) → NoJoinerStops left.entries
    no_stops law never = law g d h left.at left.entries left.run (λ j is has. never (has_stopped (Joiner j) is has))

    -- a node whose work ended so is in a turn
    in_turn : (n : Node) → IsNode g n → (b : N × Option NodeFault) (f : NodeFault) → (slice_index_or ws (node_number n) b).1 ≡ Some f → f ≢ node.Stopped → f ≢ node.Memory → is_in_turn (made_by (node_number n) h) ≡ true
    in_turn n is b f told other short = (stopped (node_number n) b (inside_all n is)).within f told other short

    -- what is told of a node
    node_told : AreCaused m.disk_faults m.log_faults ws → (n : Node) → IsNode g n → (b : N × Option NodeFault) (f : NodeFault) → (slice_index_or ws (node_number n) b).1 ≡ Some f → IsOfRun g d faulted (Some log) (of_node config (node_number n) f)
    node_told caused n is b node.Stopped told = (n, is, refl, (stopped (node_number n) b (inside_all n is)).ended told)
    node_told caused n is b (node.Disk disk) told =
        inl (n, is, subst (λ (k : Config). Mem (disk_of k (node_number n) disk) (names_of g.config n)) asked (disk_among g n is disk), in_turn n is b (node.Disk disk) told (λ e. cc e) (λ e. cc e))
    node_told caused n is b (node.Damaged disk at) told = left.whole n is b disk at told
    node_told caused n is b node.Read told =
        let j = node_number n in
        (n, is, log_is g n is (met.reads n (left.at n) (slice_index_or ws j b).0 (left.stand n is b) ((caused j b (inside_all n is)).read told)), in_turn n is b node.Read told (λ e. cc e) (λ e. cc e))
    -- the last entries of its node say so of a limit
    node_told caused n is b (node.Spent epoch) told = record {
      node = n;
      is = is;
      named = ap (λ (k : Config). disk_of k (node_number n) First) (sym asked);
      came = left.spent n is b epoch told;
      few = (met_at n is).most;
      met = λ some. has_stopped n is (some_counted (made_by (node_number n) h) some);
    }
    node_told caused n is b node.Memory told = tt

    -- and so what is told of the first that has a fault
    pub first_told : AreCaused m.disk_faults m.log_faults ws → (f : RunFault) → first_fault config 0 ws ≡ Some f → IsOfRun g d faulted (Some log) f
    first_told caused f is =
        let t = told_of_node config g numbers ws count f is in
        subst (IsOfRun g d faulted (Some log)) (sym t.told) (node_told caused t.node t.is t.default t.fault t.has)

-- ---- how many disks there are

-- as many as there were, where each node has as many as it had
pub same_count : {N X : Type 0} (f : ℕ → N → List X) (count : N → ℕ) → ((k : ℕ) (v : N) → length (f k v) ≡ count v) → (k : ℕ) (vs : List N) (ws : List (N × Option NodeFault)) → length ws ≡ length vs
    → ((i : ℕ) (a : N) (b : N × Option NodeFault) → i < length vs → count (slice_index_or ws i b).0 ≡ count (slice_index_or vs i a)) → length (all_from (λ i (w : N × Option NodeFault). f i w.0) k ws) ≡ length (all_from f k vs)
same_count f count each k [] [] long same = refl
same_count f count each k [] (w ∷ ws) long same = absurd (omega (arith, long))
same_count f count each k (v ∷ vs) [] long same = absurd (omega (arith, long))
same_count {N} f count each k (v ∷ vs) (w ∷ ws) long same =
    let others = same_count f count each (suc k) vs ws (omega (arith, long)) (λ i a b below. same (suc i) a b (omega (arith, below))) in
    let first = same 0 v w (omega arith) in
    let behind = length-append (f k w.0) (all_from (λ i (x : N × Option NodeFault). f i x.0) (suc k) ws) in
    omega (arith, behind, length-append (f k v) (all_from f (suc k) vs), each k w.0, each k v, first, others)

-- ---- how the disks have gone on

pub goes_on : {N D : Type 0} (image : D → List ℕ → Type 0) (places : N → AnyState → Type 0) (grown : N → N → Type 0) (disks_of : Config → ℕ → N → List (Lent D)) → AreHeld image places grown disks_of
    → (g : Setting) (config : Config) → NumbersAreNodes g → (vs : List N) (ws : List (N × Option NodeFault)) → length vs ≡ node_count g → length ws ≡ length vs → HaveGrown grown g vs ws
    → (topology : Lent D) (before inside after : Images) → AreOut image before inside topology (all_from (disks_of config) 0 vs)
    → ((disk : DiskName) (c : List ℕ) → after disk c → MayBeLeft image inside (topology ∷ all_from (λ i (w : N × Option NodeFault). disks_of config i w.0) 0 ws) disk c) → (disk : DiskName) → GoesOn (before disk) (after disk)
goes_on {N} image places grown disks_of laws g config numbers vs ws count_before count grew topology before inside after out by disk c here =
    let gone = all_gone_on image (disks_of config) (λ i (w : N × Option NodeFault). disks_of config i w.0) g numbers vs ws count_before count
    (λ n is a b. let grows = grew n is a b in laws.gone_on config (node_number n) grows.0 (slice_index_or vs (node_number n) a) (slice_index_or ws (node_number n) b).0 grows.1) in
    given_goes_on image before inside topology _ (gone_out image before inside topology _ _ gone out) disk c (by disk c here)

-- ---- the fault that is told

module _ {N D L : Type 0} (disk_faults : D → ℕ) (log_faults : L → ℕ) (m : Ghosts N) (places : N → AnyState → Type 0) (disks_of : Config → ℕ → N → List (Lent D)) (logs_of : N → List L) (met : AreMet disk_faults log_faults m places disks_of logs_of)
    (config : Config) (logs_rose disks_rose : Type 0) where
  node_fault : (i : ℕ) (v : N) (f : NodeFault) (mine : List BusEntry) → HasMet m.faults m.waits v (Some f) mine → IsCaused m.disk_faults m.log_faults v (Some f) → ((l : Lent D) → Mem l (disks_of config i v) → 1 ≤ disk_faults l.disk → disks_rose) → ((l : L) → Mem l (logs_of v) → 1 ≤ log_faults l → logs_rose)
      → IsCounted logs_rose disks_rose (of_node config i f)
  node_fault i v node.Stopped mine ended caused rise reads =
      let eight = ended.ended refl in
      let l = met.disks config i v (ended.stops (some_counted mine (omega (arith, eight)))) in
      rise l.0 l.1 l.2
  node_fault i v (node.Disk disk) mine ended caused rise reads = let l = met.each config i v disk (caused.disk disk refl) in rise l.0 l.1 l.2
  node_fault i v (node.Damaged disk at) mine ended caused rise reads = tt
  node_fault i v node.Read mine ended caused rise reads = let l = met.logs v (caused.read refl) in reads l.0 l.1 l.2
  node_fault i v (node.Spent epoch) mine ended caused rise reads = tt
  node_fault i v node.Memory mine ended caused rise reads = tt

  -- it has its cause
  pub fault_told : (h : List BusEntry) (ws : List (N × Option NodeFault)) → ((i : ℕ) (b : N × Option NodeFault) → i < length ws → HasMet m.faults m.waits (slice_index_or ws i b).0 (slice_index_or ws i b).1 (made_by i h)) → AreCaused m.disk_faults m.log_faults ws
      → ((l : Lent D) → Mem l (all_from (λ k (w : N × Option NodeFault). disks_of config k w.0) 0 ws) → 1 ≤ disk_faults l.disk → disks_rose)
      → ((l : L) → Mem l (all_from (λ k (w : N × Option NodeFault). logs_of w.0) 0 ws) → 1 ≤ log_faults l → logs_rose)
      → (f : RunFault) → first_fault config 0 ws ≡ Some f → IsCounted logs_rose disks_rose f
  fault_told h ws ended caused rise reads f is =
      let t = told_at config 0 ws f is in
      let b = some_of ws (omega (arith, t.within)) in
      let x = t.told b in
      let w = slice_index_or ws t.place b in
      subst (IsCounted logs_rose disks_rose) (sym x.2)
      (node_fault t.number w.0 x.0 (made_by t.place h) (subst (λ o. HasMet m.faults m.waits w.0 o (made_by t.place h)) x.1 (ended t.place b t.within)) (subst (λ o. IsCaused m.disk_faults m.log_faults w.0 o) x.1 (caused t.place b t.within)) (λ l m. rise l (at_place (λ k (v : N × Option NodeFault). disks_of config k v.0) 0 t.place t.number ws b l t.within t.counted m))
      (λ l m. reads l (at_place (λ k (v : N × Option NodeFault). logs_of v.0) 0 t.place t.number ws b l t.within t.counted m)))

-- ---- a fault of the disks

pub disks_counted : {D : Type 0} (tells : Bool) (image : D → List ℕ → Type 0) (lent : List (Lent D)) (logs_rose disks_rose : Type 0) (f : RunFault) → IsOfDisks tells image lent disks_rose f → IsCounted logs_rose disks_rose f
disks_counted tells image lent logs_rose disks_rose f of = grind arith

-- and of no node
pub disks_alone : {D : Type 0} (tells : Bool) (image : D → List ℕ → Type 0) (lent : List (Lent D)) (disks_rose P : Type 0) (f : RunFault) (n : ℕ) → IsOfDisks tells image lent disks_rose f → f ≡ run.Store (at.Node n) → P
disks_alone tells image lent disks_rose P f n of is = absurd (subst (IsOfDisks tells image lent disks_rose) is of)

-- ---- a fault that names a node

node_named : (config : Config) (n k : ℕ) (nf : NodeFault) → run.Store (at.Node n) ≡ of_node config k nf → (nf ≡ node.Stopped) × (n ≡ k)
node_named config n k node.Stopped is = (refl, cc)
node_named config n k _ is = absurd (cc is)

-- it is of one whose work has ended so
pub first_ended : {N : Type 0} (faults : N → ℕ) (waits : N → Bool) (config : Config) (h : List BusEntry) (ws : List (N × Option NodeFault)) → ((i : ℕ) (b : N × Option NodeFault) → i < length ws → HasMet faults waits (slice_index_or ws i b).0 (slice_index_or ws i b).1 (made_by i h))
    → (f : RunFault) (n : ℕ) → first_fault config 0 ws ≡ Some f → f ≡ run.Store (at.Node n) → stop_count (made_by n h) ≡ 8
first_ended {N} faults waits config h ws met f n is named =
    let t = told_at config 0 ws f is in
    let b = some_of ws (omega (arith, t.within)) in
    let x = t.told b in
    let w = node_named config n t.number x.0 (sym named ∙ x.2) in
    let same : n ≡ t.place = omega (arith, w.1, t.counted) in
    subst (λ k. stop_count (made_by k h) ≡ 8) (sym same) ((met t.place b t.within).ended (x.1 ∙ ap (λ (y : NodeFault). Some y) w.0))

-- ---- where none is told no node has one

pub none_at : {N : Type 0} (config : Config) (i : ℕ) (ws : List (N × Option NodeFault)) (k : ℕ) (b : N × Option NodeFault) → first_fault config i ws ≡ None → k < length ws → (slice_index_or ws k b).1 ≡ None
none_at config i [] k b none below = absurd (omega (arith, below))
none_at config i (w ∷ ws) zero b none below = grind arith
none_at config i (w ∷ ws) (suc k) b none below = grind (arith, none_at config (suc i) ws k)

pub no_fault : {N : Type 0} (config : Config) (ws : List (N × Option NodeFault)) → first_fault config 0 ws ≡ None → HasFault ws → ⊥
no_fault {N} config ws none has =
    let b = some_of ws (omega (arith, has.1)) in
    let never : IsSome {T = NodeFault} None = subst (λ (o : Option NodeFault). IsSome o) (none_at config 0 ws has.0 b none has.1) (has.2 b) in
    absurd (cc never)

pub at_rest : {N : Type 0} (config : Config) (ws : List (N × Option NodeFault)) (rest : Bool) → (rest ≡ false → HasFault ws) → first_fault config 0 ws ≡ None → IsTrue rest
at_rest config ws true fault none = refl
at_rest config ws false fault none = absurd (no_fault config ws none (fault refl))
