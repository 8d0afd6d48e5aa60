-- A run by the stops that are planned for the disks of its nodes.
use Rattle.std.proofs.Common.{◌≡◌, ◌≢◌, ℕ, ◌+◌, ◌<◌, ◌≤◌, Bool, false, List, [], ◌∷◌, length, map, Option, None, Some, slice_index_or, refl, sym, ◌∙◌, ap, subst, arith, IfErr, IfSome, Result, All}
use Rattle.outside.specs.Plans.{AtMost}
use Rattle.run_fault.specs.declared.fault.RunFault.TheVariants as fault
use Rattle.site_node.specs.declared.kind.NodeFault.TheVariants as node_fault
use Rattle.site_workers.specs.FourKinds as one
use Rattle.site_workers.specs.declared.one_of.OneOf.TheVariants as node
use Rattle.site_run.specs.Stops.{AllInAll, ArePlanned, AreSpared, RunsAsPlanned, StopsAsPlanned}
use Rattle.site_run.proofs.Words.{list_any, Each, Mem, each_at, each_from, each_more, AreUp, HasMet, RunFault, first_fault, of_node, Lent, OneOf, BusEntry, Begin, End, Stop, NodeFault, Setting, Disks, Node, Joiner, IsNode, NumbersAreNodes, AnyState, node_number, node_count, down_over, made_by, all_from, site_of, is_stop, stop_count, AreHeld, AreDownOver, NoJoinerStopped, RunLog, Config, DisksIn, disks_by, DiskName, AllAsPlanned, HasSoon, IsAsPlanned, each_calm, same_left, StorePlace, OfBoth, HasAtMost, KeepsPlan, open_stops, names_of, place_at as joiner_of, EpochDisk, OutputDisk, TopologyDisk}
use Rattle.site_run.proofs.Places.{at_place, from_place}
use Rattle.site_run.proofs.Lists.{some_of}
use Rattle.site_run.proofs.Running.{told_of_node}

-- ---- the stops of config

none_counted : (es : List BusEntry) → stop_count es ≤ 0 → list_any is_stop es ≡ false
none_counted [] few = refl
none_counted (Begin node input ∷ es) few = none_counted es few
none_counted (End node noted packets kept ∷ es) few = none_counted es few
none_counted (Stop node landed ∷ es) few = absurd (omega (arith, few))

-- where none is planned of a joiner's disk no joiner stops
pub none_of_joiners : (left : DiskName → ℕ → Type 0) (g : Setting) (h : List BusEntry) → ((site joiner : ℕ) → left (EpochDisk site joiner) 0 × left (OutputDisk site joiner) 0)
    → StopsAsPlanned left g h → NoJoinerStopped g h
none_of_joiners left g h none few = λ j is stopped.
    let none_here = none (site_of g.config j) (joiner_of g.config j) in
    let never = none_counted (made_by j h) (few (Joiner j) is 0 (0, 0, none_here.0, (0, 0, none_here.1, refl, refl), refl)) in
    cc (never, stopped)

-- ---- where as many stops were planned before

pub all_earlier : {A : Type 0} (old new : A → ℕ → Type 0) → ((x : A) (k : ℕ) → old x k → new x k) → (xs : List A) (k : ℕ) → AllInAll old xs k → AllInAll new xs k
all_earlier old new on [] k has = has
all_earlier old new on (x ∷ xs) k has = (has.0, has.1, on x has.0 has.2, all_earlier old new on xs has.1 has.3, has.4)

pub stops_earlier : (o : Option RunLog) (old new : DiskName → ℕ → Type 0) (g : Setting) → ((disk : DiskName) (k : ℕ) → old disk k → new disk k)
    → IfSome o (λ l. StopsAsPlanned new g l.air.history) → IfSome o (λ l. StopsAsPlanned old g l.air.history)
stops_earlier None old new g on few = tt
stops_earlier (Some l) old new g on few = λ n is k has. few n is k (all_earlier old new on (names_of g.config n) k has)

-- a store with the same plan, of which as many calls were made
pub soon_earlier : {S : Type 0} (stops : S → DiskName → ℕ → Bool) (made : S → DiskName → ℕ) (old new : S) → ((disk : DiskName) (n : ℕ) → stops new disk n ≡ stops old disk n) → ((disk : DiskName) → made new disk ≡ made old disk)
    → (disk : DiskName) → HasSoon stops made new disk → HasSoon stops made old disk
soon_earlier stops made old new same at TopologyDisk soon = λ none. soon (same_left 0 (stops old TopologyDisk) (stops new TopologyDisk) (made old TopologyDisk) (made new TopologyDisk) (same TopologyDisk) (at TopologyDisk) none)
soon_earlier stops made old new same at disk soon = grind arith

-- behind calls that meet no fault where none is planned
pub planned_earlier : {A : Type 0} (o : Option RunLog) (old new : DiskName → ℕ → Type 0) (soon_old soon_new : DiskName → Type 0) (g : Setting) (first mid last : ℕ) (r : Result A RunFault) → ((disk : DiskName) (k : ℕ) → old disk k → new disk k)
    → ((disk : DiskName) → soon_new disk → soon_old disk) → (((disk : DiskName) → old disk 0) → mid ≡ first) → RunsAsPlanned new soon_new g o mid last r → RunsAsPlanned old soon_old g o first last r
planned_earlier o old new soon_old soon_new g first mid last r on back calm so = grind (arith, stops_earlier, all_earlier)

-- where no run began
pub none_planned : {A : Type 0} (o : Option RunLog) (left : DiskName → ℕ → Type 0) (soon : DiskName → Type 0) (g : Setting) (before after : ℕ) (r : Result A RunFault) → o ≡ None → (((disk : DiskName) → left disk 0) → after ≡ before)
    → (AreSpared left soon g → IfErr r (λ f. (at : StorePlace) → f ≢ fault.Store at)) → RunsAsPlanned left soon g o before after r
none_planned o left soon g before after r none calm spared = record { stops = subst (λ (x : Option RunLog). IfSome x (λ l. StopsAsPlanned left g l.air.history)) (sym none) tt; calm = calm; spared = spared }

-- ---- a node's disks, by what is planned under their names

-- a node that stopped once at most names no place of the store
not_ended : (config : Config) (number : ℕ) (nf : NodeFault) (left stops : ℕ) → left + stops + open_stops (Some nf) ≤ 1 → (nf ≡ node_fault.Stopped → stops ≡ 8) → (at : StorePlace) → of_node config number nf ≢ fault.Store at
not_ended config number node_fault.Stopped left stops few ended at is = let eight = ended refl in absurd (omega (arith, few, eight))
not_ended config number (node_fault.Disk disk) left stops few ended at is = absurd (omega (arith, few))
not_ended config number _ left stops few ended at is = absurd (cc is)

module _ {N D : Type 0} (stops : D → ℕ → Bool) (made disk_faults : D → ℕ) (is_down : D → Bool) (stops_left : N → ℕ → Type 0) (faults : N → ℕ) (waits : N → Bool) (disks_of : Config → ℕ → N → List (Lent D))
    (laws : ArePlanned stops made disk_faults is_down stops_left faults waits disks_of) (config : Config) (left : DiskName → ℕ → Type 0) where
  abbrev Planned : List (Lent D) → Type 0
  Planned = AllAsPlanned stops made disk_faults left

  abbrev Named : List (Lent D) → ℕ → Type 0
  Named lent = AllInAll left (map (λ (l : Lent D). l.name) lent)

  as_named : (lent : List (Lent D)) (k : ℕ) → Planned lent → Named lent k → AllInAll (λ (l : Lent D). AtMost (stops l.disk) (made l.disk)) lent k
  as_named [] k planned has = has
  as_named (l ∷ ls) k planned has = (has.0, has.1, planned.0.most has.0 has.2, as_named ls has.1 planned.1 has.3, has.4)

  none_named : ((disk : DiskName) → left disk 0) → (lent : List (Lent D)) → Named lent 0
  none_named none [] = refl
  none_named none (l ∷ ls) = (0, 0, none l.name, none_named none ls, refl)

  -- ---- the nodes of a run

  module _ (vs : List N) (ws : List (N × Option NodeFault)) (h : List BusEntry) (planned : Planned (all_from (disks_of config) 0 vs))
      (kept : (i : ℕ) (a : N) (b : N × Option NodeFault) → i < length vs → KeepsPlan stops_left faults waits (slice_index_or vs i a) None [] (slice_index_or ws i b).0 (slice_index_or ws i b).1 (made_by i h)) where
    own : (i : ℕ) (a : N) → i < length vs → Planned (disks_of config i (slice_index_or vs i a))
    own i a below =
        each_from (λ (l : Lent D). IsAsPlanned stops made disk_faults (left l.name) l.disk) (disks_of config i (slice_index_or vs i a))
        (λ l among. each_at (λ (l : Lent D). IsAsPlanned stops made disk_faults (left l.name) l.disk) (all_from (disks_of config) 0 vs) planned l (at_place (disks_of config) 0 i i vs a l below (omega arith) among))

    at_first : (i : ℕ) (a : N) (k : ℕ) → i < length vs → Named (disks_of config i (slice_index_or vs i a)) k → HasAtMost stops_left k (slice_index_or vs i a) None []
    at_first i a k below has = (k, laws.left config i k (slice_index_or vs i a) (as_named (disks_of config i (slice_index_or vs i a)) k (own i a below) has), omega arith)

    -- where no stop is planned it met no fault, and waits as it did
    stays_calm : ((disk : DiskName) → left disk 0) → (i : ℕ) (a : N) (b : N × Option NodeFault) → i < length vs → (faults (slice_index_or ws i b).0 ≡ 0) × (waits (slice_index_or ws i b).0 ≡ waits (slice_index_or vs i a))
    stays_calm none i a b below =
        let lent = disks_of config i (slice_index_or vs i a) in
        let calm = (kept i a b below).calm (at_first i a 0 below (none_named none lent)) in
        (calm.0 ∙ laws.none config i (slice_index_or vs i a) (each_calm stops made disk_faults left lent (own i a below)), calm.1)

    at_end : (P : Lent D → Type 0) → ((i : ℕ) (b : N × Option NodeFault) → i < length ws → Each P (disks_of config i (slice_index_or ws i b).0)) → Each P (all_from (λ i (w : N × Option NodeFault). disks_of config i w.0) 0 ws)
    at_end P each =
        each_from P (all_from (λ i (w : N × Option NodeFault). disks_of config i w.0) 0 ws)
        (λ l among.
        let r = from_place (λ i (w : N × Option NodeFault). disks_of config i w.0) 0 ws l among in
        let b = some_of ws (omega (arith, r.within)) in
        let here : r.number ≡ r.place = omega (arith, r.counted) in
        each_at P (disks_of config r.place (slice_index_or ws r.place b).0) (each r.place b r.within) l (subst (λ k. Mem l (disks_of config k (slice_index_or ws r.place b).0)) here (r.among b)))

    -- the disks of nodes that wait for no restart are up
    pub all_up : ((i : ℕ) (b : N × Option NodeFault) → i < length ws → waits (slice_index_or ws i b).0 ≡ false) → AreUp is_down (all_from (λ i (w : N × Option NodeFault). disks_of config i w.0) 0 ws)
    all_up up =
        at_end (λ (l : Lent D). l.name ≢ TopologyDisk → is_down l.disk ≡ false)
        (λ i b below. each_more (λ (l : Lent D). is_down l.disk ≡ false) (λ (l : Lent D). l.name ≢ TopologyDisk → is_down l.disk ≡ false) (disks_of config i (slice_index_or ws i b).0) (λ l is other. is) (laws.up config i (slice_index_or ws i b).0 (up i b below)))

    module _ (count : length ws ≡ length vs) (up : All (λ v. waits v ≡ false) vs) where
      -- where no stop is planned all disks are up, and met no fault
      pub all_calm : ((disk : DiskName) → left disk 0) → AreUp is_down (all_from (λ i (w : N × Option NodeFault). disks_of config i w.0) 0 ws) × Each (λ l. disk_faults l.disk ≡ 0) (all_from (λ i (w : N × Option NodeFault). disks_of config i w.0) 0 ws)
      all_calm none = (
        all_up (λ i b below. let within : i < length vs = omega (arith, below, count) in let a = some_of vs (omega (arith, within)) in (stays_calm none i a b within).1 ∙ up i a within),
        at_end (λ (l : Lent D). disk_faults l.disk ≡ 0)
            (λ i b below. let within : i < length vs = omega (arith, below, count) in let a = some_of vs (omega (arith, within)) in laws.calm config i (slice_index_or ws i b).0 (stays_calm none i a b within).0),
      )

    module _ (image : D → List ℕ → Type 0) (places : N → AnyState → Type 0) (grown : N → N → Type 0) (held : AreHeld image places grown disks_of) (g : Setting) (same : g.config ≡ config) (numbers : NumbersAreNodes g) (d : Disks)
        (count : length vs ≡ node_count g) (down : AreDownOver places g d vs) where
      -- it has what was planned for its disks at most, at its end too
      few_met : (n : Node) → IsNode g n → (b : N × Option NodeFault) (k : ℕ) → AllInAll left (names_of g.config n) k → HasAtMost stops_left k (slice_index_or ws (node_number n) b).0 (slice_index_or ws (node_number n) b).1 (made_by (node_number n) h)
      few_met n is b k has =
          let j = node_number n in
          let below : j < length vs = let under = numbers.below n is in omega (arith, under, count) in
          let a = some_of vs (omega (arith, below)) in
          let v = slice_index_or vs j a in
          let named = (held.held config n (down_over g d n) v (down n is a)).named ∙ ap (λ c. names_of c n) (sym same) in
          (kept j a b below).most k (at_first j a k below (subst (λ names. AllInAll left names k) (sym named) has))

      -- no node stops more often than was planned for its disks
      pub none_too_often : length ws ≡ length vs → StopsAsPlanned left g h
      none_too_often long n is k has =
          let b = some_of ws (let under = numbers.below n is in omega (arith, under, count, long)) in
          let few = few_met n is b k has in
          omega (arith, few.2)

      -- of those that are spared none tells a fault of the store
      pub none_told : length ws ≡ length vs → ((n : Node) → IsNode g n → AllInAll left (names_of g.config n) 1)
          → ((i : ℕ) (b : N × Option NodeFault) → i < length vs → HasMet faults waits (slice_index_or ws i b).0 (slice_index_or ws i b).1 (made_by i h))
          → (f : RunFault) → first_fault config 0 ws ≡ Some f → (at : StorePlace) → f ≢ fault.Store at
      none_told long spared met f is at of =
          let t = told_of_node config g numbers ws (long ∙ count) f is in
          let j = node_number t.node in
          let few = few_met t.node t.is t.default 1 (spared t.node t.is) in
          let within = t.within in
          let still = subst (λ o. few.0 + stop_count (made_by j h) + open_stops o ≤ 1) t.has few.2 in
          not_ended config j t.fault few.0 (stop_count (made_by j h)) still (λ ended. (met j t.default (omega (arith, within, long))).ended (t.has ∙ ap (λ (x : NodeFault). Some x) ended)) at (sym t.told ∙ of)

-- ---- the stops of a node of any kind

module _ {D A B C E : Type 0} (own : DisksIn D A B C E) (stops : D → ℕ → Bool) (made faults : D → ℕ) (is_down : D → Bool) (a : A → Bool) (b : B → Bool) (c : C → Bool) (e : E → Bool) where
  abbrev Left : D → ℕ → Type 0
  Left disk = AtMost (stops disk) (made disk)

  abbrev left_by : OneOf A B C E → ℕ → Type 0
  left_by = one.has (λ v. OfBoth (Left (own.offset v)) (Left (own.retry v))) (λ v. Left (own.server v)) (λ v. Left (own.replica v)) (λ v. OfBoth (Left (own.epochs v)) (Left (own.outputs v)))

  abbrev faults_by : OneOf A B C E → ℕ
  faults_by = one.by (λ v. faults (own.offset v) + faults (own.retry v)) (λ v. faults (own.server v)) (λ v. faults (own.replica v)) (λ v. faults (own.epochs v) + faults (own.outputs v))

  abbrev waits_by : OneOf A B C E → Bool
  waits_by = one.by a b c e

  abbrev Up : D → Type 0
  Up disk = is_down disk ≡ false

  one_left : (disk : D) (i j k : ℕ) → Left disk i → j ≡ 0 → k ≡ i + j → Left disk k
  one_left disk i j k has none is = let same : i ≡ k = omega (arith, none, is) in subst (Left disk) same has

  module _ (ups : (v : A) → a v ≡ false → Up (own.offset v) × Up (own.retry v)) (up : (v : B) → b v ≡ false → Up (own.server v)) (up_too : (v : C) → c v ≡ false → Up (own.replica v)) (ups_too : (v : E) → e v ≡ false → Up (own.epochs v) × Up (own.outputs v)) where
    left_of : (config : Config) (number k : ℕ) (v : OneOf A B C E) → AllInAll (λ (l : Lent D). Left l.disk) (disks_by own config number v) k → left_by v k
    left_of config number k (node.First v) h = (h.0, h.3.0, h.2, h.3.2, omega (arith, h.4, h.3.4, h.3.3))
    left_of config number k (node.Second v) h = one_left (own.server v) h.0 h.1 k h.2 h.3 h.4
    left_of config number k (node.Third v) h = one_left (own.replica v) h.0 h.1 k h.2 h.3 h.4
    left_of config number k (node.Fourth v) h = (h.0, h.3.0, h.2, h.3.2, omega (arith, h.4, h.3.4, h.3.3))

    none_of_it : (config : Config) (number : ℕ) (v : OneOf A B C E) → Each (λ (l : Lent D). faults l.disk ≡ 0) (disks_by own config number v) → faults_by v ≡ 0
    none_of_it config number v h = grind arith

    calm_of : (config : Config) (number : ℕ) (v : OneOf A B C E) → faults_by v ≡ 0 → Each (λ (l : Lent D). faults l.disk ≡ 0) (disks_by own config number v)
    calm_of config number v none = grind arith

    up_of : (config : Config) (number : ℕ) (v : OneOf A B C E) → waits_by v ≡ false → Each (λ (l : Lent D). is_down l.disk ≡ false) (disks_by own config number v)
    up_of config number v w = grind arith

    pub are_planned : ArePlanned stops made faults is_down left_by faults_by waits_by (disks_by own)
    are_planned = record { left = left_of; none = none_of_it; calm = calm_of; up = up_of }
