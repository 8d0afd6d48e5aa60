-- The numbers of a setting, the names of its nodes' disks and logs, whose disk a name is, and lists that are put together place by place.
use Rattle.std.proofs.Common.{◌≡◌, ◌≢◌, ℕ, ◌+◌, ◌*◌, ◌<◌, ◌≤◌, Bool, true, false, if◌then◌else◌, None, Some, refl, sym, subst, arith, ⊎_elim, zero, suc, List, [], ◌∷◌, length, slice_index_or}
use Rattle.site_run.proofs.Words.{lt-ltb, ltb-false, Mem, Config, DiskName, IsNode, Node, Dispatcher, Server, Replica, Joiner, NodeDisk, Setting, count_of, disk_of, node_number, site_of, of_two, joiner_disk, log_of, log_read, names_of, mem_left, mem_right, mem_split, IsDisk, joiner_of, is_joiner, node_with, place_at, all_from, EachPair, one_seat, OffsetDisk, ReplicaDisk, RetryDisk, ServerDisk, TopologyDisk}

-- a joiner's site and its place there have its number
pub record IsSeat (c : Config) (n site place : ℕ) : Type 0 where
  pub site_below : site < 2
  pub place_below : place < c.joiners
  pub number : 4 + c.replicas + site * c.joiners + place ≡ n

pub seat_of : (c : Config) (n : ℕ) → 4 + c.replicas ≤ n → n < count_of c → IsSeat c n (site_of c n) (place_at c n)
seat_of c n from below = grind (arith, ltb-false)

-- ---- the names of a node's disks

then_first : {A : Type 0} (b : Bool) (x y : A) → b ≡ true → (if b then x else y) ≡ x
then_first true x y is = refl
then_first false x y is = absurd (cc is)

then_second : {A : Type 0} (b : Bool) (x y : A) → b ≡ false → (if b then x else y) ≡ y
then_second true x y is = absurd (cc is)
then_second false x y is = refl

-- a node's disk of a place
abbrev pub node_disk : Config → Node → NodeDisk → DiskName
node_disk c (Dispatcher s) disk = of_two (OffsetDisk s) (RetryDisk s) disk
node_disk c (Server s) disk = ServerDisk s
node_disk c (Replica r) disk = ReplicaDisk r
node_disk c (Joiner j) disk = joiner_disk c j disk

pub disk_is : (g : Setting) (n : Node) → IsNode g n → (disk : NodeDisk) → disk_of g.config (node_number n) disk ≡ node_disk g.config n disk
disk_is g h is disk = grind (arith, then_first, lt-ltb, then_second)

among_its : (c : Config) (n : Node) (disk : NodeDisk) → Mem (node_disk c n disk) (names_of c n)
among_its c h k = grind arith

pub disk_among : (g : Setting) (n : Node) → IsNode g n → (disk : NodeDisk) → Mem (disk_of g.config (node_number n) disk) (names_of g.config n)
disk_among g n is disk = subst (λ d. Mem d (names_of g.config n)) (sym (disk_is g n is disk)) (among_its g.config n disk)

-- the log of a node that reads one
pub log_is : (g : Setting) (n : Node) → IsNode g n → log_read n ≢ None → log_read n ≡ Some (log_of (node_number n))
log_is g h is some = grind (arith, then_first, lt-ltb, then_second)

-- ---- lists put together

module _ {N X : Type 0} (f : ℕ → N → List X) where
  -- what is in all of them is in the one of some place
  pub record IsFrom (k : ℕ) (ns : List N) (x : X) : Type 0 where
    pub place : ℕ
    pub number : ℕ
    pub within : place < length ns
    pub counted : number ≡ k + place
    pub among : (a : N) → Mem x (f number (slice_index_or ns place a))

  pub from_place : (k : ℕ) (ns : List N) (x : X) → Mem x (all_from f k ns) → IsFrom k ns x
  from_place k [] x m = absurd m
  from_place k (n ∷ ns) x m = ⊎_elim (λ here. record { place = 0; number = k; within = omega arith; counted = omega arith; among = λ a. here }) (λ rest. later (from_place (suc k) ns x rest)) (mem_split x (f k n) (all_from f (suc k) ns) m)
    where
      later : IsFrom (suc k) ns x → IsFrom k (n ∷ ns) x
      later r = record { place = suc r.place; number = r.number; within = omega (arith, r.within); counted = omega (arith, r.counted); among = r.among }

  -- and what is in the one of a place is in all
  pub at_place : (k i j : ℕ) (ns : List N) (a : N) (x : X) → i < length ns → j ≡ k + i → Mem x (f j (slice_index_or ns i a)) → Mem x (all_from f k ns)
  at_place k i j [] a x within counted m = absurd (omega (arith, within))
  at_place k zero j (n ∷ ns) a x within counted m = mem_left x (f k n) (all_from f (suc k) ns) (subst (λ i. Mem x (f i n)) (omega (arith, counted)) m)
  at_place k (suc i) j (n ∷ ns) a x within counted m = mem_right x (f k n) (all_from f (suc k) ns) (at_place (suc k) i j ns a x (omega (arith, within)) (omega (arith, counted)) m)

-- ---- whose disk a name is

-- a node whose disk has this name is that one
pub owner : (g : Setting) (n : Node) (disk : DiskName) → IsNode g n → Mem disk (names_of g.config n) → node_with g disk ≡ Some n
owner g h k is has = grind arith

-- and that name is one of the setting's
pub of_setting : (g : Setting) (n : Node) (disk : DiskName) → IsNode g n → Mem disk (names_of g.config n) → IsDisk g disk
of_setting g h k is has = grind arith

-- a joiner's disks have the names of its seat
seat_is : (g : Setting) (s j : ℕ) → s < 2 → j < g.config.joiners → (site_of g.config (joiner_of g s j) ≡ s) × (place_at g.config (joiner_of g s j) ≡ j)
seat_is g s j s_below j_below =
    let is = is_joiner g s j s_below j_below in
    let seat = seat_of g.config (joiner_of g s j) is.0 is.1 in
    one_seat g _ _ s j seat.site_below seat.place_below s_below j_below seat.number

-- a disk of the setting has a name of its node's
pub has_name : (g : Setting) (disk : DiskName) (n : Node) → IsDisk g disk → node_with g disk ≡ Some n → Mem disk (names_of g.config n)
has_name g disk n here own = grind (arith, seat_is)

-- no node has the topology's
pub no_owner : (g : Setting) (disk : DiskName) → node_with g disk ≡ None → disk ≡ TopologyDisk
no_owner g disk none = grind arith

-- a node's disks have names of their own
pub names_apart : (config : Config) (n : Node) → EachPair (λ one other. one ≢ other) (names_of config n)
names_apart config n = grind arith
