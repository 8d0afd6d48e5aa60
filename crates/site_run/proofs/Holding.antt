-- What is said of a node of any kind by its disks: they hold what its state says and go on as it grows, and its faults are theirs, or its log's.
use Rattle.std.proofs.Common.{◌≡◌, ◌⊎◌, inl, inr, ⊎_elim, ℕ, Bool, ◌&&◌, List, [], ◌∷◌, Option, None, Some, ◌+◌, ◌-◌, refl, sym, ap, subst, arith, IsTrue, ◌≢◌, zero, suc, ◌≤◌}
use Rattle.site_run.proofs.Words.{AreHeld, Config, Dispatcher, DiskName, DisksIn, DispatcherState, HoldsAs, IsClosed, Joiner, JoinerState, KeepsAs, KeepsEpoch, KeepsNotes, KeepsOffset, KeepsPairs, KeepsPending, KeepsVotes, MayHold, Node, OneOf, ReadNotesAreKept, Replica, ReplicaKept, ReplicaNote, ReplicaState, Rows, Server, ServerState, State, StateOf, AnyState, any_of, disks_by, dispatcher_rows, joiner_rows, node_number, notes_kept, numbered, replica_rows, server_rows, with_number, written, OnDisk, StandsBy as StandsAt, AreMet, Mem, Lent, of_two as two, NodeDisk, First, Second, Ghosts, log_read, ReplicaDisk, ServerDisk}
use Rattle.replica_node.specs.Kept.{Doubts, Holds}
use Rattle.replica_node.specs.declared.vote_records.VoteRecords.{VoteRecords}
use Rattle.site_run.proofs.Going.{Grown, one_on, reached_on}
use Rattle.site_run.proofs.Walking.{may_hold_so}
use Rattle.outside.specs.declared.disk.Disk as disk
use Rattle.site_node.specs.declared.deciding.Core as core
use Rattle.site_node.specs.declared.records.Records as records
use Rattle.site_workers.specs.FourKinds as one
use Rattle.site_workers.specs.declared.one_of.OneOf.TheVariants as node

-- where disk and log tell, so does a node of any kind
pub all_tell : (disk log : Bool) → IsTrue disk → IsTrue log → IsTrue (((log && disk) && disk) && (disk && (log && disk)))
all_tell disk log d l = grind arith

-- ---- a node of one kind, over its records

module _ {K C N X H R F : Type 0} (c : core.Ghosts C K N X H) (r : records.Ghosts R K C F N X H) (config : Config) where
  -- without an open turn nothing is in doubt
  pub rests : (doubt : Option (List ℕ)) (own : C) (kept : R) (s : State K c.Live) → s.opened ≡ None → StandsAt c r config doubt own kept s → r.holds kept s.kept
  rests None own kept s closed at = at.by.0
  rests (Some d) own kept s closed at = absurd (cc (at.by.opened, closed))

  pub keeps_at_rest : (doubt : Option (List ℕ)) (own : C) (kept : R) (s : State K c.Live) → IsTrue r.tells → s.opened ≡ None → StandsAt c r config doubt own kept s → (bytes : r.Contents) → r.image kept bytes → r.keeps s.kept bytes
  keeps_at_rest doubt own kept s tells closed at = r.held kept s.kept tells (rests doubt own kept s closed at)

  -- what is so of records that are held, or in doubt, is so of some that the state may hold
  pub may_keep : (P : K → Type 0) (doubt : Option (List ℕ)) (own : C) (kept : R) (s : State K c.Live) → ((k : K) → r.holds kept k → P k) → ((k with : K) → r.doubts kept k with → P k ⊎ P with) → StandsAt c r config doubt own kept s → (k : K) × MayHold c.rows s k × P k
  may_keep P None own kept s held doubted at = (s.kept, inl refl, held s.kept at.by.0)
  may_keep P (Some d) own kept s held doubted at =
      let o = at.by in
      let next = written c.rows s o.input in
      ⊎_elim (λ old. (s.kept, inl refl, old)) (λ new. (next, inr (o.begun, o.input, o.opened, o.reads, refl), new)) (doubted s.kept next o.doubted)

-- ---- a replica, whose notes have spellings

module _ {D : Type 0} {d : disk.Ghosts D} (read : ReadNotesAreKept) (r : VoteRecords D d) (bytes : List ℕ) (here : d.image r.journal.disk bytes) where
  as_votes : (k : ReplicaKept) (notes : List ReplicaNote) → k ≡ notes_kept notes → KeepsNotes notes bytes → KeepsVotes k bytes
  as_votes k notes is keeps = subst (λ (x : ReplicaKept). KeepsVotes x bytes) (sym is) (read notes bytes keeps)

  pub held_votes : IsTrue d.tells → (k : ReplicaKept) → Holds r k → KeepsVotes k bytes
  held_votes tells k h = as_votes k h.notes h.is (subst (KeepsNotes h.notes) (sym ((r.journal.settled tells h.ready).durable bytes here)) h.keeps)

  pub doubted_votes : (k with : ReplicaKept) → Doubts r k with → KeepsVotes k bytes ⊎ KeepsVotes with bytes
  doubted_votes k with u = ⊎_elim (λ old. inl (as_votes k u.notes u.is old)) (λ new. inr (as_votes with u.next u.with_is new)) (u.images bytes here)

-- ---- a node of any kind

-- the name of a node's one disk by the node's number
one_name : (name : ℕ → DiskName) (first m : ℕ) → name (first + m - first) ∷ [] ≡ name m ∷ []
one_name name first m = ap (λ k. name k ∷ []) (omega arith)

module _ {D A B C E : Type 0} (own : DisksIn D A B C E) (image : D → List ℕ → Type 0) (a_stands : A → DispatcherState → Type 0) (b_stands : B → ServerState → Type 0) (c_stands : C → ReplicaState → Type 0) (e_stands : E → JoinerState → Type 0) where
  abbrev Bytes : Type 0
  Bytes = ((List ℕ × List ℕ) ⊎ List ℕ) ⊎ (List ℕ ⊎ (List ℕ × List ℕ))

  abbrev stands : OneOf A B C E → AnyState → Type 0
  stands = one.at a_stands b_stands c_stands e_stands

  abbrev images : OneOf A B C E → Bytes → Type 0
  images = one.at (λ v c. image (own.offset v) c.0 × image (own.retry v) c.1) (λ v. image (own.server v)) (λ v. image (own.replica v)) (λ v c. image (own.epochs v) c.0 × image (own.outputs v) c.1)

  abbrev KeptBy : {K L X : Type 0} → Rows K L → (K → X → Type 0) → State K L → X → Type 0
  KeptBy {K} rows keeps s c = (k : K) × MayHold rows s k × keeps k c

  abbrev keep : AnyState → Bytes → Type 0
  keep =
      one.both (one.both (KeptBy (numbered dispatcher_rows) (λ k c. KeepsOffset k.disk.offset c.0 × KeepsPending k.disk.pending c.1)) (KeptBy (numbered server_rows) (λ k. KeepsEpoch k.disk.epoch)))
      (one.both (KeptBy replica_rows OnDisk) (KeptBy (numbered joiner_rows) (λ k c. KeepsEpoch k.disk.epoch c.0 × KeepsPairs k.disk.pairs c.1)))

  -- whatever a stop now leaves of its disks is what the state that it stands at keeps
  abbrev IsKept : Type 0
  IsKept = (v : OneOf A B C E) (s : AnyState) → stands v s → (c : Bytes) → images v c → keep s c

  holds_as : ((v : C) (s : ReplicaState) → c_stands v s → (b : List ℕ) → image (own.replica v) b → (k : ReplicaKept) × MayHold replica_rows s k × KeepsVotes k b) → IsKept → (config : Config) (n : Node) (t : StateOf n) (v : OneOf A B C E) → stands v (any_of n t) → HoldsAs image config n t (disks_by own config (node_number n) v)
  holds_as voted law config (Dispatcher s) t (node.First v) at = record {
    named = refl;
    keeps = λ b here. let kept = law (node.First v) (any_of (Dispatcher s) t) at (inl (inl (b _, b _))) (here.0, here.1.0) in (kept.0.disk, (may_hold_so dispatcher_rows s t kept.0 kept.1, (kept.2.0, (kept.2.1, tt))));
  }
  holds_as voted law config (Server s) t (node.Second v) at = record {
    named = one_name (λ m. ServerDisk m) 2 s;
    keeps = λ b here. let kept = law (node.Second v) (any_of (Server s) t) at (inl (inr (b _))) here.0 in (kept.0.disk, (may_hold_so server_rows s t kept.0 kept.1, (kept.2, tt)));
  }
  holds_as voted law config (Replica r) t (node.Third v) at = record {
    named = one_name (λ m. ReplicaDisk m) 4 r;
    keeps = λ b here. let kept = voted v t at (b _) here.0 in (kept.0, (kept.1, (kept.2, tt)));
  }
  holds_as voted law config (Joiner j) t (node.Fourth v) at = record {
    named = refl;
    keeps = λ b here. let kept = law (node.Fourth v) (any_of (Joiner j) t) at (inr (inr (b _, b _))) (here.0, here.1.0) in (kept.0.disk, (may_hold_so joiner_rows j t kept.0 kept.1, (kept.2.0, (kept.2.1, tt))));
  }
  holds_as voted law config _ t _ at = absurd at

  -- what each disk alone keeps of a state without an open turn
  pub record Rests : Type 0 where
    pub dispatchers : (v : A) (s : DispatcherState) → a_stands v s → s.opened ≡ None → ((c : List ℕ) → image (own.offset v) c → KeepsOffset s.kept.disk.offset c) × ((c : List ℕ) → image (own.retry v) c → KeepsPending s.kept.disk.pending c)
    pub servers : (v : B) (s : ServerState) → b_stands v s → s.opened ≡ None → (c : List ℕ) → image (own.server v) c → KeepsEpoch s.kept.disk.epoch c
    pub replicas : (v : C) (s : ReplicaState) → c_stands v s → s.opened ≡ None → (c : List ℕ) → image (own.replica v) c → KeepsVotes s.kept c
    pub joiners : (v : E) (s : JoinerState) → e_stands v s → s.opened ≡ None → ((c : List ℕ) → image (own.epochs v) c → KeepsEpoch s.kept.disk.epoch c) × ((c : List ℕ) → image (own.outputs v) c → KeepsPairs s.kept.disk.pairs c)

  keeps_as : Rests → (config : Config) (n : Node) (t : StateOf n) (v : OneOf A B C E) → IsClosed n t → stands v (any_of n t) → KeepsAs image config n t (disks_by own config (node_number n) v)
  keeps_as rests config (Dispatcher s) t (node.First v) closed at = let kept = rests.dispatchers v (with_number s t) at closed in record { named = refl; keeps = (kept.0, (kept.1, tt)) }
  keeps_as rests config (Server s) t (node.Second v) closed at = record { named = one_name (λ m. ServerDisk m) 2 s; keeps = (rests.servers v (with_number s t) at closed, tt) }
  keeps_as rests config (Replica r) t (node.Third v) closed at = record { named = one_name (λ m. ReplicaDisk m) 4 r; keeps = (rests.replicas v t at closed, tt) }
  keeps_as rests config (Joiner j) t (node.Fourth v) closed at = let kept = rests.joiners v (with_number j t) at closed in record { named = refl; keeps = (kept.0, (kept.1, tt)) }
  keeps_as rests config _ t _ closed at = absurd at

  pub are_held : ((v : C) (s : ReplicaState) → c_stands v s → (b : List ℕ) → image (own.replica v) b → (k : ReplicaKept) × MayHold replica_rows s k × KeepsVotes k b) → IsKept → Rests → AreHeld image stands (Grown own image) (disks_by own)
  are_held voted law rests = record {
    held = holds_as voted law;
    rested = λ config n t v closed at. keeps_as rests config n t v closed at;
    gone_on = λ config number. reached_on image (Grown own image) (disks_by own config number) (one_on own image config number);
  }

-- ---- a fault of a node is one of its disks or of its log, which it has

one_has : (a b : ℕ) → 1 ≤ a + b → (1 ≤ a) ⊎ (1 ≤ b)
one_has zero b some = inr (omega (arith, some))
one_has (suc a) b some = inl (omega arith)

module _ {D L A B C E : Type 0} (own : DisksIn D A B C E) (faults : D → ℕ) (log_faults : L → ℕ) (clicks : A → L) (queries : E → L) where
  abbrev all_faults : OneOf A B C E → ℕ
  all_faults = one.by (λ v. faults (own.offset v) + faults (own.retry v)) (λ v. faults (own.server v)) (λ v. faults (own.replica v)) (λ v. faults (own.epochs v) + faults (own.outputs v))

  -- one of a node's disks
  abbrev each_faults : OneOf A B C E → NodeDisk → ℕ
  each_faults = one.by (λ v. two (faults (own.offset v)) (faults (own.retry v))) (λ v. two (faults (own.server v)) 0) (λ v. two (faults (own.replica v)) 0) (λ v. two (faults (own.epochs v)) (faults (own.outputs v)))

  abbrev all_log_faults : OneOf A B C E → ℕ
  all_log_faults = one.by (λ v. log_faults (clicks v)) (λ v. 0) (λ v. 0) (λ v. log_faults (queries v))

  abbrev logs_by : OneOf A B C E → List L
  logs_by = one.by (λ v. clicks v ∷ []) (λ v. []) (λ v. []) (λ v. queries v ∷ [])

  abbrev HasFault : List (Lent D) → Type 0
  HasFault lent = (l : Lent D) × Mem l lent × (1 ≤ faults l.disk)

  of_each : (config : Config) (number : ℕ) (v : OneOf A B C E) (disk : NodeDisk) → 1 ≤ each_faults v disk → HasFault (disks_by own config number v)
  of_each config number (node.First v) First some = (_, inl refl, some)
  of_each config number (node.First v) Second some = (_, inr (inl refl), some)
  of_each config number (node.Second v) First some = (_, inl refl, some)
  of_each config number (node.Second v) Second some = absurd (omega (arith, some))
  of_each config number (node.Third v) First some = (_, inl refl, some)
  of_each config number (node.Third v) Second some = absurd (omega (arith, some))
  of_each config number (node.Fourth v) First some = (_, inl refl, some)
  of_each config number (node.Fourth v) Second some = (_, inr (inl refl), some)

  of_disk : (config : Config) (number : ℕ) (v : OneOf A B C E) → 1 ≤ all_faults v → HasFault (disks_by own config number v)
  of_disk config number v some = ⊎_elim (of_each config number v First) (of_each config number v Second) (one_has (each_faults v First) (each_faults v Second) (grind arith))

  of_log : (v : OneOf A B C E) → 1 ≤ all_log_faults v → (l : L) × Mem l (logs_by v) × (1 ≤ log_faults l)
  of_log v some = grind arith

  module _ (a : A → DispatcherState → Type 0) (b : B → ServerState → Type 0) (c : C → ReplicaState → Type 0) (e : E → JoinerState → Type 0) where
    -- a node of a kind without a log meets none of one
    reads_of : (n : Node) (t : StateOf n) (v : OneOf A B C E) → one.at a b c e v (any_of n t) → 1 ≤ all_log_faults v → log_read n ≢ None
    reads_of n t v at some none = grind arith

    -- so it is of a node that counts the faults of these
    pub are_met : (m : Ghosts (OneOf A B C E)) → ((v : OneOf A B C E) → m.faults v ≡ all_faults v) → ((v : OneOf A B C E) (disk : NodeDisk) → m.disk_faults v disk ≡ each_faults v disk) → ((v : OneOf A B C E) → m.log_faults v ≡ all_log_faults v)
        → AreMet faults log_faults m (one.at a b c e) (disks_by own) logs_by
    are_met m all each logs = record {
      disks = λ config number v some. of_disk config number v (subst (λ (k : ℕ). 1 ≤ k) (all v) some);
      each = λ config number v disk some. of_each config number v disk (subst (λ (k : ℕ). 1 ≤ k) (each v disk) some);
      logs = λ v some. of_log v (subst (λ (k : ℕ). 1 ≤ k) (logs v) some);
      reads = λ n t v at some. reads_of n t v at (subst (λ (k : ℕ). 1 ≤ k) (logs v) some);
    }
