-- Bytes keep one store, and that by what they stand for alone.
use Rattle.std.proofs.Common.{◌≡◌, ℕ, ◌<◌, List, [], ◌∷◌, ◌++◌, Option, Result, Ok, refl, sym, ◌∙◌, ap, subst, arith, map, All, option_map}
use Rattle.site_laws.proofs.Words.{All-head, All-tail, Each, Promised, Accepted, PairRec, IsPair, Node, Dispatcher, Server, Replica, Joiner, Setting, IsNode, BallotNote, ReplicaKept, Disks, Topology, DiskName, ReplicaNote, place_of, note_view, note, IsNote, gate_rule, read_as, KeptTopology, IsVoted, vote_record, views_ok, kept_of, joiner_of, KeepsTopology, KeepsVotes, KeepsOf, HoldsRecords, KeepOneTopology, HoldSameRecords, ReadTopologyIsKept, ReadNotesAreKept}
use Rattle.outside.specs.declared.store.DiskName.TheVariants as name
use Rattle.paxos_acceptor.specs.declared.notes.ReplicaNote.TheVariants as replica
use Rattle.gate_journal.specs.Gate.{StandsFor}
use Rattle.topology_journal.specs.Topologies as journal
use Rattle.offset_journal.specs.Offsets as offsets
use Rattle.retry_log.specs.Pending as pending
use Rattle.epoch_journal.specs.Epochs as epochs
use Rattle.output_log.specs.Pairs as pairs
use Rattle.site_laws.specs.Stores.{Bytes}
use Rattle.site_laws.proofs.Naming.{seat_of}

-- ---- what two bytes keep that stand for the same

pub topology_again : (kept : Option Topology) (c d : List ℕ) → gate_rule c ≡ gate_rule d → KeepsTopology kept c → KeepsTopology kept d
topology_again kept c d e k = ap (read_as journal.topologies) (sym e) ∙ k

pub keeps_again : (g : Setting) (d : Disks) (disk : DiskName) (b c : List ℕ) → gate_rule b ≡ gate_rule c → KeepsOf g d disk b → KeepsOf g d disk c
keeps_again g d name.Topology b c e k = tt
keeps_again g d (name.Offset s) b c e k = ap (read_as offsets.offsets) (sym e) ∙ k
keeps_again g d (name.Retry s) b c e k = ap (read_as pending.retries) (sym e) ∙ k
keeps_again g d (name.Replica r) b c e k = (k.0, sym e ∙ k.1)
keeps_again g d (name.Output s j) b c e k = (k.0, sym e ∙ k.1)
keeps_again g d _ b c e k = ap (read_as epochs.epochs) (sym e) ∙ k

-- ---- one value for the bytes

pub one_value : {A E : Type 0} (r : Result A E) (x y : A) → r ≡ Ok x → r ≡ Ok y → x ≡ y
one_value r x y a b = cc

-- lists whose elements have spellings of their own are equal by these
one_list : {A : Type 0} (P : A → Type 0) (f : A → List ℕ) → ((x y : A) → P x → P y → f x ≡ f y → x ≡ y) → (xs ys : List A) → Each P xs → Each P ys → map f xs ≡ map f ys → xs ≡ ys
one_list P f apart [] [] h k e = refl
one_list P f apart (x ∷ xs) (y ∷ ys) h k e = grind (arith, one_list P f apart xs ys h.1 k.1)
one_list P f apart _ _ h k e = absurd (cc e)

all_each : {A : Type 0} (P : A → Type 0) (xs : List A) → All P xs → Each P xs
all_each P [] h = tt
all_each P (x ∷ xs) h = (All-head P x xs h, all_each P xs (All-tail P x xs h))

-- ---- notes of a replica

abbrev pub NotesApart : Type 0
NotesApart = (v w : ReplicaNote) (s t : List ℕ) → IsNote v → IsNote w → note v ++ s ≡ note w ++ t → v ≡ w

abbrev pub as_note : BallotNote → ReplicaNote
as_note (Promised at b) = replica.Promised at.shard at.slot b
as_note (Accepted at b v) = replica.Accepted at.shard at.slot b v

abbrev as_vote : ReplicaNote → BallotNote
as_vote (replica.Promised shard slot b) = Promised (place_of shard slot) b
as_vote (replica.Accepted shard slot b v) = Accepted (place_of shard slot) b v

back : (n : BallotNote) → as_vote (as_note n) ≡ n
back n = grind arith

pub record_is : (n : BallotNote) → vote_record n ≡ note (as_note n)
record_is n = grind arith

pub is_note : (n : BallotNote) → IsVoted n → IsNote (as_note n)
is_note n is = grind arith

module _ (notes_apart : NotesApart) where
  record_apart : (m n : BallotNote) → IsVoted m → IsVoted n → vote_record m ≡ vote_record n → m ≡ n
  record_apart m n is_m is_n e =
      let same : note (as_note m) ≡ note (as_note n) = sym (record_is m) ∙ e ∙ record_is n in
      sym (back m) ∙ ap as_vote (notes_apart (as_note m) (as_note n) [] [] (is_note m is_m) (is_note n is_n) (ap (λ (l : List ℕ). l ++ []) same)) ∙ back n

  one_votes : (k l : ReplicaKept) (c : List ℕ) → KeepsVotes k c → KeepsVotes l c → k ≡ l
  one_votes k l c a b =
      ap (λ (ns : List BallotNote). record { notes = ns })
      (one_list IsVoted vote_record record_apart k.notes l.notes a.0 b.0 (one_value (gate_rule c) (map vote_record k.notes) (map vote_record l.notes) a.1 b.1))

-- ---- pairs

abbrev pub PairsApart : Type 0
PairsApart = (p q : PairRec) → IsPair p → IsPair q → pairs.record_of p ≡ pairs.record_of q → p ≡ q

one_pairs : PairsApart → (p q : List PairRec) (c : List ℕ) → pairs.Keeps p c → pairs.Keeps q c → p ≡ q
one_pairs apart p q c a b =
    one_list IsPair pairs.record_of apart p q (all_each IsPair p a.0) (all_each IsPair q b.0) (one_value (gate_rule c) (map pairs.record_of p) (map pairs.record_of q) a.1 b.1)

-- ---- the topology

abbrev as_kept : Option Topology → Option KeptTopology
as_kept kept = option_map (λ (t : Topology). journal.topology_of t.joiners t.table) kept

pub keep_one_topology : KeepOneTopology
keep_one_topology t u c a b = grind arith

-- ---- what was read

pub read_topology : ReadTopologyIsKept
read_topology h bytes k = grind arith

views_record : (ns : List ReplicaNote) → map note ns ≡ map vote_record (map note_view ns)
views_record [] = refl
views_record (n ∷ ns) = grind (arith, views_record ns)

pub read_notes : ReadNotesAreKept
read_notes notes bytes k = (views_ok notes k.0, subst (λ (rs : List (List ℕ)). StandsFor rs bytes) (views_record notes) k.1)

-- ---- all disks

pub record Apart : Type 0 where
  pub notes : NotesApart
  pub pairs : PairsApart

module _ (apart : Apart) (g : Setting) (b : Bytes) (d e : Disks) (h : HoldsRecords g b d) (k : HoldsRecords g b e) where
  one_joiner : (s j : ℕ) → s < 2 → j < g.config.joiners → d.joiners (joiner_of g s j) ≡ e.joiners (joiner_of g s j)
  one_joiner s j s_below j_below =
      let n = joiner_of g s j in
      let epoch : (d.joiners n).epoch ≡ (e.joiners n).epoch = one_value (epochs.epoch_of (b (name.Epoch s j))) _ _ (h (name.Epoch s j) (s_below, j_below)) (k (name.Epoch s j) (s_below, j_below)) in
      let written : (d.joiners n).pairs ≡ (e.joiners n).pairs =
      one_pairs apart.pairs (d.joiners n).pairs (e.joiners n).pairs (b (name.Output s j)) (h (name.Output s j) (s_below, j_below)) (k (name.Output s j) (s_below, j_below)) in
      λ t. record { epoch = epoch t; pairs = written t }

  pub hold_same : (n : Node) → IsNode g n → kept_of d n ≡ kept_of e n
  hold_same (Dispatcher s) is =
      let offset : (d.dispatchers s).offset ≡ (e.dispatchers s).offset = one_value (offsets.offset_of (b (name.Offset s))) _ _ (h (name.Offset s) is) (k (name.Offset s) is) in
      let parked : (d.dispatchers s).pending ≡ (e.dispatchers s).pending = one_value (pending.pending_of (b (name.Retry s))) _ _ (h (name.Retry s) is) (k (name.Retry s) is) in
      λ t. record { offset = offset t; pending = parked t }
  hold_same (Server s) is =
      let epoch : (d.servers s).epoch ≡ (e.servers s).epoch = one_value (epochs.epoch_of (b (name.Server s))) _ _ (h (name.Server s) is) (k (name.Server s) is) in
      λ t. record { epoch = epoch t }
  hold_same (Replica r) is = one_votes apart.notes (d.replicas r) (e.replicas r) (b (name.Replica r)) (h (name.Replica r) is) (k (name.Replica r) is)
  hold_same (Joiner n) is =
      let seat = seat_of g n is in
      subst (λ (m : ℕ). d.joiners m ≡ e.joiners m) seat.number (one_joiner seat.site seat.joiner seat.site_below seat.joiner_below)

pub hold_same_records : Apart → HoldSameRecords
hold_same_records apart g b d e h k = hold_same apart g b d e h k
