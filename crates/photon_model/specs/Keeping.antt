-- What one row of the turn table keeps, node kind by node kind.
use Rattle.std.specs.Prelude.{◌≡◌, ◌≢◌, ◌⊎◌, ℕ, ◌<◌, ◌≤◌, List, [], ◌++◌, Option, Some, None, true, length, slice_get}
use Rattle.photon_model.specs.Terms.{Ballot, Batch, Begins, Checked, Deliver, DispatcherKept, DispatcherLive, Each, Expired, Flight, Input, Insert, IsGranted, IsJoinable, IsJoiner, JoinerKept, JoinerLive, Mem, Out, Packet, PairRec, Place, Proposal, Replica, ReplicaKept, ServerKept, ServerLive, Setting, Token, dispatcher_start, dispatcher_turn, insert_of, is_current, joiner_start, joiner_turn, land, land_dispatcher, land_joiner, land_replica, on_accepted, replica_turn, server_turn, set_at}
use Rattle.turn_defs.specs.declared.packet.Packet.TheVariants.{Accepted}
use Rattle.turn_defs.specs.declared.node.To.{To}
use Rattle.photon_model.specs.Sound.{Known, values_of, IsWritten, DispatcherSound, JoinerSound, DrawnSound, InsertsOf}
use Rattle.photon_model.specs.Runs.{World, Entry, after}
use Rattle.photon_model.specs.EveryRun.{decided_in}
use Rattle.photon_model.specs.Facts.{known, HoldsOf, HoldsOfInput, DispatcherHolds, JoinerHolds, ServerHolds}

abbrev pub PacketsHold : Setting → Known → List (To × Packet) → Type 0
PacketsHold g n ps = Each (λ (a : To × Packet). HoldsOf g n a.1) ps

pub record DispatcherKeeps (g : Setting) (n : Known) (k : DispatcherKept) (o : Out DispatcherLive) : Type 0 where
  pub kept : DispatcherSound g n (land land_dispatcher o.note k)
  pub live : DispatcherHolds g n (land land_dispatcher o.note k) o.live
  pub packets : PacketsHold g n o.packets

abbrev pub DispatcherRowsKeep : Type 0
DispatcherRowsKeep =
    (g : Setting) (n : Known) (s : ℕ) (k : DispatcherKept) (l : DispatcherLive) (i : Input) →
    Checked g → DispatcherSound g n k → DispatcherHolds g n k l → HoldsOfInput g n i → DispatcherKeeps g n k (dispatcher_turn g s k l i)

abbrev pub DispatcherStartKeeps : Type 0
DispatcherStartKeeps = (g : Setting) (n : Known) (k : DispatcherKept) → DispatcherSound g n k → DispatcherKeeps g n k (dispatcher_start k)

-- the later has all of the earlier
pub record Grows (a b : Known) : Type 0 where
  pub values : (s : ℕ) → Begins (a.values s) (b.values s)
  pub pairs : (j : ℕ) (p : PairRec) → Mem p (a.pairs j) → Mem p (b.pairs j)
  pub drawn : (x : Insert) → Mem x a.drawn → Mem x b.drawn

-- what is known after joiner j's output log has become pairs and it has drawn new
abbrev pub extended : Known → ℕ → List PairRec → List Insert → Known
extended n j pairs new = record n { pairs = set_at n.pairs j pairs; drawn = new ++ n.drawn }

-- what joiner j draws in one row
pub record IsDrawing (g : Setting) (n : Known) (j now : ℕ) (x : Insert) : Type 0 where
  pub joinable : IsJoinable g x.id
  pub joiner : x.token.joiner ≡ j
  pub epoch : x.token.epoch ≡ now
  pub unused : (y : Insert) → Mem y n.drawn → y.token ≢ x.token

-- x is in flight
abbrev pub IsFlying : Option JoinerLive → Insert → Type 0
IsFlying None x = ⊥
IsFlying (Some l) x = (f : Flight) × Mem f l.flight × (insert_of f ≡ x)

pub record JoinerKeeps (g : Setting) (n : Known) (j : ℕ) (k : JoinerKept) (o : Out JoinerLive) : Type 0 where
  pub new : List Insert
  pub flying : (x : Insert) → Mem x new → IsFlying (Some o.live) x
  pub one : (x y : Insert) → Mem x new → Mem y new → x ≡ y
  pub drawing : Each (IsDrawing g n j (land land_joiner o.note k).epoch) new
  pub epoch : k.epoch ≤ (land land_joiner o.note k).epoch
  pub more : (p : PairRec) → Mem p k.pairs → Mem p (land land_joiner o.note k).pairs
  pub kept : JoinerSound g (extended n j (land land_joiner o.note k).pairs new) j (land land_joiner o.note k)
  pub live : JoinerHolds g (extended n j (land land_joiner o.note k).pairs new) j (land land_joiner o.note k) o.live
  pub packets : PacketsHold g (extended n j (land land_joiner o.note k).pairs new) o.packets

abbrev pub JoinerRowsKeep : Type 0
JoinerRowsKeep =
    (g : Setting) (n : Known) (epochs : ℕ → ℕ) (j : ℕ) (k : JoinerKept) (l : JoinerLive) (i : Input) →
    Checked g → IsJoiner g j → n.pairs j ≡ k.pairs → DrawnSound g n epochs → JoinerSound g n j k → JoinerHolds g n j k l → HoldsOfInput g n i → JoinerKeeps g n j k (joiner_turn g j k l i)

abbrev pub JoinerStartKeeps : Type 0
JoinerStartKeeps =
    (g : Setting) (n : Known) (epochs : ℕ → ℕ) (j : ℕ) (k : JoinerKept) →
    n.pairs j ≡ k.pairs → epochs j ≡ k.epoch → DrawnSound g n epochs → JoinerSound g n j k → JoinerKeeps g n j k (joiner_start k)

-- What Paxos gives a server: where an Accepted makes a majority for its value, that is decided at the slot.
abbrev pub IsChosenNow : Setting → Known → ServerLive → Input → Type 0
IsChosenNow g n l i =
    (at : Place) (b : Ballot) (r : ℕ) (p : Proposal) (v : Batch) → i ≡ Deliver (Replica r) (Accepted at b) → (l.shards at.shard).proposal ≡ Some p →
    is_current g at b (l.shards at.shard) p ≡ true → (on_accepted p.phase r).1 ≡ Some v → slice_get (n.values at.shard) (length (l.shards at.shard).learned) ≡ Some v

pub record ServerKeeps (g : Setting) (n : Known) (o : Out ServerLive) : Type 0 where
  pub live : ServerHolds g n o.live
  pub packets : PacketsHold g n o.packets

abbrev pub ServerRowsKeep : Type 0
ServerRowsKeep =
    (g : Setting) (n : Known) (s : ℕ) (k : ServerKept) (l : ServerLive) (i : Input) → ServerHolds g n l → HoldsOfInput g n i → IsChosenNow g n l i → ServerKeeps g n (server_turn g s k l i)

pub record ReplicaKeeps (g : Setting) (n : Known) (k : ReplicaKept) (o : Out (Unit {0})) : Type 0 where
  pub kept : Each (InsertsOf g n) (land land_replica o.note k).notes
  pub packets : PacketsHold g n o.packets

abbrev pub ReplicaRowsKeep : Type 0
ReplicaRowsKeep = (g : Setting) (n : Known) (k : ReplicaKept) (i : Input) → Each (InsertsOf g n) k.notes → HoldsOfInput g n i → ReplicaKeeps g n k (replica_turn k i)

-- the insert's join has ended: its id is written, granted to another token, or expired
abbrev pub IsResolved : Setting → Known → Insert → Type 0
IsResolved g n x = (IsWritten g n x.id ⊎ ((h : Token) × (h ≢ x.token) × IsGranted (values_of g n x.id) x.id h)) ⊎ Expired (values_of g n x.id) x.id

-- What Paxos gives at one entry: decided values stay, and a server that counts its second Accepted has a chosen value.
pub record PaxosGives (g : Setting) (w : World) (e : Entry) : Type 0 where
  pub grows : (s : ℕ) → Begins (decided_in g w s) (decided_in g (after g w e) s)
  pub chosen : (s : ℕ) (l : ServerLive) (i : Input) → s < 2 → (w.servers s).live ≡ Some l → (w.servers s).opened ≡ Some i → IsChosenNow g (known g w []) l i
