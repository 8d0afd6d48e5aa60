-- The packets that wait for a node after a history, where a plan says what becomes of each packet. Nodes go by number.
use Rattle.std.specs.Prelude.{◌≡◌, ℕ, ◌-◌, ◌<◌, Bool, false, ◌&&◌, ◌==◌, nat_lt, List, [], ◌∷◌, ◌++◌, length, take, slice_index_or, fold, count_by, if◌then◌else◌, Option}
use Rattle.std.specs.List.{list_any}
use Rattle.std.specs.Option.{option_map_or}
use Rattle.lossy_link.specs.declared.plan.Kind.{Kind}
use Rattle.lossy_link.specs.declared.plan.Kind.TheVariants.{Dispatcher, Replica}
use Rattle.lossy_link.specs.declared.plan.Fate.{Fate}
use Rattle.lossy_link.specs.declared.plan.Fate.TheVariants.{Drop}
use Rattle.lossy_link.specs.Fates.{PlanView, fate_of, same_kind}
use Rattle.air_bus.specs.declared.entry.Input.{Input}
use Rattle.air_bus.specs.declared.entry.Input.TheVariants.{Packet}
use Rattle.air_bus.specs.declared.entry.Entry.{Entry}
use Rattle.air_bus.specs.declared.entry.Entry.TheVariants.{Begin, End, Stop}
use Rattle.air_bus.specs.Copies.{Copy, copies_of, left_by}

-- the kind of a node by its number
abbrev pub kind_at : List Kind → ℕ → Kind
kind_at kinds n = slice_index_or kinds n Dispatcher

abbrev pub is_replica : Kind → Bool
is_replica k = same_kind k Replica

-- the number of a replica among the replicas
abbrev pub replica_number : List Kind → ℕ → ℕ
replica_number kinds n = count_by is_replica (take n kinds)

-- the plan has at most one dead replica, which takes no turn
abbrev pub is_dead : Option ℕ → List Kind → ℕ → Bool
is_dead dead kinds n = option_map_or (λ d. replica_number kinds n == d) dead false && is_replica (kind_at kinds n)

-- these are the numbers of the nodes that are dead
abbrev pub LeftOut : PlanView → List Kind → List ℕ → Type 0
LeftOut plan kinds numbers = (n : ℕ) → n < length kinds → list_any (λ m. m == n) numbers ≡ is_dead plan.dead kinds n

-- what becomes of a link's packet of this ordinal: a dead replica gets none
abbrev pub link_fate : PlanView → List Kind → ℕ → ℕ → ℕ → Fate
link_fate plan kinds from to ordinal = if is_dead plan.dead kinds to then Drop else fate_of plan.rules (kind_at kinds from) (kind_at kinds to) ordinal

-- what a node was sent so far: the copies that wait, and the senders of all packets to it, lost ones too
pub record Received : Type 0 where
  pub copies : List Copy
  pub senders : List ℕ

-- nothing so far
abbrev pub nothing : Received
nothing = record { copies = []; senders = [] }

-- the number of packets that the link from this sender had so far
abbrev pub ordinal : ℕ → Received → ℕ
ordinal from r = count_by (λ s. s == from) r.senders

-- a turn that begins with a packet takes the next copy
abbrev pub taken_by : Input → Received → Received
taken_by (Packet from bytes) r = record r { copies = left_by r.copies }
taken_by _ r = r

module _ (plan : PlanView) (kinds : List Kind) (n : ℕ) where
  -- the copies of the link's next packet: none of a packet that found no room
  abbrev pub arriving : ℕ → List ℕ → Bool → Received → List Copy
  arriving from bytes is_kept r = if is_kept then copies_of (link_fate plan kinds from n (ordinal from r)) from bytes else []

  -- one packet more to this node
  abbrev pub puts_one : ℕ → List ℕ → Bool → Received → Received
  puts_one from bytes is_kept r = record { copies = r.copies ++ arriving from bytes is_kept r; senders = from ∷ r.senders }

  -- one packet more, if it is to this node
  abbrev pub one_packet : ℕ → Bool → Received → ℕ × List ℕ → Received
  one_packet from is_kept r p = if p.0 == n then puts_one from p.1 is_kept r else r

  -- the packets of an end, of which the first so many found room
  abbrev pub puts : ℕ → List (ℕ × List ℕ) → ℕ → Received → Received
  puts from [] kept r = r
  puts from (p ∷ ps) kept r = puts from ps (kept - 1) (one_packet from (nat_lt 0 kept) r p)

  -- what the node was sent after one more entry
  abbrev pub after_entry : Received → Entry → Received
  after_entry r (Begin m i) = if m == n then taken_by i r else r
  after_entry r (End m noted packets kept) = puts m packets kept r
  after_entry r (Stop m landed) = r

  abbrev pub received : List Entry → Received
  received h = fold after_entry nothing h

-- what waits for a node after a history
abbrev pub waiting : PlanView → List Kind → ℕ → List Entry → List Copy
waiting plan kinds n h = (received plan kinds n h).copies
