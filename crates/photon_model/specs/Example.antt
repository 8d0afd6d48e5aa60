-- One click is joined, turn by turn; and what is no run, and no sound store.
use Rattle.std.specs.Prelude.{◌≡◌, ℕ, List, [], ◌∷◌, ◌++◌, length, Option, Some, None}
use Rattle.photon_model.specs.Terms.{Accepted, Advance, Already, Ballot, Deliver, Dispatcher, Duplicate, Epoch, Granted, Input, Insert, Joiner, Node, Note, Output, Own, Packet, PairRec, Place, Promised, Replica, Server, Start, Voted, Written, insert, one_batch, one_click, one_query, token, worked}
use Rattle.turn_defs.specs.declared.packet.Packet.TheVariants as packet
use Rattle.photon_model.specs.Rows.{store, one_pair, only_bound}
use Rattle.photon_model.specs.Sound.{SoundStore}
use Rattle.photon_model.specs.Runs.{World, Entry, Begin, End, Stop, Disks, world_after, IsRun, opening}
use Rattle.photon_model.specs.Rest.{IsAtRest}
use Rattle.photon_model.specs.Stores.{empty_disks}

-- a turn that begins and ends before any other entry
pub record Turn : Type 0 where
  pub node : Node
  pub input : Input
  pub note : Option Note
  pub packets : List (Node × Packet)

abbrev pub entries : List Turn → List Entry
entries [] = []
entries (t ∷ ts) = Begin t.node t.input ∷ End t.node t.note t.packets (length t.packets) ∷ entries ts

abbrev pub turn : Node → Input → Option Note → List (Node × Packet) → Turn
turn n i o ps = record { node = n; input = i; note = o; packets = ps }

abbrev pub to_replicas : Packet → List (Node × Packet)
to_replicas p = (Replica 0, p) ∷ (Replica 1, p) ∷ (Replica 2, p) ∷ []

abbrev pub place : Place
place = record { shard = 3; slot = 0 }

abbrev pub ballot : Ballot
ballot = record { round = 1; epoch = 1; site = 0 }

abbrev pub prepare : Packet
prepare = packet.Prepare place ballot

abbrev pub accept : Packet
accept = packet.Accept place ballot one_batch

-- site 0 comes up with two replicas; the third one takes no turn
abbrev pub comes_up : List Turn
comes_up =
    turn (Replica 0) Start None []
    ∷ turn (Replica 1) Start None []
    ∷ turn (Server 0) Start (Some (Epoch 1)) []
    ∷ turn (Joiner 7) Start (Some (Epoch 1)) []
    ∷ turn (Dispatcher 0) Start None []
    ∷ []

-- the click's insert reaches the server, which asks for promises
abbrev pub asks : List Turn
asks =
    turn (Dispatcher 0) Own None ((Joiner 7, packet.Join 0 one_click) ∷ [])
    ∷ turn (Joiner 7) (Deliver (Dispatcher 0) (packet.Join 0 one_click)) None ((Server 0, packet.Insert (insert 0)) ∷ [])
    ∷ turn (Server 0) (Deliver (Joiner 7) (packet.Insert (insert 0))) None []
    ∷ turn (Server 0) Own None (to_replicas prepare)
    ∷ []

-- the click's id is registered under the joiner's token
abbrev pub registers : List Turn
registers =
    turn (Replica 0) (Deliver (Server 0) prepare) (Some (Voted (Promised place ballot))) ((Server 0, packet.Promise place ballot None) ∷ [])
    ∷ turn (Replica 1) (Deliver (Server 0) prepare) (Some (Voted (Promised place ballot))) ((Server 0, packet.Promise place ballot None) ∷ [])
    ∷ turn (Server 0) (Deliver (Replica 0) (packet.Promise place ballot None)) None []
    ∷ turn (Server 0) (Deliver (Replica 1) (packet.Promise place ballot None)) None (to_replicas accept)
    ∷ turn (Replica 0) (Deliver (Server 0) accept) (Some (Voted (Accepted place ballot one_batch))) ((Server 0, packet.Accepted place ballot) ∷ [])
    ∷ turn (Replica 1) (Deliver (Server 0) accept) (Some (Voted (Accepted place ballot one_batch))) ((Server 0, packet.Accepted place ballot) ∷ [])
    ∷ turn (Server 0) (Deliver (Replica 0) (packet.Accepted place ballot)) None []
    ∷ turn (Server 0) (Deliver (Replica 1) (packet.Accepted place ballot)) None ((Server 1, packet.Chosen place one_batch) ∷ (Joiner 7, packet.Reply (insert 0) Granted) ∷ [])
    ∷ []

-- the pair is written, and the dispatcher drains
abbrev pub writes : List Turn
writes =
    turn (Joiner 7) (Deliver (Server 0) (packet.Reply (insert 0) Granted)) (Some (Output one_pair)) ((Dispatcher 0, packet.Joined 0 Written) ∷ [])
    ∷ turn (Dispatcher 0) (Deliver (Joiner 7) (packet.Joined 0 Written)) None []
    ∷ turn (Dispatcher 0) Own (Some (Advance 36)) []
    ∷ turn (Dispatcher 0) Own None []
    ∷ []

-- the insert of the other site's joiner
abbrev pub other_insert : Insert
other_insert = record { id = one_click.id; token = record { joiner = 8; epoch = 1; number = 0 } }

-- the other site comes up, learns the value, and finds that the click's id is held
abbrev pub other_site : List Turn
other_site =
    turn (Server 1) Start (Some (Epoch 1)) []
    ∷ turn (Joiner 8) Start (Some (Epoch 1)) []
    ∷ turn (Dispatcher 1) Start None []
    ∷ turn (Server 1) (Deliver (Server 0) (packet.Chosen place one_batch)) None []
    ∷ turn (Dispatcher 1) Own None ((Joiner 8, packet.Join 0 one_click) ∷ [])
    ∷ turn (Joiner 8) (Deliver (Dispatcher 1) (packet.Join 0 one_click)) None ((Server 1, packet.Insert other_insert) ∷ [])
    ∷ turn (Server 1) (Deliver (Joiner 8) (packet.Insert other_insert)) None ((Joiner 8, packet.Reply other_insert (Duplicate (token 0))) ∷ [])
    ∷ turn (Joiner 8) (Deliver (Server 1) (packet.Reply other_insert (Duplicate (token 0)))) None ((Dispatcher 1, packet.Joined 0 (Already (token 0))) ∷ [])
    ∷ turn (Dispatcher 1) (Deliver (Joiner 8) (packet.Joined 0 (Already (token 0)))) None []
    ∷ turn (Dispatcher 1) Own (Some (Advance 36)) []
    ∷ turn (Dispatcher 1) Own None []
    ∷ []

abbrev pub joins_the_click : List Entry
joins_the_click = entries (comes_up ++ (asks ++ (registers ++ (writes ++ other_site))))

abbrev pub at_the_end : World
at_the_end = world_after worked (opening empty_disks) joins_the_click

-- The law speaks of runs in which clicks are joined and rest is reached: in this one each site takes the click, one joiner
-- writes its pair, the other writes none, and all come to rest.
pub record ClickIsJoined : Type 0 where
  pub is_run : IsRun worked (opening empty_disks) joins_the_click
  pub written : (at_the_end.joiners 7).kept.pairs ≡ one_pair ∷ []
  pub not_again : (at_the_end.joiners 8).kept.pairs ≡ []
  pub at_rest : IsAtRest worked at_the_end

-- ---- what is no run

-- where the server has asked for promises
abbrev pub asked : World
asked = world_after worked (opening empty_disks) (entries (comes_up ++ asks))

-- from there these entries may follow
abbrev pub GoesOn : List Entry → Type 0
GoesOn es = IsRun worked asked es

abbrev pub Refused : List Entry → Type 0
Refused es = GoesOn es → ⊥

abbrev pub promise : Packet
promise = packet.Promise place ballot None

abbrev pub promised : Note
promised = Voted (Promised place ballot)

-- replica 0 takes the server's Prepare
abbrev pub takes : Entry
takes = Begin (Replica 0) (Deliver (Server 0) prepare)

pub record RunsAreStrict : Type 0 where
  pub is_run : IsRun worked (opening empty_disks) (entries (comes_up ++ asks))
  -- a replica writes its note before it answers; a stop leaves the note or nothing
  pub answers : GoesOn (takes ∷ End (Replica 0) (Some promised) ((Server 0, promise) ∷ []) 1 ∷ [])
  pub stops_before : GoesOn (takes ∷ Stop (Replica 0) None ∷ [])
  pub stops_after : GoesOn (takes ∷ Stop (Replica 0) (Some promised) ∷ [])
  pub no_answer_before_its_note : Refused (takes ∷ End (Replica 0) None ((Server 0, promise) ∷ []) 1 ∷ [])
  pub no_note_without_an_answer : Refused (takes ∷ End (Replica 0) (Some promised) [] 0 ∷ [])
  pub no_other_answer : Refused (takes ∷ End (Replica 0) (Some promised) ((Server 0, packet.Accepted place ballot) ∷ []) 1 ∷ [])
  pub no_other_receiver : Refused (takes ∷ End (Replica 0) (Some promised) ((Server 1, promise) ∷ []) 1 ∷ [])
  pub no_other_note_lands : Refused (takes ∷ Stop (Replica 0) (Some (Voted (Accepted place ballot one_batch))) ∷ [])
  -- one turn at a time, and a node that is down comes up first
  pub no_second_turn : Refused (takes ∷ takes ∷ [])
  pub no_end_alone : Refused (End (Replica 0) None [] 0 ∷ [])
  pub no_turn_while_down : Refused (Begin (Dispatcher 1) Own ∷ [])
  pub no_start_while_up : Refused (Begin (Server 0) Start ∷ [])
  pub no_turn_after_a_stop : Refused (takes ∷ Stop (Replica 0) None ∷ takes ∷ [])
  -- only what was sent is delivered, and only to its receiver
  pub no_packet_from_nowhere : Refused (Begin (Replica 0) (Deliver (Server 0) accept) ∷ [])
  pub no_other_sender : Refused (Begin (Replica 0) (Deliver (Server 1) prepare) ∷ [])
  -- no pair is written before it is granted
  pub no_pair_before_its_grant : Refused (Begin (Joiner 7) Own ∷ End (Joiner 7) (Some (Output one_pair)) [] 0 ∷ [])
  pub no_fourth_replica : Refused (Begin (Replica 3) Start ∷ [])

-- ---- what is no sound store

-- the same click under another token
abbrev pub second_pair : PairRec
second_pair = record one_pair { token = token 1 }

abbrev pub wrong_query : PairRec
wrong_query = record one_pair { query = record one_query { text = [] } }

abbrev pub foreign_token : PairRec
foreign_token = record one_pair { token = record { joiner = 8; epoch = 1; number = 0 } }

-- the dispatchers' offset, and the positions that they have pending
abbrev pub at_offset : ℕ → List ℕ → Disks
at_offset offset pending = record (store [] (only_bound 0)) { dispatchers = λ s. record { offset = offset; pending = pending } }

abbrev pub IsUnsound : Disks → Type 0
IsUnsound d = SoundStore worked d → ⊥

pub record StoresAreStrict : Type 0 where
  pub one_click_twice : IsUnsound (store (one_pair ∷ second_pair ∷ []) one_batch)
  pub one_pair_twice : IsUnsound (store (one_pair ∷ one_pair ∷ []) one_batch)
  pub not_granted : IsUnsound (store (one_pair ∷ []) (only_bound 0))
  pub other_query : IsUnsound (store (wrong_query ∷ []) one_batch)
  pub other_joiner : IsUnsound (store (foreign_token ∷ []) one_batch)
  pub passed_unsettled : IsUnsound (at_offset 36 [])
  pub no_boundary : IsUnsound (at_offset 5 [])
  pub no_line_start : IsUnsound (at_offset 36 (1 ∷ []))
