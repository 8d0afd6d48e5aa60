-- Packets that no row answers.
use Rattle.std.proofs.Common.{◌≡◌, ℕ, arith, Option, Some, None}
use Rattle.registry_server.proofs.Words.{Ballot, Insert, Batch, Place, Packet, Node, Replica, Setting, idle, Out, ServerKept, ServerLive, from_replica, server_gets, Gives, Turn, number_of}
use Rattle.turn_defs.specs.declared.packet.Packet.TheVariants as packet

module _ (g : Setting) (site : ℕ) (k : ServerKept) (l : ServerLive) where
  pub unheard : (r : ℕ) (p : Packet) → ((at : Place) (b : Ballot) (prior : Option (Ballot × Batch)) → p ≡ packet.Promise at b prior → ⊥) → ((at : Place) (b : Ballot) → p ≡ packet.Accepted at b → ⊥) → ((at : Place) (b above : Ballot) → p ≡ packet.Nack at b above → ⊥)
      → from_replica g site k l r p ≡ idle l
  unheard r h x y z = grind arith

  pub from_one : (r : ℕ) (p : Packet) → ((v : Insert) → p ≡ packet.Insert v → ⊥) → ((at : Place) (v : Batch) → p ≡ packet.Chosen at v → ⊥) → server_gets g site k l (Replica r) p ≡ from_replica g site k l r p
  from_one r h x y = grind arith

  pub from_none : (from : Node) (p : Packet) → ((v : Insert) → p ≡ packet.Insert v → ⊥) → ((at : Place) (v : Batch) → p ≡ packet.Chosen at v → ⊥) → ((r : ℕ) → from ≡ Replica r → ⊥) → server_gets g site k l from p ≡ idle l
  from_none h p x y z = grind arith

  -- a packet that is about no shard
  pub about_none : (from : Node) (p : Packet) → number_of g p ≡ None → server_gets g site k l from p ≡ idle l
  about_none from h e = grind arith

  -- a packet that is about this shard
  module _ (n : ℕ) (turn : Turn) (p : Packet) (about : number_of g p ≡ Some n) where
    -- the row is that of the packet's own number
    pub heard : (F : Packet → Out ServerLive) (G : ℕ → Out ServerLive) (q : Packet) (m : ℕ) → p ≡ q → number_of g q ≡ Some m → F q ≡ G m → Gives g site l turn (G n) → Gives g site l turn (F p)
    heard k u q m e is row h = grind arith
