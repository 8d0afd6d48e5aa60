-- A node's state in the world is that of its own entries.
use Rattle.std.proofs.Common.{◌≡◌, ℕ, true, cond, ◌==◌, [], ◌∷◌, refl, ap, ◌∙◌, arith}
use Rattle.photon_model.proofs.Words.{set_at, Setting, Node, Dispatcher, Server, Replica, Joiner, land_dispatcher, land_joiner, land_server, land_replica, World, Entry, Begin, End, Stop, begun, ended, stopped, row_of, at_node, after, same_node}
use Rattle.photon_model.specs.Local.{own_entry, own_state, LocalIsOwn}

pub same_node-true : (a b : Node) → same_node a b ≡ true → a ≡ b
same_node-true a b e = grind arith

pub same_node-self : (a : Node) → same_node a a ≡ true
same_node-self a = grind arith

-- a cell changed at n, read at m, where the change is a function of the number and the cell
set_own : {A : Type 0} (f : ℕ → A) (change : ℕ → A → A) (n m : ℕ) → set_at f n (change n (f n)) m ≡ cond (m == n) (change m (f m)) (f m)
set_own f change n m = grind arith

pub own_one : (g : Setting) (w : World) (n : Node) (e : Entry) → at_node (after g w e) n ≡ own_entry g n (at_node w n) e
own_one g w (Dispatcher s) (Begin (Dispatcher t) i) = set_own w.dispatchers (λ k c. begun c i) t s
own_one g w (Dispatcher s) (End (Dispatcher t) o ps kept) = set_own w.dispatchers (λ k c. ended land_dispatcher c o (row_of g (Dispatcher k) c).live) t s
own_one g w (Dispatcher s) (Stop (Dispatcher t) o) = set_own w.dispatchers (λ k c. stopped land_dispatcher c o) t s
own_one g w (Server s) (Begin (Server t) i) = set_own w.servers (λ k c. begun c i) t s
own_one g w (Server s) (End (Server t) o ps kept) = set_own w.servers (λ k c. ended land_server c o (row_of g (Server k) c).live) t s
own_one g w (Server s) (Stop (Server t) o) = set_own w.servers (λ k c. stopped land_server c o) t s
own_one g w (Replica s) (Begin (Replica t) i) = set_own w.replicas (λ k c. begun c i) t s
own_one g w (Replica s) (End (Replica t) o ps kept) = set_own w.replicas (λ k c. ended land_replica c o (row_of g (Replica k) c).live) t s
own_one g w (Replica s) (Stop (Replica t) o) = set_own w.replicas (λ k c. stopped land_replica c o) t s
own_one g w (Joiner s) (Begin (Joiner t) i) = set_own w.joiners (λ k c. begun c i) t s
own_one g w (Joiner s) (End (Joiner t) o ps kept) = set_own w.joiners (λ k c. ended land_joiner c o (row_of g (Joiner k) c).live) t s
own_one g w (Joiner s) (Stop (Joiner t) o) = set_own w.joiners (λ k c. stopped land_joiner c o) t s
own_one g w _ _ = refl

pub local_is_own : LocalIsOwn
local_is_own g w [] n = refl
local_is_own g w (e ∷ es) n = local_is_own g (after g w e) es n ∙ ap (λ c. own_state g n c es) (own_one g w n e)
