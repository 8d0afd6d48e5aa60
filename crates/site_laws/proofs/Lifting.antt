-- What one node does, in the world of all.
use Rattle.std.proofs.Common.{◌≡◌, ◌≢◌, ⊎_elim, ℕ, ◌≤◌, List, ◌++◌, None, refl, sym, ◌∙◌, arith}
use Rattle.site_laws.proofs.Words.{cases_lt, set_at, Setting, none_some, IsNode, node_of, node_count, NumbersAreNodes, Sent, Node, Dispatcher, Server, Replica, Joiner, World, Disks, after, May, down, opening, Cell, KeptOf, LiveOf, rows_of, cell_of, kept_of}
use Rattle.site_laws.proofs.Stepping.{Deed, Begins, Ends, entry_of, sent_of, MayDo, done}

abbrev pub CellOf : Node → Type 0
CellOf n = Cell (KeptOf n) (LiveOf n)

-- the world with this cell and these packets more
abbrev pub put : World → (n : Node) → CellOf n → List Sent → World
put w (Dispatcher s) c more = record w { dispatchers = set_at w.dispatchers s c; sent = more ++ w.sent }
put w (Server s) c more = record w { servers = set_at w.servers s c; sent = more ++ w.sent }
put w (Replica r) c more = record w { replicas = set_at w.replicas r c; sent = more ++ w.sent }
put w (Joiner j) c more = record w { joiners = set_at w.joiners j c; sent = more ++ w.sent }

pub put_sent : (w : World) (n : Node) (c : CellOf n) (more : List Sent) → (put w n c more).sent ≡ more ++ w.sent
put_sent w n c more = grind arith

pub put_here : (w : World) (n : Node) (c : CellOf n) (more : List Sent) → cell_of (put w n c more) n ≡ c
put_here w (Dispatcher s) c more = grind arith
put_here w _ c more = grind arith

pub put_else : (w : World) (n m : Node) (c : CellOf n) (more : List Sent) → m ≢ n → cell_of (put w n c more) m ≡ cell_of w m
put_else w (Dispatcher s) (Dispatcher t) c more ne = grind arith
put_else w (Server s) (Server t) c more ne = grind arith
put_else w (Replica s) (Replica t) c more ne = grind arith
put_else w (Joiner s) (Joiner t) c more ne = grind arith
put_else w _ _ c more ne = refl

-- what a node may do may come next
pub may_come : (g : Setting) (w : World) (n : Node) (deed : Deed) → IsNode g n → MayDo (rows_of n) g n w.sent (cell_of w n) deed → May g w (entry_of n deed)
may_come g w (Dispatcher s) (Ends made ps kept) is may = (is, may.0, may.1)
may_come g w (Server s) (Ends made ps kept) is may = (is, may.0, may.1)
may_come g w (Replica r) (Ends made ps kept) is may = (is, may.0, may.1)
may_come g w (Joiner j) (Ends made ps kept) is may = (is, may.0, may.1)
may_come g w _ _ is may = (is, may)

-- and it changes that node alone
pub after_is : (g : Setting) (w : World) (n : Node) (deed : Deed) → after g w (entry_of n deed) ≡ put w n (done (rows_of n) g (cell_of w n) deed) (sent_of n deed)
after_is g w (Dispatcher s) (Begins i) = refl
after_is g w (Server s) (Begins i) = refl
after_is g w (Replica r) (Begins i) = refl
after_is g w (Joiner j) (Begins i) = refl
after_is g w _ _ = refl

-- at the opening each node is down over its records
pub cell_opening : (d : Disks) (n : Node) → cell_of (opening d) n ≡ down (kept_of d n)
cell_opening d (Dispatcher s) = refl
cell_opening d _ = refl

-- a number that no node has is none below their count
pub beyond : (g : Setting) → NumbersAreNodes g → (m : ℕ) → node_of g m ≡ None → node_count g ≤ m
beyond g numbers m none = ⊎_elim (λ l. let x = numbers.each m l in none_some x.0 (sym none ∙ x.1)) (λ l. l) (cases_lt m (node_count g))
