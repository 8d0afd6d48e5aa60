-- Rest, quiet points, intervals and work turns of a history.
use Rattle.std.specs.Prelude.{◌≡◌, ◌≢◌, ◌⊎◌, ℕ, ◌<◌, Bool, true, false, not, ◌==◌, List, [], ◌∷◌, ◌++◌, length, filter, count_by, Option, Some, None, ⊤}
use Rattle.photon_model.specs.Terms.{Advance, Deliver, Dispatcher, DispatcherLive, Flight, IsJoiner, IsNode, Joiner, JoinerLive, Mem, Node, Note, Replica, Sent, Server, ServerLive, Setting, Tick, dispatcher_at_rest, dispatcher_unfinished, dispatcher_wants, has, joiner_at_rest, joiner_unfinished, server_at_rest, server_unfinished, server_wants, waits}
use Rattle.photon_model.specs.Runs.{World, Entry, Begin, End, Stop, sends, after, world_after}

-- whether two nodes are one
abbrev pub same_node : Node → Node → Bool
same_node (Dispatcher a) (Dispatcher b) = a == b
same_node (Server a) (Server b) = a == b
same_node (Replica a) (Replica b) = a == b
same_node (Joiner a) (Joiner b) = a == b
same_node _ _ = false

-- a node is up, and this holds of its volatile state
abbrev pub UpWith : {L : Type 0} → (L → Type 0) → Option L → Type 0
UpWith P None = ⊥
UpWith P (Some l) = P l

-- every node's work is done
pub record IsAtRest (g : Setting) (w : World) : Type 0 where
  pub dispatchers : (s : ℕ) → s < 2 → UpWith (λ l. dispatcher_at_rest l ≡ true) (w.dispatchers s).live
  pub joiners : (j : ℕ) → IsJoiner g j → UpWith (λ l. joiner_at_rest l ≡ true) (w.joiners j).live
  pub servers : (s : ℕ) → s < 2 → UpWith (λ l. server_at_rest g l ≡ true) (w.servers s).live

-- ---- intervals

abbrev pub is_tick_of : Node → Entry → Bool
is_tick_of m (Begin n Tick) = same_node m n
is_tick_of m _ = false

abbrev pub ticks_of : Node → List Entry → ℕ
ticks_of m es = count_by (is_tick_of m) es

-- ys are xs with x besides
abbrev pub put_in : Sent → List Sent → List Sent → Type 0
put_in x xs ys = (front : List Sent) × (back : List Sent) × (xs ≡ front ++ back) × (ys ≡ front ++ x ∷ back)

-- a node is unfinished
abbrev pub if_up : {L : Type 0} → (L → Bool) → Option L → Bool
if_up f None = false
if_up f (Some l) = f l

abbrev pub is_unfinished : Setting → World → Node → Bool
is_unfinished g w (Dispatcher s) = if_up dispatcher_unfinished (w.dispatchers s).live
is_unfinished g w (Server s) = if_up (server_unfinished g) (w.servers s).live
is_unfinished g w (Joiner j) = if_up joiner_unfinished (w.joiners j).live
is_unfinished g w (Replica r) = false

abbrev pub ticks_due : Bool → ℕ
ticks_due true = 1
ticks_due false = 0

-- some replicas take no part; all other nodes do
abbrev pub is_out : (ℕ → Bool) → Node → Bool
is_out dead (Replica r) = dead r
is_out dead (Dispatcher s) = false
is_out dead (Server s) = false
is_out dead (Joiner j) = false

abbrev pub to_live : (ℕ → Bool) → Sent → Bool
to_live dead x = not (is_out dead x.to)

-- every node that takes part is up, no turn is open, no Own row applies; nor has a replica that takes no part an open turn,
-- whose End might still refuse an attempt
pub record IsQuiet (g : Setting) (dead : ℕ → Bool) (w : World) : Type 0 where
  pub dispatchers : (s : ℕ) → s < 2 → ((w.dispatchers s).opened ≡ None) × UpWith (λ l. dispatcher_wants l ≡ false) (w.dispatchers s).live
  pub servers : (s : ℕ) → s < 2 → ((w.servers s).opened ≡ None) × UpWith (λ l. server_wants g l ≡ false) (w.servers s).live
  pub joiners : (j : ℕ) → IsJoiner g j → ((w.joiners j).opened ≡ None) × UpWith (λ l. ⊤) (w.joiners j).live
  pub replicas : (r : ℕ) → r < g.config.replicas → dead r ≡ false → ((w.replicas r).opened ≡ None) × UpWith (λ l. ⊤) (w.replicas r).live
  pub silent : (r : ℕ) → r < g.config.replicas → dead r ≡ true → (w.replicas r).opened ≡ None

-- What is on its way: an End puts its packets in, but for those to nodes that take no part, and a delivery takes one out.
-- No turn stops, and nothing is left on its way at the end.
abbrev pub Carries : (ℕ → Bool) → List Sent → List Entry → Type 0
Carries dead air [] = air ≡ []
Carries dead air (Begin n (Deliver from p) ∷ es) = (rest : List Sent) × put_in (record { from = from; to = n; packet = p }) rest air × Carries dead rest es
Carries dead air (Begin n i ∷ es) = Carries dead air es
Carries dead air (End n _ ps kept ∷ es) = Carries dead (filter (to_live dead) (sends n ps) ++ air) es
Carries dead air (Stop n landed ∷ es) = ⊥

-- An interval from w on: quiet at both ends, all that is sent in it to nodes that take part is delivered in it once and
-- nothing else is, and just the nodes that are unfinished at its start take a Tick, once.
pub record IsInterval (g : Setting) (dead : ℕ → Bool) (w : World) (es : List Entry) : Type 0 where
  pub starts : IsQuiet g dead w
  pub ends : IsQuiet g dead (world_after g w es)
  pub carries : Carries dead [] es
  pub ticks : (n : Node) → IsNode g n → ticks_of n es ≡ ticks_due (is_unfinished g w n)

-- a turn that takes a line, marks a position done, ends a trial or a join in flight, writes an Advance, or learns a slot
abbrev pub DispatcherWorks : DispatcherLive → DispatcherLive → Option Note → Type 0
DispatcherWorks a b note =
    ((a.place ≢ b.place) ⊎ ((p : ℕ) × (waits a.fresh p ≡ true) × (waits b.fresh p ≡ false))) ⊎ (((p : ℕ) × (has a.trying p ≡ true) × (has b.trying p ≡ false)) ⊎ ((e : ℕ) × (note ≡ Some (Advance e))))

abbrev pub JoinerWorks : JoinerLive → JoinerLive → Type 0
JoinerWorks a b = (f : Flight) × Mem f a.flight × (Mem f b.flight → ⊥)

abbrev pub ServerWorks : ServerLive → ServerLive → Type 0
ServerWorks a b = (s : ℕ) × (length (a.shards s).learned < length (b.shards s).learned)

abbrev pub BothUp : {L : Type 0} → (L → L → Type 0) → Option L → Option L → Type 0
BothUp R (Some a) (Some b) = R a b
BothUp R None b = ⊥
BothUp R (Some a) None = ⊥

abbrev pub IsWork : Setting → World → Entry → Type 0
IsWork g w (End (Dispatcher s) note ps kept) = BothUp (λ a b. DispatcherWorks a b note) (w.dispatchers s).live ((after g w (End (Dispatcher s) note ps kept)).dispatchers s).live
IsWork g w (End (Joiner j) note ps kept) = BothUp JoinerWorks (w.joiners j).live ((after g w (End (Joiner j) note ps kept)).joiners j).live
IsWork g w (End (Server s) note ps kept) = BothUp ServerWorks (w.servers s).live ((after g w (End (Server s) note ps kept)).servers s).live
IsWork g w (End (Replica r) _ ps kept) = ⊥
IsWork g w (Begin n i) = ⊥
IsWork g w (Stop n o) = ⊥
