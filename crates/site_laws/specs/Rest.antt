-- Rest and quiet points, by each node's own state.
use Rattle.std.specs.Prelude.{◌≡◌, ℕ, ◌<◌, Bool, true, false, List, None, ⊤}
use Rattle.site_laws.specs.Terms.{BusEntry, Disks, Dispatcher, Entry, IsNode, Joiner, Node, Replica, Server, Setting, dispatcher_at_rest, dispatcher_wants, joiner_at_rest, opening, server_at_rest, server_wants, world_after}
use Rattle.photon_model.specs.Rest.{UpWith, IsAtRest, is_out, IsQuiet}
use Rattle.site_laws.specs.Kinds.{StateOf}
use Rattle.site_laws.specs.Laws.{IsRunOf}

-- the node is up, and its work is done; a replica has none
abbrev pub RestsAt : Setting → (n : Node) → StateOf n → Type 0
RestsAt g (Dispatcher s) t = UpWith (λ l. dispatcher_at_rest l ≡ true) t.live
RestsAt g (Server s) t = UpWith (λ l. server_at_rest g l ≡ true) t.live
RestsAt g (Replica r) t = ⊤
RestsAt g (Joiner j) t = UpWith (λ l. joiner_at_rest l ≡ true) t.live

-- the node is up with no open turn, and has nothing to do by itself
abbrev pub QuietAt : Setting → (n : Node) → StateOf n → Type 0
QuietAt g (Dispatcher s) t = (t.opened ≡ None) × UpWith (λ l. dispatcher_wants l ≡ false) t.live
QuietAt g (Server s) t = (t.opened ≡ None) × UpWith (λ l. server_wants g l ≡ false) t.live
QuietAt g (Replica r) t = (t.opened ≡ None) × UpWith (λ l. ⊤) t.live
QuietAt g (Joiner j) t = (t.opened ≡ None) × UpWith (λ l. ⊤) t.live

-- where each node rests, the world does
abbrev pub StatesRest : Type 0
StatesRest =
    (g : Setting) (d : Disks) (h : List BusEntry) (at : (n : Node) → StateOf n) (es : List Entry) →
    IsRunOf g d h at es → ((n : Node) → IsNode g n → RestsAt g n (at n)) → IsAtRest g (world_after g (opening d) es)

-- where each node that takes part is quiet, and no other has an open turn, the world is quiet
abbrev pub StatesAreQuiet : Type 0
StatesAreQuiet =
    (g : Setting) (d : Disks) (h : List BusEntry) (at : (n : Node) → StateOf n) (es : List Entry) (dead : ℕ → Bool) →
    IsRunOf g d h at es → ((n : Node) → IsNode g n → is_out dead n ≡ false → QuietAt g n (at n)) → ((r : ℕ) → r < g.config.replicas → dead r ≡ true → (at (Replica r)).opened ≡ None) →
    IsQuiet g dead (world_after g (opening d) es)
