-- A node that wants nothing does nothing by itself.
use Rattle.std.specs.Prelude.{◌≡◌, ℕ, false}
use Rattle.photon_model.specs.Terms.{DispatcherKept, DispatcherLive, JoinerKept, JoinerLive, Own, ReplicaKept, ServerKept, ServerLive, Setting, dispatcher_turn, dispatcher_wants, idle, joiner_turn, replica_turn, server_turn, server_wants}

pub record OwnIsWanted : Type 0 where
  pub dispatcher : (g : Setting) (site : ℕ) (k : DispatcherKept) (l : DispatcherLive) → dispatcher_wants l ≡ false → dispatcher_turn g site k l Own ≡ idle l
  pub server : (g : Setting) (site : ℕ) (k : ServerKept) (l : ServerLive) → server_wants g l ≡ false → server_turn g site k l Own ≡ idle l
  pub joiner : (g : Setting) (n : ℕ) (k : JoinerKept) (l : JoinerLive) → joiner_turn g n k l Own ≡ idle l
  pub replica : (k : ReplicaKept) → replica_turn k Own ≡ idle tt
