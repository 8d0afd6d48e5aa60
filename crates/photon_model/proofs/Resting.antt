-- What rest leaves.
use Rattle.std.proofs.Common.{◌≡◌, ℕ, ◌<◌, ◌≤◌, true, List, [], Some, subst, arith, lit<}
use Rattle.std.specs.Prelude.{nat_lt, is_none}
use Rattle.std.proofs.lemmas.Bool.{ltb-false}
use Rattle.std.specs.Prelude.{Option}
use Rattle.std.proofs.Common.{None}
use Rattle.photon_model.proofs.Finding.{first_none}
use Rattle.photon_model.proofs.Worlds.{up_is}
use Rattle.photon_model.proofs.Words.{holder, bound_of, Setting, Checked, shards, JoinerLive, joiner_at_rest, ServerLive, server_at_rest, Mem, EventId, Token, known, SoundStore, accepted_inserts, values_of, IsWritten, IsDrained, UpWith, IsAtRest, World, Entry, Disks, world_after, IsRun, opening, decided_in, HasBounds, IsBoundOk, NoJoinerStops, RestLeaves}
use Rattle.photon_model.proofs.Running.{rest_drained}
use Rattle.photon_model.proofs.Agreeing.{every_run_holds, missing_is_old, bound_is_ok}

none_is : {A : Type 0} (o : Option A) → is_none o ≡ true → o ≡ None
none_is o e = grind arith

no_flights : (l : JoinerLive) → joiner_at_rest l ≡ true → l.flight ≡ []
no_flights l = grind arith

pub rest_is_done : (g : Setting) (d : Disks) (es : List Entry) (old : List ℕ) → Checked g → SoundStore g d → HasBounds g d old → IsRun g (opening d) es → IsAtRest g (world_after g (opening d) es) → RestLeaves g d es old (world_after g (opening d) es)
rest_is_done g d es old c s has_ r rest = record { drained = drained; bounds = bounds; missing = missing }
  where
    w : World
    w = world_after g (opening d) es

    drained : (k : ℕ) → k < 2 → IsDrained g (w.dispatchers k).kept
    drained k lt = let h = every_run_holds g d (accepted_inserts g d) es c s r in rest_drained g w h.0 c h.2 k lt (rest.dispatchers k lt)

    bounds : (shard : ℕ) → shard < shards g → (g.config.horizon ≤ bound_of (decided_in g w shard)) × IsBoundOk g old (bound_of (decided_in g w shard))
    bounds shard lt =
        let u = up_is (λ (l : ServerLive). server_at_rest g l ≡ true) (w.servers 0).live (rest.servers 0 (lit< tt)) in
        let e = first_none (λ k. nat_lt (bound_of (u.0.shards k).learned) g.config.horizon) 0 (shards g) (none_is _ u.2) shard (omega arith) (omega arith) in
        bound_is_ok g d (accepted_inserts g d) old es c s has_ r 0 shard u.0 (lit< tt) u.1 (ltb-false (bound_of (u.0.shards shard).learned) g.config.horizon e)

    missing : NoJoinerStops es → (i : EventId) (h : Token) → holder (values_of g (known g w []) i) i ≡ Some h → (IsWritten g (known g w []) i → ⊥) → Mem (record { id = i; token = h }) (accepted_inserts g d)
    missing calm = missing_is_old g d (accepted_inserts g d) es c s r calm (λ j l is up. no_flights l (subst (UpWith (λ (k : JoinerLive). joiner_at_rest k ≡ true)) up (rest.joiners j is)))
