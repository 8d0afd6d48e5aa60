-- What the tests of a shard say.
use Rattle.std.proofs.Common.{◌≡◌, ℕ, ◌<◌, ◌==◌, true, is_none, length, sym, ap, arith, Bool, nat_lt}
use Rattle.registry_server.proofs.Words.{LAST_SLOT, waiting, bound_of, Setting, is_empty, ShardState, is_free, setting, IsShard, passes, says, Station, Shard, Test, MayPropose}
use Rattle.registry_server.proofs.Rowing.{queue_is, proposal_is}

module _ (t : Station) (g : Setting) (h : Shard) (st : ShardState) (free empty : Bool) (bound : ℕ) (is : IsShard h st) (ef : free ≡ is_none h.proposal) (ee : empty ≡ (length (waiting h.queue) == 0)) (eb : bound ≡ bound_of st.learned) where
  f : free ≡ is_free st.proposal
  f = grind (arith, proposal_is)

  e : empty ≡ is_empty st.queue
  e = grind (arith, queue_is)

  held : h.held ≡ st.held
  held = sym (ap (λ (s : ShardState). s.held) is.is)

  pub passes_is : (test : Test) → says test free h.held empty (nat_lt bound t.config.horizon) (nat_lt h.next LAST_SLOT) ≡ passes (setting t g) test st
  passes_is h = grind (arith, f, held)

pub low_is : (test : Test) (n : ℕ) (free held empty below : Bool) → test ≡ MayPropose → says test free held empty below (nat_lt n LAST_SLOT) ≡ true → n < LAST_SLOT
low_is test n free held empty below may e = grind arith
