use Rattle.std.proofs.Common.{◌≡◌, ℕ, zero, suc, ◌+◌, ◌<◌, true, Some, refl, subst, sym, arith}
use Rattle.photon_cli.proofs.Words.{REPLICAS, is_dead, kinds_of}
use Rattle.photon_cli.proofs.calls.dead_have_no_entry.Goals as goal

-- the kinds before a replica and its own are fixed
gone : (joiners r : ℕ) → r < 3 → is_dead (Some r) (kinds_of joiners REPLICAS) (4 + r) ≡ true
gone joiners zero l = refl
gone joiners (suc zero) l = refl
gone joiners (suc (suc zero)) l = refl
gone joiners (suc (suc (suc r))) l = absurd (omega (arith, l))

pub returns : goal.returns
returns c plan joiners log heard r few dead =
    c.dead_have_no_entry.ensures plan (kinds_of joiners REPLICAS) log.air.history heard.aired (4 + r) (subst (λ d. is_dead d (kinds_of joiners REPLICAS) (4 + r) ≡ true) (sym dead) (gone joiners r few))
