use Rattle.std.proofs.Common.{inl, inr, ⊎_elim, [], subst, arith}
use Rattle.std.proofs.lemmas.Bool.{cases_lt}
use Rattle.registry_state.specs.LookBack.{bound_of}
use Rattle.photon_model.specs.Facts.{IfUp, ServerHolds, known}
use Rattle.photon_model.specs.Runs.{world_after, opening}
use Rattle.photon_model.specs.Sound.{accepted_inserts, values_of}
use Rattle.photon_model.proofs.Running.{drained, written_once, own_query}
use Rattle.photon_model.proofs.Agreeing.{every_run_holds, one_decided}
use Rattle.photon_model.proofs.Storing.{records_stay}
use Rattle.photon_model.proofs.Showing.{tells_missing}
use Rattle.photon_model.proofs.headline.Goals as goal

pub returns-clause-once : goal.returns-clause-once
returns-clause-once c g d es ok sound run = let h = every_run_holds g d (accepted_inserts g d) es ok sound run in written_once g (world_after g (opening d) es) h.0 h.2

pub returns-clause-own_query : goal.returns-clause-own_query
returns-clause-own_query c g d es ok sound run = let h = every_run_holds g d (accepted_inserts g d) es ok sound run in own_query g (world_after g (opening d) es) h.0 h.2

pub returns-clause-decided : goal.returns-clause-decided
returns-clause-decided c g d es ok sound run = let h = every_run_holds g d (accepted_inserts g d) es ok sound run in one_decided g (world_after g (opening d) es) h.1 h.3

pub returns-clause-learned : goal.returns-clause-learned
returns-clause-learned c g d es ok sound run s shard l lt up =
    let h = every_run_holds g d (accepted_inserts g d) es ok sound run in
    ((subst (IfUp (ServerHolds g (known g (world_after g (opening d) es) h.0))) up (h.2.servers s lt).live) shard).learned

pub returns-clause-drained : goal.returns-clause-drained
returns-clause-drained c g d es ok sound run s lt end l q m found =
    let w = world_after g (opening d) es in
    let h = every_run_holds g d (accepted_inserts g d) es ok sound run in
    ⊎_elim (λ expired. inl expired) (λ le. inr (drained g w h.0 ok h.2 s lt end l q m found (λ e. absurd (omega arith)))) (cases_lt l.click.id.micros (bound_of (values_of g (known g w []) l.click.id)))

pub returns-clause-kept : goal.returns-clause-kept
returns-clause-kept c g w es j = (records_stay g w es).0 j

pub returns-clause-missing : goal.returns-clause-missing
returns-clause-missing c g d i = tells_missing g d i
