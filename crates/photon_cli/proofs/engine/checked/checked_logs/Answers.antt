use Rattle.std.proofs.Common.{◌≡◌, ℕ, List, Option, Err, ap, subst}
use Rattle.photon_cli.proofs.Words.{IsSomeAnd, err_from_is_err_and, QueryRec, IsQueryLog, RefusesClick, Clicks, Refuses}
use Rattle.run_fault.specs.declared.fault.RunFault.TheVariants as fault
use Rattle.photon_cli.proofs.CheckedLogs.{clicks_read, queries_read}
use Rattle.photon_cli.proofs.Refusals.{of_its_log, within}
use Rattle.photon_cli.proofs.engine.checked.checked_logs.Goals as goal

pub returns-clause-valid : goal.returns-clause-valid
returns-clause-valid g c logs =
    let q = queries_read (g.F.Source.bytes c.args.files.now c.args.queries.now) _ (c.in_ok-check_in.ensures.found logs) in
    let k = clicks_read _ _ c.in_ok-checked.checked (c.in_ok-check_in.ensures.same logs c.args.clicks.now) (c.in_ok-checked.ensures.found logs) in
    (q.0, k.0.0, record { query = q.1; click = k.0.1 }, k.1)

pub returns-clause-end : goal.returns-clause-end
returns-clause-end g c logs = (clicks_read _ _ c.in_ok-checked.checked (c.in_ok-check_in.ensures.same logs c.args.clicks.now) (c.in_ok-checked.ensures.found logs)).2

pub returns-in_err-checked-clause-refused : goal.returns-in_err-checked-clause-refused
returns-in_err-checked-clause-refused g c tells log line w e =
    let p = err_from_is_err_and c.from_residual-in_err-checked.result c.from_residual-in_err-checked.ensures.1 in
    let f = c.in_err-checked.field-0.0 in
    let own : f ≡ fault.Refused log line w = cc in
    let q = queries_read (g.F.Source.bytes c.args.files.now c.args.queries.now) _ (c.in_ok-check_in.ensures.found tells) in
    let valid : IsSomeAnd (g.F.Source.bytes c.args.files.now c.args.queries.now) (λ (b : List ℕ). (qs : List QueryRec) × IsQueryLog b qs) = within _ (λ (b : List ℕ). IsQueryLog b q.0) (λ (b : List ℕ). (qs : List QueryRec) × IsQueryLog b qs) (λ b h. (q.0, h)) q.1 in
    let there = λ (is : f ≡ fault.Refused Clicks line w). subst (λ (o : Option (List ℕ)). IsSomeAnd o (λ b. RefusesClick b (record { line = line; why = w }))) (c.in_ok-check_in.ensures.same tells c.args.clicks.now) (c.in_err-checked.ensures.refused tells line w (ap Err is)) in
    of_its_log (Refuses (g.F.Source.bytes c.args.files.now) c.args.queries.now c.args.clicks.now) Clicks log f line w c.in_err-checked.ensures.fault (λ is. (valid, there is)) own
