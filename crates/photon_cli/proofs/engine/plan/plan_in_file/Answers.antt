use Rattle.std.proofs.Common.{◌≡◌, ◌+◌, ⊎_elim, inl, List, ℕ, ap, subst, sym, arith}
use Rattle.photon_cli.proofs.Words.{Field, good, bad, IsFault, IsFirstBad, IsPlanOf, size_limit}
use Rattle.run_fault.specs.declared.fault.RunFault.TheVariants as fault
use Rattle.photon_cli.proofs.PlanFront.{of_file, to_read}
use Rattle.photon_cli.proofs.engine.plan.plan_in_file.Goals as goal

pub returns-in-Ok-read-clause-plan : goal.returns-in-Ok-read-clause-plan
returns-in-Ok-read-clause-plan g c tells =
    of_file (size_limit + 1) (omega arith) (g.F.Source.bytes c.args.files.now c.args.name.now) c.in-Ok.bytes.items (good c.in-Ok-read.plan) (c.in-Ok.ensures.bytes tells)
    (subst (λ (b : List ℕ). IsPlanOf b c.in-Ok-read.plan) c.deref.ensures.value c.in-Ok-read.ensures.plan)

pub returns-in-Ok-read-clause-refused : goal.returns-in-Ok-read-clause-refused
returns-in-Ok-read-clause-refused g c tells at refused =
    let own : IsFirstBad c.in-Ok.bytes.items at = to_read (size_limit + 1) (omega arith) (g.F.Source.bytes c.args.files.now c.args.name.now) c.in-Ok.bytes.items (bad at) (c.in-Ok.ensures.bytes tells) refused in
    absurd (c.in-Ok-read.ensures.refused at (subst (λ (b : List ℕ). IsFirstBad b at) (sym c.deref.ensures.value) own))

pub returns-in-Err-At-clause-place : goal.returns-in-Err-At-clause-place
returns-in-Err-At-clause-place g c tells at is =
    let same : c.in-Err-At.place ≡ at = cc is in
    let told : IsFirstBad c.deref.result.now c.in-Err-At.place = subst (IsFault c.deref.result.now) c.in-Err-At.field-0-is c.in-Err-At.ensures.place in
    let own : IsFirstBad c.in-Ok.bytes.items c.in-Err-At.place = subst (λ (b : List ℕ). IsFirstBad b c.in-Err-At.place) c.deref.ensures.value told in
    of_file (size_limit + 1) (omega arith) (g.F.Source.bytes c.args.files.now c.args.name.now) c.in-Ok.bytes.items (bad at) (c.in-Ok.ensures.bytes tells) (subst (IsFirstBad c.in-Ok.bytes.items) same own)

pub returns-in-Err-At-clause-refused : goal.returns-in-Err-At-clause-refused
returns-in-Err-At-clause-refused g c tells at refused =
    let own : IsFirstBad c.in-Ok.bytes.items at = to_read (size_limit + 1) (omega arith) (g.F.Source.bytes c.args.files.now c.args.name.now) c.in-Ok.bytes.items (bad at) (c.in-Ok.ensures.bytes tells) refused in
    let here : IsFirstBad c.deref.result.now at = subst (λ (b : List ℕ). IsFirstBad b at) (sym c.deref.ensures.value) own in
    ⊎_elim (λ e. let same : c.in-Err-At.place ≡ at = cc in inl (ap (λ (p : Field). fault.Plan p) same)) (λ e. absurd cc) (c.in-Err-At.ensures.refused at here)
