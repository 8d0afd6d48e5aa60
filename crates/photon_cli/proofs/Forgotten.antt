-- Words that were taken for none, for want of memory: whatever they ask for, nothing was done.
use Rattle.std.proofs.Common.{inl, inr, ◌≡◌, ◌++◌, ℕ, List, Bool, Option, IsTrue, refl, sym, subst, arith}
use Rattle.photon_cli.proofs.Words.{continues_same, DiskName, StaysAs, Images, RunLog, BulkValues, Text, Values, Wish, a_bulk_run, a_drill, a_join, a_resharding, a_verification, BulkEnds, DrillEnds, Ends, IsNamedInBulk, IsNamedInDrill, JoinEnds, RunFault, VerifyEnds, message, status_of, ReshardEnds}
use Rattle.photon_cli.specs.Told.{IsToldOf, IsToldOfVerify, TellsBy}
use Rattle.run_fault.specs.declared.fault.RunFault.TheVariants as fault
use Rattle.photon_cli.proofs.Resharding.{ends, not_added, untaken}

module _ (logs sinks disks : Bool) (told : List ℕ → Option (List ℕ)) (files output errors faulted : Type 0) (before : Images) (same unrun : Type 0) (ran : Option RunLog) (old err_old err_new : List ℕ) (status : ℕ)
    (eight : status ≡ 8) (tells : IsTrue sinks → (errors → ⊥) → err_new ≡ err_old ++ message fault.Memory) (is_same : same) (is_unrun : unrun) (stays : (disk : DiskName) → StaysAs (before disk) (before disk)) where
  -- want of memory is named so, and told
  is_told : (named : RunFault → Type 0) → named fault.Memory → ((f : RunFault) × (status ≡ status_of f) × named f) × (IsTrue sinks → (errors → ⊥) → TellsBy named status err_old err_new)
  is_told named is = ((fault.Memory, eight, is), λ here calm. inr (fault.Memory, eight, is, tells here calm))

  join : (v : Values) → JoinEnds logs sinks told files output errors old old err_old err_new status v ran same unrun disks before before faulted
  join v = grind (arith, continues_same, stays, is_told (IsToldOf told v disks before files faulted unrun ran) (tt, λ d g asked. (tt, inl is_unrun)))

  drill : (v : Values) (file : Text) → DrillEnds logs sinks told files output errors old old err_old err_new status v file ran unrun
  drill v file = grind (arith, is_told (IsNamedInDrill told v file) tt)

  verify : (clicks : Text) → VerifyEnds logs sinks told files output errors old old err_old err_new status clicks same disks before before faulted
  verify clicks = grind (arith, stays, is_told (IsToldOfVerify told clicks disks before files faulted) (tt, λ d g over. tt))

  bulk : (v : BulkValues) → BulkEnds sinks output errors old old err_old err_new status v ran unrun
  bulk v = grind (arith, is_told (IsNamedInBulk v) tt)

  reshard : (row : Text) → ReshardEnds sinks output errors old old err_old err_new status row same disks before before faulted
  reshard row = subst (λ (n : ℕ). ReshardEnds sinks output errors old old err_old err_new n row same disks before before faulted) (sym eight)
      (ends sinks disks output errors old old err_old err_new row same before before faulted fault.Memory tt (λ d r is. tt) (λ none. (is_same, inr refl)) (λ at is. absurd (cc)) (λ is. absurd (cc)) (λ s d is. absurd (cc)) tells
      (λ d g replicas sound some e. omega (arith, e)) (λ d. untaken row before before 8 (not_added fault.Memory (λ is. cc)) (λ disk c now. now)))

  pub forgotten : (w : Wish) → Ends logs sinks disks told files output errors faulted before before same unrun ran old old err_old err_new status w
  forgotten (a_join v state) = join v
  forgotten (a_drill v plan) = (drill v plan, is_same)
  forgotten (a_verification clicks state) = (verify clicks, is_unrun)
  forgotten (a_bulk_run v) = (bulk v, is_same)
  forgotten (a_resharding state row) = (reshard row, is_unrun)
