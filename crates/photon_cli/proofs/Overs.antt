-- How a call ends over a store, from how its parts do.
use Rattle.std.proofs.Common.{arith, Result, Ok, Err, Option, Some, sym, subst}
use Rattle.photon_cli.proofs.Words.{IfErr-weaker, continues_same, EndsOver, Images, IsCauseOf, IsLate, IsRowFault, IsWelcome, LeavesSomething, RunFault, RunLog, Setting, TellsPlaces, Text, asked_of}
use Rattle.photon_cli.proofs.Causing.{later_caused}
use Rattle.run_fault.specs.declared.fault.RunFault.TheVariants as fault

-- a disk whose limit is told late has met a fault
pub late_met : (g : Setting) (before : Images) (faulted : Type 0) (f : RunFault) → IsLate g before faulted f → faulted
late_met g before faulted (fault.Limit disk value) late = late.0
late_met g before faulted _ late = absurd late

module _ (g : Setting) (before : Images) (read faulted : Type 0) (ran : Option RunLog) where
  -- before the store was touched
  pub before_all : {A : Type 0} (f : RunFault) → IsCauseOf g before read faulted f → IsWelcome (LeavesSomething g before) f → EndsOver g before before read faulted ran {A = A} (Err f)
  before_all f cause welcome = grind (arith, continues_same)

  pub before_table : {A : Type 0} (shards : Text) (f : RunFault) → IsRowFault shards f → EndsOver g before before read faulted ran {A = A} (Err f)
  before_table shards f (row, is, first) = before_all f (subst (IsCauseOf g before read faulted) (sym is) tt) (subst (IsWelcome (LeavesSomething g before)) (sym is) tt)

  -- a fault that is handed on
  pub on_fault : {A B : Type 0} (after : Images) (f : RunFault) → EndsOver g before after read faulted ran {A = A} (Err f) → EndsOver g before after read faulted ran {A = B} (Err f)
  on_fault after f over = record { keeps = over.keeps; idle = over.idle; passed = tt; caused = over.caused; welcome = over.welcome }

  module _ (after : Images) {A B : Type 0} (x : A) (over : EndsOver g before after read faulted ran (Ok x)) where
    -- where more is done with what came
    pub on_ok : (y : B) → EndsOver g before after read faulted ran (Ok y)
    on_ok y = record { keeps = over.keeps; idle = over.idle; passed = over.passed; caused = tt; welcome = λ sound. tt }

    pub on_err : (f : RunFault) → IsCauseOf g before read faulted f → IsWelcome (LeavesSomething g before) f → EndsOver g before after read faulted ran {A = B} (Err f)
    on_err f cause welcome = record { keeps = over.keeps; idle = over.idle; passed = tt; caused = cause; welcome = λ sound. welcome }

  -- whose files were read before, too
  pub read_later : (files : Type 0) → (files → read) → (after : Images) {A : Type 0} (r : Result A RunFault) → EndsOver g before after files faulted ran r → EndsOver g before after read faulted ran r
  read_later files more after r over = record {
    keeps = over.keeps;
    idle = over.idle;
    passed = over.passed;
    caused = IfErr-weaker r (IsCauseOf g before files faulted) (IsCauseOf g before read faulted) (λ f. later_caused before g.config.replicas (Some (asked_of g)) (TellsPlaces g) faulted (IsLate g before faulted f) files read more f) over.caused;
    welcome = over.welcome;
  }
