-- From a store that was placed to the one before.
use Rattle.std.proofs.Common.{ℕ, List, Option, None, Result, Err}
use Rattle.site_run.proofs.Words.{Within, DiskName, Setting, Images, opened_same, RunFault, IsWelcome, IsCauseOf, LeavesSomething, Outcome, RunLog, RunsOver, IfErr-weaker, on_ok_weaker}
use Rattle.site_run.proofs.Entered.{rest_earlier, run_earlier, sound_placed, welcome_where}
use Rattle.site_run.proofs.Outing.{goes_on_through, goes_on_within}
use Rattle.site_run.proofs.Refusing.{cause_within, passed_within}

module _ (g : Setting) (before placed : Images) (same : (disk : DiskName) → Within (before disk) (placed disk) × Within (placed disk) (before disk)) where
  within : (disk : DiskName) (c : List ℕ) → placed disk c → before disk c
  within disk = (same disk).0

  pub leaves_placed : LeavesSomething g before → LeavesSomething g placed
  leaves_placed some disk is = let left = some disk is in (left.0, (same disk).1 left.0 left.1)

  -- a store that wasn't opened is given up, and stands for nothing new
  pub not_begun : (read faulted : Type 0) (f : RunFault) → IsCauseOf g before read faulted f → IsWelcome (LeavesSomething g before) f → RunsOver g before placed read faulted None (Err f)
  not_begun read faulted f cause welcome = search (sound_placed, within, goes_on_within, opened_same)

  pub ran_earlier : (after : Images) (files read stores faulted : Type 0) (ran : Option RunLog) (r : Result Outcome RunFault) → (files → read) → (stores → faulted) → RunsOver g placed after files stores ran r → RunsOver g before after read faulted ran r
  ran_earlier after files read stores faulted ran r to_read to_faulted x = record {
    ends = record {
      keeps = record {
        sound = λ sound. x.ends.keeps.sound (sound_placed g before placed within sound);
        grown = λ disk. goes_on_through (before disk) (placed disk) (after disk) (goes_on_within (before disk) (placed disk) (within disk)) (x.ends.keeps.grown disk);
      };
      idle = λ none disk other c here. let o = x.ends.idle none disk other c here in (o.0, within disk o.0 o.1, o.2);
      passed = on_ok_weaker r (passed_within g before placed within) x.ends.passed;
      caused = IfErr-weaker r (IsCauseOf g placed files stores) (IsCauseOf g before read faulted) (cause_within g before placed within files read faulted stores to_read to_faulted) x.ends.caused;
      welcome = λ sound. IfErr-weaker r _ _ (λ f. welcome_where f _ _ leaves_placed) (x.ends.welcome (sound_placed g before placed within sound));
    };
    left = run_earlier g before placed after within ran x.left;
    rest = rest_earlier g before placed after within r ran stores faulted to_faulted x.rest;
    named = x.named;
  }
