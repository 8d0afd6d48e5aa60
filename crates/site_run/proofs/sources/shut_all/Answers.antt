use Rattle.std.proofs.Common.{inl, inr, ⊎_elim, sym, subst, ◌≤◌, ◌∙◌, arith}
use Rattle.site_run.proofs.Words.{Rose}
use Rattle.site_run.proofs.Counting.{rose_added, rose_later, added_grows, front_or_last}
use Rattle.site_run.proofs.sources.shut_all.Goals as goal

pub loop-log-preserved : goal.loop-log-preserved
loop-log-preserved g c =
    let faults = g.F.Source.faults in
    let of_log = g.F.Log.LogFile.faults in
    let inv = c.loop-log.invariant in
    let one = c.in-Some.log in
    let grew : faults c.loop-log.files ≤ faults c.shut.new.self = subst (λ n. faults c.loop-log.files ≤ n) (sym c.shut.ensures.count) (added_grows (faults c.loop-log.files) (of_log one)) in
    record {
      rose = λ log among some. ⊎_elim
          (λ left. ⊎_elim
          (λ front. inl front)
          (λ is. inr (subst (λ n. Rose (faults c.args.files.now) n) (sym c.shut.ensures.count)
          (rose_added (faults c.args.files.now) (faults c.loop-log.files) (of_log one) inv.count (subst (λ x. 1 ≤ of_log x) (sym is) some))))
          (front_or_last log c.loop-log.logs.items c.pop.new.self.items one c.in-Some.ensures.items left))
          (λ rose. inr (rose_later (faults c.args.files.now) (faults c.loop-log.files) (faults c.shut.new.self) rose grew))
          (inv.rose log among some);
      same = λ tells n. c.shut.ensures.same tells n ∙ inv.same tells n;
      count = omega (arith, inv.count, grew);
    }
