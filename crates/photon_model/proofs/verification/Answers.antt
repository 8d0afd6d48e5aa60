use Rattle.std.proofs.Common.{List, map, subst, sym}
use Rattle.photon_model.proofs.Words.{Click, ClickLine, JournalsAgree, BallotNote}
use Rattle.log_records.specs.Report.{distinct}
use Rattle.photon_model.proofs.Verifying.{pair, found, line, missing}
use Rattle.photon_model.proofs.verification.Goals as goal

pub returns-clause-pair : goal.returns-clause-pair
returns-clause-pair c g d js own i = pair g d js own i

pub returns-clause-written : goal.returns-clause-written
returns-clause-written c g d js own i = found g d js own i

pub returns-clause-line : goal.returns-clause-line
returns-clause-line c g d js own i = line g d js own i

pub returns-clause-report : goal.returns-clause-report
returns-clause-report c g d js own = λ k. map (λ (click : Click). line g d js own click.id k) (distinct (map (λ (l : ClickLine). l.click) g.clicks))

pub returns-clause-missing : goal.returns-clause-missing
returns-clause-missing c g d js own i = missing g d js own i

pub returns-clause-agrees : goal.returns-clause-agrees
returns-clause-agrees c g d js own sound = subst (λ (ns : List (List BallotNote)). JournalsAgree ns) (sym own.notes) sound.replicas.agree
