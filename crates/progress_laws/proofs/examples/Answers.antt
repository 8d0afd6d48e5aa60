use Rattle.progress_laws.proofs.Worked.{carries_once, three_are_idle}
use Rattle.progress_laws.proofs.examples.Goals as goal

pub returns-clause-carries : goal.returns-clause-carries
returns-clause-carries c = carries_once

pub returns-clause-idle : goal.returns-clause-idle
returns-clause-idle c = three_are_idle
