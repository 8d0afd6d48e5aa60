use Rattle.log_records.proofs.Places.{lines_follow, lines_stand, lines_end}
use Rattle.log_records.proofs.laws.click_lines.Goals as goal

pub returns-clause-follow : goal.returns-clause-follow
returns-clause-follow c = lines_follow

pub returns-clause-stand : goal.returns-clause-stand
returns-clause-stand c = lines_stand

pub returns-clause-end : goal.returns-clause-end
returns-clause-end c = lines_end
