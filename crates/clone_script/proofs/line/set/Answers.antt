use Rattle.std.proofs.Common.{None, Some}
use Rattle.clone_script.proofs.LineTexts.{Parses-set}
use Rattle.clone_script.proofs.line.set.Goals as goal

pub returns-in_default : goal.returns-in_default
returns-in_default c = Parses-set _ None (rw c.in_default.is at c.in_ok-row.ensures)

pub returns : goal.returns
returns c = Parses-set _ (Some _) (rw c.in-Some.is at c.in_ok-row.ensures)
