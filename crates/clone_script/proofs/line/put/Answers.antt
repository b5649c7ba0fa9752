use Rattle.std.proofs.Common.{None, Some}
use Rattle.clone_script.proofs.LineTexts.{Parses-put}
use Rattle.clone_script.proofs.line.put.Goals as goal

pub returns-in_default : goal.returns-in_default
returns-in_default c = Parses-put _ None (rw c.in_default.is at c.in_ok-row.ensures)

pub returns : goal.returns
returns c = Parses-put _ (Some _) (rw c.in-Some.is at c.in_ok-row.ensures)
