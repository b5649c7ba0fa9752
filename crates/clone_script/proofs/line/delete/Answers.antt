use Rattle.std.proofs.Common.{None, Some}
use Rattle.clone_script.proofs.LineTexts.{Parses-del}
use Rattle.clone_script.proofs.line.delete.Goals as goal

pub returns-in_err-row : goal.returns-in_err-row
returns-in_err-row c = rw c.from_residual.ensures (Parses-del _ None c.in_err-row.ensures)

pub returns : goal.returns
returns c = Parses-del _ (Some c.in_ok-row.row) c.in_ok-row.ensures
