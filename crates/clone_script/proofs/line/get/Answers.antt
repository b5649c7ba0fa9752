use Rattle.std.proofs.Common.{None, Some}
use Rattle.clone_script.proofs.LineTexts.{Parses-get}
use Rattle.clone_script.proofs.line.get.Goals as goal

pub returns-in_err-row : goal.returns-in_err-row
returns-in_err-row c = rw c.from_residual.ensures (Parses-get _ None c.in_err-row.ensures)

pub returns : goal.returns
returns c = Parses-get _ (Some c.in_ok-row.row) c.in_ok-row.ensures
