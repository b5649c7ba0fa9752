use Rattle.std.proofs.Common.{◌+◌, ◌*◌}
use Rattle.clone_mtr.proofs.Items.{is_sought}
use Rattle.clone_mtr.proofs.fields.two_of.Goals as goal

pub returns-clause-sought : goal.returns-clause-sought
returns-clause-sought c = is_sought c.args.at (c.in_ok-high.field-0 * 256 + c.in_ok-low.field-0) c.args.what c.in_ok-judge-2.ensures
