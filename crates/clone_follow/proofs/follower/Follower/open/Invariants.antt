use Rattle.std.proofs.Common.{◌≡◌, drop}
use Rattle.std.specs.FinMap as finite
use Rattle.clone_follow.specs.Following.{with_rows}
use Rattle.clone_follow.proofs.follower.Follower.open.Given as goal

abbrev pub invariant-loop-table : goal.invariant-loop-table
invariant-loop-table l = with_rows l.tables (drop l.table-index l.rows) ≡ with_rows finite.empty l.rows
