use Rattle.std.proofs.Common.{◌≡◌, ◌++◌, map, take, drop}
use Rattle.clone_tasks.specs.Tables.{renewed}
use Rattle.clone_tasks.proofs.moves.renew.Given as goal

abbrev pub invariant-loop-standing : goal.invariant-loop-standing
invariant-loop-standing l =
    l.standings ≡ map renewed (take l.standing-index l.initial.standings) ++ drop l.standing-index l.initial.standings
