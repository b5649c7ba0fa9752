use Rattle.std.proofs.Common.{◌≡◌, ◌≤◌, ◌++◌, drop, vec_capacity}
use Rattle.clone_track.specs.SortedRuns.{joined}
use Rattle.clone_track.proofs.runs.append_runs.Given as goal

-- with the runs that are left the list is whole, and it has its room
abbrev pub invariant-loop-run : goal.invariant-loop-run
invariant-loop-run l =
    (l.list.items ++ joined (drop l.run-index l.runs) ≡ l.fn.list.items ++ joined l.runs)
    × (vec_capacity l.fn.list ≤ vec_capacity l.list)
