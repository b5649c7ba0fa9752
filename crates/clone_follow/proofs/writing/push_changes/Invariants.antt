use Rattle.std.proofs.Common.{◌≡◌, ◌++◌, take}
use Rattle.std.specs.List.{flat_map, AllByRecursion}
use Rattle.clone_follow.specs.Ranges.{IsChange}
use Rattle.clone_follow.specs.Spelling.{change_bytes}
use Rattle.clone_follow.proofs.writing.push_changes.Given as goal

abbrev pub invariant-loop-change : goal.invariant-loop-change
invariant-loop-change l = record {
  so_far : l.text.items ≡ l.initial.text.items ++ flat_map change_bytes (take l.change-index l.changes);
  kept : AllByRecursion IsChange (take l.change-index l.changes);
}
