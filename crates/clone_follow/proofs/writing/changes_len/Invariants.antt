use Rattle.std.proofs.Common.{◌≡◌, ◌≤◌, ◌*◌, length, take}
use Rattle.std.specs.List.{flat_map}
use Rattle.clone_follow.specs.Spelling.{change_bytes}
use Rattle.clone_follow.proofs.writing.changes_len.Given as goal

abbrev pub invariant-loop-change : goal.invariant-loop-change
invariant-loop-change l = record {
  so_far : l.long ≡ length (flat_map change_bytes (take l.change-index l.changes));
  most : l.long ≤ 78 * l.change-index;
}
