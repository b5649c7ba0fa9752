use Rattle.std.proofs.Common.{◌≡◌, ◌≤◌, ◌+◌, ◌*◌, ◌++◌, take, vec_len}
use Rattle.std.specs.List.{flat_map}
use Rattle.clone_wire.specs.Ranges.{AllAre, IsSpace}
use Rattle.clone_wire.specs.Spelling.{space_bytes}
use Rattle.clone_wire.proofs.writing.push_spaces.Given as goal

abbrev pub invariant-loop-space : goal.invariant-loop-space
invariant-loop-space l = record {
  so_far : l.text.items ≡ l.initial.text.items ++ flat_map space_bytes (take l.space-index l.spaces);
  long : vec_len l.text ≤ vec_len l.initial.text + 8 * l.space-index;
  kept : AllAre IsSpace (take l.space-index l.spaces);
}
