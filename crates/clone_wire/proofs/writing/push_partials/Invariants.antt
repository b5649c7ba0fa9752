use Rattle.std.proofs.Common.{◌≡◌, ◌≤◌, ◌+◌, ◌*◌, ◌++◌, take, vec_len}
use Rattle.std.specs.List.{flat_map}
use Rattle.clone_wire.specs.Ranges.{AllAre, IsChunkNumber}
use Rattle.clone_wire.specs.Spelling.{partial_bytes}
use Rattle.clone_wire.proofs.writing.push_partials.Given as goal

abbrev pub invariant-loop-partial : goal.invariant-loop-partial
invariant-loop-partial l = record {
  so_far : l.text.items ≡ l.initial.text.items ++ flat_map partial_bytes (take l.partial-index l.partials);
  long : vec_len l.text ≤ vec_len l.initial.text + 5 * l.partial-index;
  kept : AllAre IsChunkNumber (take l.partial-index l.partials);
}
