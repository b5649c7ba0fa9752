use Rattle.std.proofs.Common.{◌≡◌, ◌≤◌, ◌+◌, ◌*◌, ◌++◌, take, vec_len}
use Rattle.std.specs.List.{flat_map}
use Rattle.clone_wire.specs.Ranges.{AllAre, IsPageAt}
use Rattle.clone_wire.specs.Spelling.{page_bytes}
use Rattle.clone_wire.proofs.writing.push_pages.Given as goal

abbrev pub invariant-loop-page : goal.invariant-loop-page
invariant-loop-page l = record {
  so_far : l.text.items ≡ l.initial.text.items ++ flat_map page_bytes (take l.page-index l.pages);
  long : vec_len l.text ≤ vec_len l.initial.text + 4104 * l.page-index;
  kept : AllAre IsPageAt (take l.page-index l.pages);
}
