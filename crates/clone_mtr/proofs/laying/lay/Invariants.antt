use Rattle.std.proofs.Common.{◌≡◌, ◌+◌, length, drop}
use Rattle.clone_page.specs.Bytes.{put_at}
use Rattle.clone_mtr.specs.Spelling.{spelling}
use Rattle.clone_mtr.proofs.laying.lay.Given as goal

abbrev pub invariant-loop-entry : goal.invariant-loop-entry
invariant-loop-entry l = record {
  long : l.at + length (spelling (drop l.entry-index l.entries)) ≡ length (spelling l.entries);
  text : put_at l.at (spelling (drop l.entry-index l.entries)) l.into ≡ put_at 0 (spelling l.entries) l.initial.into;
}
