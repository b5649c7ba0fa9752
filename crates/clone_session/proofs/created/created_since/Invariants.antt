use Rattle.std.proofs.Common.{◌≡◌, ◌≤◌, length, take}
use Rattle.clone_session.specs.Effects.{created_since}
use Rattle.clone_session.proofs.created.created_since.Given as goal

abbrev pub invariant-loop-space : goal.invariant-loop-space
invariant-loop-space l = record {
  created : l.created.items ≡ created_since l.spaces (take l.space-index l.files);
  few : length l.created.items ≤ l.space-index;
}
