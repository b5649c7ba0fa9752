use Rattle.std.proofs.Common.{◌≡◌, take}
use Rattle.clone_snapshot.specs.Snaps.{list_of}
use Rattle.clone_snapshot.specs.Resets.{IsReset}
use Rattle.clone_snapshot.proofs.resets.reset.Given as goal

abbrev pub invariant-loop-partial : goal.invariant-loop-partial
invariant-loop-partial l = record {
  reset : IsReset (list_of l.list) l.bitmap (take l.partial-index l.partials) l.chunks.states l.chunks.kept;
  room : l.chunks.room ≡ l.initial.chunks.room;
}
