use Rattle.std.proofs.Common.{◌≡◌, ◌+◌, ◌-◌, ◌*◌, ◌^◌, ◌≤◌, length}
use Rattle.clone_chunk.specs.Partials.{IsAbove, AreUnset}
use Rattle.clone_wire.specs.Reading.{partials_at}
use Rattle.clone_wire.proofs.Lists.{with_front}
use Rattle.clone_wire.proofs.taken.partials_of.Given as goal

abbrev pub invariant-loop-done : goal.invariant-loop-done
invariant-loop-done l = record {
  so_far : with_front l.partials (partials_at (l.at + 5 * l.done) l.bitmap l.from (l.n - l.done) l.reader) ≡ partials_at l.at l.bitmap 0 l.n l.initial.reader;
  count : length l.partials ≡ l.done;
  within : l.from ≤ 2 ^ 32;
  above : IsAbove l.partials l.from;
  unset : AreUnset l.bitmap l.partials;
}
