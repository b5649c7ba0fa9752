use Rattle.std.proofs.Common.{◌≡◌, ◌≤◌, ◌+◌, ◌*◌, ◌-◌, length}
use Rattle.clone_follow.specs.Choices.{MayFill}
use Rattle.clone_follow.specs.Reading.{changes_at}
use Rattle.clone_follow.proofs.ReadLemmas.{with_front}
use Rattle.clone_follow.proofs.payloads.changes_of.Given as goal

abbrev pub invariant-loop-done : goal.invariant-loop-done
invariant-loop-done l = record {
  so_far : with_front l.changes (changes_at l.at (l.count - l.done) l.left l.reader) ≡ changes_at l.first l.count l.filled l.initial.reader;
  count : length l.changes ≡ l.done;
  fill : MayFill (l.count - l.done) l.left;
  near : l.at ≤ 27 + 78 * l.done;
}
