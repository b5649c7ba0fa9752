use Rattle.std.proofs.Common.{◌≡◌, ◌-◌, ◌<◌, ◌≤◌, ◌^◌, true}
use Rattle.clone_follow.specs.Reading.{one_in}
use Rattle.clone_follow.proofs.FieldFormats.{Judged, HasNext}
use Rattle.clone_follow.proofs.fields.number_in.Given as goal

abbrev pub invariant-loop-read : goal.invariant-loop-read
invariant-loop-read l = record {
  so_far : Judged l.at l.numbers l.front (l.width - l.read) l.reader ≡ one_in l.at l.width l.numbers l.initial.reader;
  below : l.front < 256 ^ l.read;
  one : 1 ≤ l.read → HasNext l.numbers l.front (256 ^ (l.width - l.read)) ≡ true;
}
