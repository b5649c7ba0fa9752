use Rattle.std.proofs.Common.{◌≡◌, ◌-◌, length}
use Rattle.clone_bytes.specs.Formats.{list_at}
use Rattle.clone_wire.specs.Reading as Reading
use Rattle.clone_wire.proofs.Lists.{with_front}
use Rattle.clone_wire.proofs.payloads.pages_of.Given as goal

abbrev pub invariant-loop : goal.invariant-loop
invariant-loop l = record {
  so_far : with_front l.list.items (list_at Reading.page.read (l.n - l.counter) l.reader) ≡ list_at Reading.page.read l.n l.initial.reader;
  count : length l.list.items ≡ l.counter;
}
