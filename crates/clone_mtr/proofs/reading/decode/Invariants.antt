use Rattle.std.proofs.Common.{List, length}
use Rattle.clone_mtr.specs.declared.record.Record.{Record}
use Rattle.clone_mtr.proofs.Decoding.{Splits}
use Rattle.clone_mtr.proofs.reading.decode.Given as goal

abbrev pub invariant-loop : goal.invariant-loop
invariant-loop l = (records : List Record) × Splits l.bytes records l.reader

abbrev pub decreases-loop : goal.decreases-loop
decreases-loop l = length l.reader
