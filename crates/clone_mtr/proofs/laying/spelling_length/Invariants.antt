use Rattle.std.proofs.Common.{◌≡◌, ◌+◌, ◌-◌, ◌^◌, min, length, drop}
use Rattle.clone_mtr.specs.Spelling.{spelling}
use Rattle.clone_mtr.proofs.laying.spelling_length.Given as goal

abbrev pub invariant-loop-entry : goal.invariant-loop-entry
invariant-loop-entry l = min (l.length + length (spelling (drop l.entry-index l.entries))) (2 ^ 64 - 1) ≡ min (length (spelling l.entries)) (2 ^ 64 - 1)
