use Rattle.std.proofs.Common.{◌≡◌, ◌++◌, drop}
use Rattle.clone_mtr.specs.Spelling.{spelling}
use Rattle.clone_mtr.proofs.writing.spell.Given as goal

abbrev pub invariant-loop-entry : goal.invariant-loop-entry
invariant-loop-entry l = l.text ++ spelling (drop l.entry-index l.records) ≡ spelling l.records
