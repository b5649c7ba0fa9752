use Rattle.std.proofs.Common.{◌≡◌, ◌<◌, ℕ}
use Rattle.clone_page.specs.Dictionary.{entry_space}
use Rattle.clone_recover.proofs.dictionary.names.Given as goal

-- no entry so far names the table
abbrev pub invariant-loop-entry_number : goal.invariant-loop-entry_number
invariant-loop-entry_number l = (k : ℕ) → k < l.entry_number → entry_space k l.system ≡ l.table → ⊥
