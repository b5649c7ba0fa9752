use Rattle.clone_recover.proofs.TableLemmas.{IsNextBelow}
use Rattle.clone_recover.proofs.chains.next_table.Given as goal

abbrev pub invariant-loop-entry_number : goal.invariant-loop-entry_number
invariant-loop-entry_number l = IsNextBelow l.system l.above l.entry_number l.next
