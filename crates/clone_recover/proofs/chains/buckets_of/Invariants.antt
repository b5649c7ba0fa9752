use Rattle.clone_recover.proofs.TableLemmas.{HasBucketsBelow}
use Rattle.clone_recover.proofs.chains.buckets_of.Given as goal

abbrev pub invariant-loop-entry_number : goal.invariant-loop-entry_number
invariant-loop-entry_number l = HasBucketsBelow l.system l.table l.entry_number l.buckets
