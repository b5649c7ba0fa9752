use Rattle.std.proofs.Common.{arith, inr, replicate}
use Rattle.clone_space.specs.Entries.{entry_at_offset}
use Rattle.clone_space.proofs.EntryLemmas as entries
use Rattle.clone_space.proofs.WriteLemmas.{keeps_system}
use Rattle.clone_space.proofs.laws.free_laws.Goals as goal

pub returns-clause-entry : goal.returns-clause-entry
returns-clause-entry c = entries.dictionary-free

pub returns-clause-page : goal.returns-clause-page
returns-clause-page c = λ lsn entry_number page within long. keeps_system lsn (entry_at_offset entry_number) (replicate 16 0) page (omega arith) (omega arith) (omega arith, inr (omega arith, omega arith)) long
