use Rattle.std.proofs.Common.{arith, inr}
use Rattle.clone_space.specs.Entries.{entry_at_offset}
use Rattle.clone_space.specs.Records.{entry_bytes}
use Rattle.clone_space.proofs.EntryLemmas as entries
use Rattle.clone_space.proofs.WriteLemmas.{keeps_system}
use Rattle.clone_space.proofs.laws.entry_laws.Goals as goal

pub returns-clause-entry : goal.returns-clause-entry
returns-clause-entry c = entries.dictionary-entry

pub returns-clause-page : goal.returns-clause-page
returns-clause-page c = λ lsn entry_number e page within long. keeps_system lsn (entry_at_offset entry_number) (entry_bytes e) page (omega arith) (omega arith) (omega arith, inr (omega arith, omega arith)) long
