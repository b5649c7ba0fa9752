use Rattle.std.proofs.Common.{arith, inr}
use Rattle.byteorder.specs.Endian.{big_bytes}
use Rattle.clone_space.specs.Entries.{pages_at}
use Rattle.clone_space.proofs.EntryLemmas as entries
use Rattle.clone_space.proofs.WriteLemmas.{keeps_system}
use Rattle.clone_space.proofs.laws.size_laws.Goals as goal

pub returns-clause-entry : goal.returns-clause-entry
returns-clause-entry c = entries.dictionary-size

pub returns-clause-page : goal.returns-clause-page
returns-clause-page c = λ lsn entry_number pages page within long. keeps_system lsn (pages_at entry_number) (big_bytes 4 pages) page (omega arith) (omega arith) (omega arith, inr (omega arith, omega arith)) long
