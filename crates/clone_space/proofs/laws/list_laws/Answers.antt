use Rattle.std.proofs.Common.{ap}
use Rattle.clone_space.specs.declared.entry.TableEntry.{TableEntry}
use Rattle.clone_space.proofs.EntryLemmas as entries
use Rattle.clone_space.proofs.laws.list_laws.Goals as goal

pub returns-clause-count : goal.returns-clause-count
returns-clause-count c = entries.length-dictionary

pub returns-clause-table : goal.returns-clause-table
returns-clause-table c = λ j page within. ap (λ (e : TableEntry). e.table) (entries.entry_in-dictionary j page within)

pub returns-clause-before : goal.returns-clause-before
returns-clause-before c = λ lsn space number patch page writes long. entries.dictionary-before lsn patch page writes long

pub returns-clause-made : goal.returns-clause-made
returns-clause-made c = λ lsn space number kind page. entries.dictionary-initialised space number lsn kind

pub returns-clause-unused : goal.returns-clause-unused
returns-clause-unused c = entries.dictionary-zero
