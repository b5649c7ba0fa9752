use Rattle.std.proofs.Common.{refl}
use Rattle.clone_mtr.specs.Effects.{effect}
use Rattle.clone_mtr.specs.declared.record.Record.TheVariants.{Write}
use Rattle.clone_row.proofs.ChainLemmas.{behind-same, behind-made}
use Rattle.clone_row.proofs.Rows as rows
use Rattle.clone_row.proofs.laws.chain_laws.Goals as goal

pub returns-clause-slots : goal.returns-clause-slots
returns-clause-slots c = λ lsn space number j key value patch page writes long.
    behind-same page (effect lsn (Write space number patch) page) (rows.header-WritesSlot lsn j key value patch page writes long)

pub returns-clause-made : goal.returns-clause-made
returns-clause-made c = λ lsn space number kind page. behind-made space number lsn kind

pub returns-clause-zero : goal.returns-clause-zero
returns-clause-zero c = refl
