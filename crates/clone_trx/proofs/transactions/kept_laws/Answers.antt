use Rattle.clone_trx.proofs.RecoveredRowLemmas.{recovered_rows}
use Rattle.clone_trx.proofs.KeptLemmas.{known_records}
use Rattle.clone_trx.proofs.transactions.kept_laws.Goals as goal

pub returns-clause-rows : goal.returns-clause-rows
returns-clause-rows c = λ d image kept. recovered_rows d image kept.formed kept.sound

pub returns-clause-in_range : goal.returns-clause-in_range
returns-clause-in_range c = λ d image s slot kept low is. (known_records d image s slot kept low is).in_range

pub returns-clause-counts : goal.returns-clause-counts
returns-clause-counts c = λ d image s slot kept low is. (known_records d image s slot kept low is).few

pub returns-clause-sizes : goal.returns-clause-sizes
returns-clause-sizes c = λ d image table count kept is. (kept.sound.tables.sizes table count is).0

pub returns-clause-chains : goal.returns-clause-chains
returns-clause-chains c = λ d image table count bucket kept is low. kept.sound.chains.buckets table count bucket is low
