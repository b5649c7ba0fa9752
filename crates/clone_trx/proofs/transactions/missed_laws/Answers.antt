use Rattle.clone_trx.proofs.Common.{refl}
use Rattle.clone_trx.proofs.MissedLemmas.{missed_goes}
use Rattle.clone_trx.proofs.transactions.missed_laws.Goals as goal

pub returns : goal.returns
returns c = λ way old new asks goes. missed_goes way asks old new _ goes refl
