use Rattle.std.proofs.Common.{refl}
use Rattle.clone_fetch.specs.declared.answer.TaskAnswer.TheVariants.{Idle, Stale}
use Rattle.clone_ending.proofs.QuietLemmas.{quiet_network}
use Rattle.clone_ending.proofs.laws.quiet_laws.Goals as goal

pub returns-clause-idle : goal.returns-clause-idle
returns-clause-idle c r s d e n m task floor = quiet_network r s d e n m task floor Idle refl

pub returns-clause-stale : goal.returns-clause-stale
returns-clause-stale c r s d e n m task floor = quiet_network r s d e n m task floor Stale refl
