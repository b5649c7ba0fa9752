use Rattle.std.proofs.Common.{refl}
use Rattle.clone_fetch.specs.declared.answer.TaskAnswer.TheVariants.{Idle, NoMemory, Stale}
use Rattle.clone_ending.proofs.StepLemmas.{outcome_less, outcome_most, outcome_same, step_outcome}
use Rattle.clone_ending.proofs.laws.ending_laws.Goals as goal

pub returns-clause-task : goal.returns-clause-task
returns-clause-task c r s d e n m task floor answer b after steps = outcome_less r s answer b after (step_outcome r s d e n m task floor answer steps)

pub returns-clause-idle : goal.returns-clause-idle
returns-clause-idle c r s d e n m task floor steps = outcome_same r s Idle refl (step_outcome r s d e n m task floor Idle steps)

pub returns-clause-stale : goal.returns-clause-stale
returns-clause-stale c r s d e n m task floor steps = outcome_same r s Stale refl (step_outcome r s d e n m task floor Stale steps)

pub returns-clause-memory : goal.returns-clause-memory
returns-clause-memory c r s d e n m task floor b after steps = outcome_most r s NoMemory b after (step_outcome r s d e n m task floor NoMemory steps)
