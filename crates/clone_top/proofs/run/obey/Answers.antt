use Rattle.std.proofs.Common.{refl, inl}
use Rattle.clone_top.proofs.OutcomeLemmas.{of_command}
use Rattle.clone_top.proofs.run.obey.Goals as goal

pub returns-in-Steps-clause-outcome : goal.returns-in-Steps-clause-outcome
returns-in-Steps-clause-outcome g c = λ number. of_command _ _ _ _ _ _ _ _ _ _ _ _ c.in-Steps.is (c.run_steps.ensures.outcome number, refl)

pub returns-in-Run-clause-outcome : goal.returns-in-Run-clause-outcome
returns-in-Run-clause-outcome g c = λ number. of_command _ _ _ _ _ _ _ _ _ _ _ _ c.in-Run.is (c.run_or_refuse.ensures number _)

pub returns-in-Run-clause-source : goal.returns-in-Run-clause-source
returns-in-Run-clause-source g c = inl refl

pub returns-in-Recover-clause-outcome : goal.returns-in-Recover-clause-outcome
returns-in-Recover-clause-outcome g c = λ number. of_command _ _ _ _ _ _ _ _ _ _ _ _ c.in-Recover.is (c.run_recover.ensures number _ _, refl)

pub returns-in-Recover-clause-source : goal.returns-in-Recover-clause-source
returns-in-Recover-clause-source g c = inl refl

pub returns-in-Dump-clause-outcome : goal.returns-in-Dump-clause-outcome
returns-in-Dump-clause-outcome g c = λ number. of_command _ _ _ _ _ _ _ _ _ _ _ _ c.in-Dump.is (c.run_dump.ensures number _ _, refl)

pub returns-in-Dump-clause-source : goal.returns-in-Dump-clause-source
returns-in-Dump-clause-source g c = inl refl
