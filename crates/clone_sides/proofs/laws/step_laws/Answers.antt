use Rattle.clone_sides.proofs.KnownLemmas.{answers_more}
use Rattle.clone_sides.proofs.MoreLemmas.{answered_still, answered_too, phase_more, runs_more}
use Rattle.clone_sides.proofs.StopLemmas.{end_more, first_more}
use Rattle.clone_sides.proofs.laws.step_laws.Goals as goal

pub returns-clause-runs : goal.returns-clause-runs
returns-clause-runs c = runs_more

pub returns-clause-reaches : goal.returns-clause-reaches
returns-clause-reaches c = end_more

pub returns-clause-answers : goal.returns-clause-answers
returns-clause-answers c = answers_more

pub returns-clause-phase : goal.returns-clause-phase
returns-clause-phase c = phase_more

pub returns-clause-stop : goal.returns-clause-stop
returns-clause-stop c = first_more

pub returns-clause-still : goal.returns-clause-still
returns-clause-still c = answered_still

pub returns-clause-too : goal.returns-clause-too
returns-clause-too c = answered_too
