use Rattle.clone_serve.proofs.ServedLemmas.{step_serves}
use Rattle.clone_serve.proofs.StepLemmas.{begun_fits, goes_sends}
use Rattle.clone_serve.proofs.laws.step_laws.Goals as goal

pub returns-clause-sends : goal.returns-clause-sends
returns-clause-sends c exchanges d t received left sent after_sent says step =
    goes_sends exchanges step.begun t step.turn sent after_sent says (begun_fits d step.begun received left step.turn step.begins) step.goes

pub returns-clause-serves : goal.returns-clause-serves
returns-clause-serves c = step_serves
