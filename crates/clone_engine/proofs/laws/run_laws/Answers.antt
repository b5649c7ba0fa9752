use Rattle.clone_engine.proofs.MomentLemmas.{goes_on, one_moment}
use Rattle.clone_engine.proofs.laws.run_laws.Goals as goal

pub returns-clause-goes_on : goal.returns-clause-goes_on
returns-clause-goes_on c = λ d t before taken acts is run. goes_on acts d t before taken is run

pub returns-clause-one_moment : goal.returns-clause-one_moment
returns-clause-one_moment c = λ d t before taken acts end m is run donor cloning tells ranges done. one_moment t taken end m (goes_on acts d t before taken is run) donor cloning tells ranges done
