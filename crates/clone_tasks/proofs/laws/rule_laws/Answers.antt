use Rattle.clone_tasks.proofs.RuleLemmas.{agrees, acknowledged, nobody_awaits}
use Rattle.clone_tasks.proofs.laws.rule_laws.Goals as goal

pub returns-clause-agree : goal.returns-clause-agree
returns-clause-agree c = agrees

pub returns-clause-first : goal.returns-clause-first
returns-clause-first c t task stage e = (acknowledged t task stage e).first

pub returns-clause-finished : goal.returns-clause-finished
returns-clause-finished c t task stage e = (acknowledged t task stage e).finished

pub returns-clause-nobody : goal.returns-clause-nobody
returns-clause-nobody c t task other stage e = nobody_awaits t other (acknowledged t task stage e).nobody
