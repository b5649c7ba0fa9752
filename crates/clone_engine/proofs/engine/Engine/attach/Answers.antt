use Rattle.clone_engine.specs.Over.{over}
use Rattle.clone_engine.proofs.SessionActs.{attaches}
use Rattle.clone_engine.proofs.engine.Engine.attach.Goals as goal

pub returns : goal.returns
returns c = record { acts = λ disk is. attaches (over c.args.self.now disk) c.args.caller c.attach.result is c.attach.ensures.attaches }
