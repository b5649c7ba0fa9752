use Rattle.clone_engine.specs.Over.{over}
use Rattle.clone_engine.proofs.SessionActs.{claims}
use Rattle.clone_engine.proofs.engine.Engine.claim.Goals as goal

pub returns : goal.returns
returns c = record { acts = λ disk is. claims (over c.args.self.now disk) c.claim.new.self c.args.caller c.args.stage c.claim.result is c.claim.ensures.claims }
