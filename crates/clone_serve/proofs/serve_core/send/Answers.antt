use Rattle.clone_serve.proofs.CommandLemmas.{was_sent}
use Rattle.clone_serve.proofs.serve_core.send.Goals as goal

pub returns-in-Some-clause-is : goal.returns-in-Some-clause-is
returns-in-Some-clause-is c = was_sent c.put_frame.result c.args.frame.now _ c.in-Some.is c.requires c.put_frame.ensures.is
