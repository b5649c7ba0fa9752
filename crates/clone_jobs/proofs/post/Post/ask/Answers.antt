use Rattle.clone_jobs.proofs.CallLemmas.{answered_one, said_one, still_of}
use Rattle.clone_jobs.proofs.post.Post.ask.Goals as goal

pub returns-clause-said : goal.returns-clause-said
returns-clause-said g c = said_one _ _ _ _ _ c.call.ensures

pub returns-clause-fits : goal.returns-clause-fits
returns-clause-fits g c = answered_one _ _ _ _ _ c.call.ensures

pub returns-clause-seat : goal.returns-clause-seat
returns-clause-seat g c = still_of _ _ _ _ _ _ c.call.ensures c.requires
