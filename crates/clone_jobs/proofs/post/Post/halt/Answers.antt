use Rattle.clone_jobs.proofs.CallLemmas.{halting_kind, says_with}
use Rattle.clone_jobs.proofs.post.Post.halt.Goals as goal

pub returns-clause-said : goal.returns-clause-said
returns-clause-said g c = says_with _ _ _ _ _ (halting_kind _ c.ask-halted.ensures.fits) c.ask-halted.ensures.said
