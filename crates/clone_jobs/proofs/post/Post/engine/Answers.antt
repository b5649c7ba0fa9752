use Rattle.clone_jobs.proofs.CallLemmas.{engine_is, engine_kind, says_with}
use Rattle.clone_jobs.proofs.post.Post.engine.Goals as goal

pub engine_in-given-requires : goal.engine_in-given-requires
engine_in-given-requires g c = engine_kind _ _ c.ask-answer.ensures.fits

pub returns-clause-said : goal.returns-clause-said
returns-clause-said g c = says_with _ _ _ _ _ (engine_is _ _ c.engine_in-given.ensures) c.ask-answer.ensures.said
