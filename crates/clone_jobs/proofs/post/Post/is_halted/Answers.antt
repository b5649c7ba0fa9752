use Rattle.clone_jobs.proofs.CallLemmas.{halted_is, halted_kind, says_with}
use Rattle.clone_jobs.proofs.post.Post.is_halted.Goals as goal

pub halted_in-halted-requires : goal.halted_in-halted-requires
halted_in-halted-requires g c = halted_kind _ c.ask.ensures.fits

pub returns-clause-said : goal.returns-clause-said
returns-clause-said g c = says_with _ _ _ _ _ (halted_is _ _ c.halted_in-halted.ensures) c.ask.ensures.said
