use Rattle.clone_jobs.proofs.CallLemmas.{archive_kind, archived_is, says_with}
use Rattle.clone_jobs.proofs.post.Post.archive.Goals as goal

pub archived_in-requires : goal.archived_in-requires
archived_in-requires g c = archive_kind _ _ c.ask-answer.ensures.fits

pub returns-clause-said : goal.returns-clause-said
returns-clause-said g c = says_with _ _ _ _ _ (archived_is _ _ c.archived_in.ensures) c.ask-answer.ensures.said
