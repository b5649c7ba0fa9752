use Rattle.clone_image.proofs.RedoLemmas.{replayed_is_redone}
use Rattle.clone_image.proofs.laws.redone_laws.Goals as goal

pub returns : goal.returns
returns c = replayed_is_redone
