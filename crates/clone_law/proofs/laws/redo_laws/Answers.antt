use Rattle.clone_law.proofs.RedoLemmas.{newer_stays, in_parts, again, since_redone}
use Rattle.clone_law.proofs.laws.redo_laws.Goals as goal

pub returns : goal.returns
returns c = record { newer = newer_stays; parts = in_parts; again = again; since = since_redone }
