use Rattle.clone_law.proofs.RedoLemmas.{fits_push}
use Rattle.clone_law.proofs.EventLemmas.{since_longer, since_lax}
use Rattle.clone_law.proofs.AppendLemmas.{appended, others_pass, space_made, space_longer, space_dropped}
use Rattle.clone_law.proofs.laws.growing_laws.Goals as goal

pub returns : goal.returns
returns c = record { since = since_longer; lengthened = since_lax; fits = fits_push; counted = appended; others = others_pass; made = space_made; longer = space_longer; dropped = space_dropped }
