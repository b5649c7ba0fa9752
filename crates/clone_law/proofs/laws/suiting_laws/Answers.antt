use Rattle.clone_law.proofs.AppendLemmas.{suits_there, suits_unnamed}
use Rattle.clone_law.proofs.laws.suiting_laws.Goals as goal

pub returns : goal.returns
returns c = record { there = suits_there; unnamed = suits_unnamed }
