use Rattle.clone_recipient.proofs.ExpectLemmas.{none_at, places_at}
use Rattle.clone_recipient.proofs.blocks.are_pages_of.Goals as goal

pub returns-in-Some : goal.returns-in-Some
returns-in-Some c = places_at _ _ _ _ _ _ c.block_of_files.ensures c.in-Some.is c.as_slice.ensures c.are_at.ensures

pub returns-in-None : goal.returns-in-None
returns-in-None c = none_at _ _ _ c.block_of_files.ensures c.in-None.is
