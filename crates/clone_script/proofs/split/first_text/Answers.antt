use Rattle.clone_model.proofs.Cuts.{lacks_from_All}
use Rattle.clone_script.proofs.Cuts.{texts_of-ended, texts_of-last}
use Rattle.clone_script.proofs.split.first_text.Goals as goal

pub returns-in-Some-clause-text : goal.returns-in-Some-clause-text
returns-in-Some-clause-text c =
    rw c.in-Some.ensures.parts (texts_of-ended _ _ (lacks_from_All 10 _ c.in-Some.ensures.first))

pub returns-in-None-clause-text : goal.returns-in-None-clause-text
returns-in-None-clause-text c =
    texts_of-last _ c.requires (lacks_from_All 10 _ c.in-None.ensures.none)
