use Rattle.clone_talk.proofs.Alone.{act_alone, none_own}
use Rattle.clone_talk.proofs.Aside.{act_talks}
use Rattle.clone_talk.proofs.donor_laws.acts_laws.Goals as goal

pub returns-clause-talks : goal.returns-clause-talks
returns-clause-talks c alone later d t act r n is told talks acts leaves keeps = act_talks alone later d t r n talks keeps is told act acts leaves

pub returns-clause-alone : goal.returns-clause-alone
returns-clause-alone c number d t act acts opens alone = act_alone number d t act (none_own number act opens) acts alone
