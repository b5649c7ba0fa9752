use Rattle.clone_reading.proofs.SpelledLemmas as lemma
use Rattle.clone_reading.proofs.laws.spelled_laws.Goals as goal

pub returns : goal.returns
returns c = record { apart = lemma.apart; other = lemma.not_exit }
