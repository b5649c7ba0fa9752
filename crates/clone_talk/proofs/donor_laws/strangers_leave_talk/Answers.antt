use Rattle.clone_talk.proofs.Aside.{stranger_talks}
use Rattle.clone_talk.proofs.Between.{stays_between}
use Rattle.clone_talk.proofs.Over.{end_ordered}
use Rattle.clone_talk.proofs.donor_laws.strangers_leave_talk.Goals as goal

pub returns-clause-talks : goal.returns-clause-talks
returns-clause-talks c alone later d t r n at after says is talks step none live between serves keeps = stranger_talks alone later d t r n talks keeps is at after says step none live between serves

pub returns-clause-order : goal.returns-clause-order
returns-clause-order c d t at after says is order = end_ordered d t at after says is.donor is.told order

pub returns-clause-between : goal.returns-clause-between
returns-clause-between c = stays_between
