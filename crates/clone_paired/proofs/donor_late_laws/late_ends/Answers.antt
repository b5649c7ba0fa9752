use Rattle.clone_paired.proofs.LateEnds.{late_pairs, late_session_stays}
use Rattle.clone_paired.proofs.donor_late_laws.late_ends.Goals as goal

pub returns-clause-pairs : goal.returns-clause-pairs
returns-clause-pairs c = late_pairs

pub returns-clause-stays : goal.returns-clause-stays
returns-clause-stays c = late_session_stays
