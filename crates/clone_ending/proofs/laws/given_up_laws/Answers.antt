use Rattle.clone_ending.proofs.GivenUpLemmas.{cuts_most, gives_up_less, gives_up_same}
use Rattle.clone_ending.proofs.laws.given_up_laws.Goals as goal

pub returns-clause-cut : goal.returns-clause-cut
returns-clause-cut c = cuts_most

pub returns-clause-unread : goal.returns-clause-unread
returns-clause-unread c = gives_up_same

pub returns-clause-seats : goal.returns-clause-seats
returns-clause-seats c = gives_up_less
