use Rattle.clone_ending.proofs.UnreadLemmas.{donor_less, donor_most, donor_seats}
use Rattle.clone_ending.proofs.laws.unread_laws.Goals as goal

pub returns-clause-donor : goal.returns-clause-donor
returns-clause-donor g c a b n m number answer = donor_less g.A.Answers.gives a b n m number answer

pub returns-clause-most : goal.returns-clause-most
returns-clause-most g c a b n m number answer = donor_most g.A.Answers.gives a b n m number answer

pub returns-clause-seats : goal.returns-clause-seats
returns-clause-seats g c a b n m number answer = donor_seats g.A.Answers.gives a b n m number answer
