use Rattle.std.proofs.Common.{ap, refl}
use Rattle.clone_tasks.specs.declared.end.CloneEnd.TheVariants.{Spent}
use Rattle.clone_fetch.specs.declared.answer.TaskAnswer.TheVariants.{Ended}
use Rattle.clone_network.proofs.CourseLemmas.{Terms, course, keeps_terms}
use Rattle.clone_network.proofs.laws.course_laws.Goals as goal

pub returns-clause-ended : goal.returns-clause-ended
returns-clause-ended c r s d e n m task floor answer steps = (course r s d e n m task floor answer steps).ended

pub returns-clause-once : goal.returns-clause-once
returns-clause-once c r s d e n m task floor how steps = (course r s d e n m task floor (Ended how) steps).once how refl

pub returns-clause-floor : goal.returns-clause-floor
returns-clause-floor c r s d e n m task floor answer steps = (course r s d e n m task floor answer steps).floor

pub returns-clause-terms : goal.returns-clause-terms
returns-clause-terms c r s d e n m task floor answer steps = keeps_terms r s (course r s d e n m task floor answer steps).terms

pub returns-clause-shown : goal.returns-clause-shown
returns-clause-shown c r s d e n m task floor answer steps = ap (λ (t : Terms). t.recovered) (course r s d e n m task floor answer steps).terms

pub returns-clause-spent : goal.returns-clause-spent
returns-clause-spent c r s d e n m task floor losses steps = (course r s d e n m task floor (Ended (Spent losses)) steps).spent losses refl
