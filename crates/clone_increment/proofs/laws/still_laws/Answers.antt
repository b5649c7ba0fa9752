use Rattle.clone_increment.specs.Noting.{IsNoted}
use Rattle.clone_increment.specs.Tracked.{no_changes}
use Rattle.clone_increment.proofs.NotingLemmas.{nothing_noted, order_told, same_told}
use Rattle.clone_increment.proofs.laws.still_laws.Goals as goal

pub returns-clause-read : goal.returns-clause-read
returns-clause-read c = λ old new is. same_told (IsNoted no_changes) nothing_noted old.told new.told is.told

pub returns-clause-sync : goal.returns-clause-sync
returns-clause-sync c = λ old new result is. same_told (IsNoted no_changes) nothing_noted old.told new.told is.told

pub returns-clause-order : goal.returns-clause-order
returns-clause-order c = λ order old new result is. order_told (IsNoted no_changes) order nothing_noted old new result is
