use Rattle.std.proofs.Common.{Ok}
use Rattle.clone_outside.specs.Disk.{with_created, with_extended, with_mark, with_removed}
use Rattle.clone_outside.specs.Stops.{Create, Extend, Remove, WriteMark}
use Rattle.clone_increment.specs.Histories.{ChangedOnly}
use Rattle.clone_increment.specs.Noting.{IsNoted, with_first_written}
use Rattle.clone_increment.specs.Tracked.{no_changes, with_made}
use Rattle.clone_increment.proofs.NotingLemmas.{created_noted, extended_only, made_noted, mark_noted, nothing_noted, removed_noted, stays_only, step_told, takes_told, uncreated_noted}
use Rattle.clone_increment.proofs.laws.space_laws.Goals as goal

pub returns-clause-extend : goal.returns-clause-extend
returns-clause-extend c = λ old new space count result is.
    takes_told (ChangedOnly no_changes) (Extend space count) (λ m. with_extended m space count) stays_only (extended_only space count) old new result is

pub returns-clause-made : goal.returns-clause-made
returns-clause-made c = λ old new space count done is.
    step_told (IsNoted (with_made no_changes space)) (λ m. with_created m space count) (made_noted space count) old.told new.told is.done

pub returns-clause-create : goal.returns-clause-create
returns-clause-create c = λ old new space count result is.
    takes_told (IsNoted (with_first_written no_changes space count)) (Create space count) (λ m. with_created m space count) (uncreated_noted space count) (created_noted space count) old new result is

pub returns-clause-remove : goal.returns-clause-remove
returns-clause-remove c = λ old new space result is.
    takes_told (IsNoted no_changes) (Remove space) (λ m. with_removed m space) nothing_noted (removed_noted space) old new result is

pub returns-clause-mark : goal.returns-clause-mark
returns-clause-mark c = λ old new mark result is.
    takes_told (IsNoted no_changes) (WriteMark mark) (λ m. with_mark m mark) nothing_noted (mark_noted mark) old new result is
