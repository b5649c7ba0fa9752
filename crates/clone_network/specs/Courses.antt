-- WHAT A STEP OF A TASK CHANGES of how a clone ended and of its floor, and what it leaves alone.
use Rattle.std.specs.Prelude.{ℕ, ◌≡◌, ◌≢◌, ◌+◌, ◌<◌, None, Some}
use Rattle.std.specs.declared.option.Option.{Option}
use Rattle.clone_tasks.specs.Tables.{Table}
use Rattle.clone_tasks.specs.declared.end.CloneEnd.{CloneEnd}
use Rattle.clone_fetch.specs.declared.answer.TaskAnswer.{TaskAnswer}
use Rattle.clone_fetch.specs.declared.answer.TaskAnswer.TheVariants as told

-- HOW THE CLONE HAS ENDED after a step: as the step ended it, or else as it had before
abbrev pub ended_then : TaskAnswer → Option CloneEnd → Option CloneEnd
ended_then (told.Ended how) before = Some how
ended_then other before = before

-- THE FLOOR is the one that was looked up for the first acknowledgement of PAGE COPY, and is kept
-- from then on. The step that sets it doesn't end the clone.
pub data IsFloor (looked : ℕ) (answer : TaskAnswer) (before after : Option ℕ) : Type 0 where
  kept : after ≡ before → IsFloor looked answer before after
  first : before ≡ None → after ≡ Some looked → ((how : CloneEnd) → answer ≢ told.Ended how)
      → IsFloor looked answer before after

-- what a clone was begun with stays
pub record KeepsTerms (old new : Table) : Type 0 where
  pub session : new.session ≡ old.session
  pub version : new.version ≡ old.version
  pub count : new.count ≡ old.count
  pub limit : new.limit ≡ old.limit

-- a loss was counted, and there are more than the limit
pub record IsSpentBy (losses : ℕ) (old new : Table) : Type 0 where
  pub one_more : losses ≡ old.losses + 1
  pub counted : new.losses ≡ losses
  pub too_many : old.limit < losses
