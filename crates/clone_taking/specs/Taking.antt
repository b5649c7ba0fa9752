-- The steps of a recipient's tasks, as entries of its runs.
use Rattle.std.specs.Prelude.{Bool, is_some}
use Rattle.clone_outside.specs.DiskCalls.{DiskState}
use Rattle.clone_fetching.specs.Recipients.{RecipientModel, RecipientSteps}
use Rattle.clone_copying.specs.Calls.{RecipientEntry}

-- the clone has ended
abbrev pub has_ended : {R : Type 0} → RecipientModel R → Bool
has_ended s = is_some s.reception.table.ended

module _ {R : Type 0} (state : R → DiskState) where
  -- an entry is a step of the recipient, from some state
  abbrev pub IsStepOf : RecipientEntry R → Type 0
  IsStepOf e = (s : RecipientModel R) × RecipientSteps state s e.call e.answer e.after
