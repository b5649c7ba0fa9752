-- A recipient that several tasks share, and its steps.
use Rattle.std.specs.Prelude.{ℕ, ◌≡◌, ◌≢◌, Bool, true, false, IfOk, IfSome, option_map, ⊤}
use Rattle.std.specs.declared.option.Option.{Option}
use Rattle.std.specs.Option.{unwrap_or}
use Rattle.clone_outside.specs.DiskCalls.{Alters, DiskState}
use Rattle.clone_tasks.specs.Rules.{rule_at}
use Rattle.clone_tasks.specs.Tables.{Table, incarnation_of}
use Rattle.clone_tasks.specs.declared.end.CloneEnd.{CloneEnd}
use Rattle.clone_tasks.specs.declared.end.CloneEnd.TheVariants as end
use Rattle.clone_tasks.specs.declared.rule.Rule.{Rule}
use Rattle.clone_recipient.specs.Receptions.{Reception}
use Rattle.clone_fetch.specs.declared.answer.TaskAnswer.{TaskAnswer}
use Rattle.clone_fetch.specs.declared.answer.TaskAnswer.TheVariants as says
use Rattle.clone_fetch.specs.Fetching.{KnowsSizes, StepsBy, made_by, requester}
use Rattle.clone_fetching.specs.declared.clone_ended.CloneEnded.{CloneEnded}
use Rattle.clone_fetching.specs.declared.clone_ended.CloneEnded.TheVariants as told
use Rattle.clone_fetching.specs.declared.recipient.TaskStep.{TaskStep}
use Rattle.clone_fetching.specs.declared.recipient.TaskStepped.{TaskStepped}
use Rattle.clone_fetching.specs.declared.machine.RecipientCall.{RecipientCall}
use Rattle.clone_fetching.specs.declared.machine.RecipientCall.TheVariants as call
use Rattle.clone_fetching.specs.declared.machine.RecipientAnswer.{RecipientAnswer}
use Rattle.clone_fetching.specs.declared.machine.RecipientAnswer.TheVariants as answer

-- what is known of the clone, its disk, and whether there was no memory for a step
pub record RecipientModel (R : Type 0) : Type 0 where
  pub reception : Reception
  pub disk : R
  pub given_up : Bool

-- WHAT A RECIPIENT KEEPS: unless the copy was given up, it knows the sizes of the spaces
abbrev pub IsRecipient : Reception → DiskState → Bool → Type 0
IsRecipient reception disk given_up = given_up ≡ false → KnowsSizes reception disk

-- ---- how the clone ended

-- the end, of which this was told
abbrev pub end_told : CloneEnded → CloneEnd
end_told (told.Complete lsn position floor) = end.Complete lsn position
end_told (told.Spent losses) = end.Spent losses
end_told (told.Garbled kept) = end.Garbled kept.items
end_told (told.Refused cause) = end.Refused cause
end_told told.DiskFault = end.DiskFault

-- a clone that is complete met this floor
abbrev pub HasFloor : ℕ → CloneEnded → Type 0
HasFloor floor (told.Complete lsn position met) = met ≡ floor
HasFloor floor (told.Spent losses) = ⊤
HasFloor floor (told.Garbled kept) = ⊤
HasFloor floor (told.Refused cause) = ⊤
HasFloor floor told.DiskFault = ⊤

-- WHAT IS TOLD OF THE END, and nothing exactly where the clone goes on. The floor is that of the
-- first acknowledgement of PAGE COPY.
pub record IsToldOf (table : Table) (told : Option CloneEnded) : Type 0 where
  pub end : option_map end_told told ≡ table.ended
  pub floor : IfSome told (HasFloor (unwrap_or table.floor 0))

-- ---- the steps of tasks

abbrev pub lacks_memory : TaskAnswer → Bool
lacks_memory says.NoMemory = true
lacks_memory says.Idle = false
lacks_memory (says.Sent code) = false
lacks_memory (says.Took took) = false
lacks_memory (says.Lost losses) = false
lacks_memory says.Stale = false
lacks_memory (says.Ended how) = false

-- the rule that applies to the task
abbrev pub rule_in : {R : Type 0} → RecipientModel R → TaskStep → Rule
rule_in s c = rule_at c.core s.reception.table c.task c.link

module _ {R : Type 0} (state : R → DiskState) where
  -- A STEP BY THE RULE. Where there was no memory for it the copy is given up.
  pub record Follows (s : RecipientModel R) (c : TaskStep) (a : TaskStepped)
      (t : RecipientModel R) : Type 0 where
    pub steps : StepsBy (rule_in s c) c.link c.task c.floor
        (requester s.reception (state s.disk) c.received.items c.sent.items)
        (requester t.reception (state t.disk) a.received.items a.sent.items) a.answer
    pub made : a.core ≡ made_by (rule_in s c) (incarnation_of s.reception.table) c.core
    pub works : Alters (a.answer ≡ says.Ended end.DiskFault) (state s.disk) (state t.disk)
    pub sizes : a.answer ≢ says.NoMemory → KnowsSizes t.reception (state t.disk)
    pub given_up : t.given_up ≡ lacks_memory a.answer

  -- a step of a copy that was given up
  pub record GivesUp (s : RecipientModel R) (c : TaskStep) (a : TaskStepped)
      (t : RecipientModel R) : Type 0 where
    pub answer : a.answer ≡ says.NoMemory
    pub same : t ≡ s
    pub core : a.core ≡ c.core
    pub received : a.received.items ≡ c.received.items
    pub sent : a.sent.items ≡ c.sent.items

  -- A STEP OF A TASK
  abbrev pub Steps : RecipientModel R → TaskStep → TaskStepped → RecipientModel R → Type 0
  Steps s c a t =
      (s.given_up ≡ false → Follows s c a t) × (s.given_up ≡ true → GivesUp s c a t)

  -- ---- the machine

  abbrev pub RecipientSteps : RecipientModel R → RecipientCall → RecipientAnswer
      → RecipientModel R → Type 0
  RecipientSteps s (call.Step c) (answer.Stepped a) t = Steps s c a t
  RecipientSteps s (call.Step c) (answer.Ended result) t = ⊥
  RecipientSteps s call.Ended (answer.Stepped a) t = ⊥
  RecipientSteps s call.Ended (answer.Ended result) t =
      (t ≡ s) × IfOk result (IsToldOf s.reception.table)
