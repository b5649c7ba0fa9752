-- The calls of the engine, made on a donor of clones.
use Rattle.std.specs.Prelude.{ℕ, ◌≡◌, None, Some, Result, Ok, Err, unwrap_or, if◌then◌else◌}
use Rattle.std.specs.declared.option.Option.{Option}
use Rattle.clone_archive.specs.Archived.{kept_from}
use Rattle.clone_flush.specs.Calls.{after_begin}
use Rattle.clone_plain.specs.declared.call.EngineAnswer.{EngineAnswer}
use Rattle.clone_plain.specs.declared.call.EngineAnswer.TheVariants as answers
use Rattle.clone_plain.specs.declared.call.EngineCall.{EngineCall}
use Rattle.clone_plain.specs.declared.call.EngineCall.TheVariants as call
use Rattle.clone_plain.specs.Causes.{no_table}
use Rattle.clone_plain.specs.declared.refusal.Cause.TheVariants.{CloneRunning}
use Rattle.clone_plain.specs.declared.refusal.EngineRefusal.{EngineRefusal}
use Rattle.clone_plain.specs.declared.refusal.EngineRefusal.TheVariants.{Because}
use Rattle.clone_session.specs.Cloning.{Cloning, Session}
use Rattle.clone_session.specs.Effects.{Becomes, with_noted}
use Rattle.clone_engine.specs.Engine.{Engine}
use Rattle.clone_engine.specs.Steps.{Checks, Steps, copies_made, has_begun}
use Rattle.clone_engine.specs.Donor.{Donor}
use Rattle.clone_engine.specs.Taken.{Taken}

-- a page whose flush began is noted, while pages are tracked, also where the flush failed at once
abbrev pub noted_by : EngineCall → Result EngineAnswer EngineRefusal → Cloning → Cloning
noted_by (call.FlushBegin space page) answer c =
    if has_begun answer then with_noted (space, page) c else c
noted_by call answer c = c

-- and then what was read of it counts no more. A page of a table that is made counts as it is made.
abbrev pub taken_by : EngineCall → Result EngineAnswer EngineRefusal → Taken → Taken
taken_by (call.Create table buckets) answer taken = record taken {
  copies = copies_made answer table buckets taken.copies;
}
taken_by (call.FlushBegin space page) answer taken = record taken {
  copies = after_begin (record { space = space; number = page }) (has_begun answer) taken.copies;
}
taken_by call answer taken = taken

-- the engine's step, but that a checkpoint leaves the log that the archive needs
abbrev pub ServesAs : EngineCall → Donor → Engine → Result EngineAnswer EngineRefusal → Type 0
ServesAs call.Checkpoint d e (Ok (answers.Checkpoint lsn)) =
    Checks (kept_from d.cloning.archive) d.engine e lsn
ServesAs call.Checkpoint d e answer = ⊥
ServesAs call d e answer = Steps call d.engine e answer

-- A CALL OF THE ENGINE
pub record Serves (call : EngineCall) (d t : Donor) (answer : Result EngineAnswer EngineRefusal)
    : Type 0 where
  pub steps : ServesAs call d t.engine answer
  pub cloning : Becomes t.cloning (noted_by call answer d.cloning)

-- No table is dropped while a session stands, and where there is none, that is the cause.
abbrev pub Drops : Option Session → ℕ → Donor → Donor → Result EngineAnswer EngineRefusal → Type 0
Drops None table d t answer = Serves (call.Drop table) d t answer
Drops (Some s) table d t answer =
    (answer ≡ Err (Because (unwrap_or (no_table d.engine.donor table) (CloneRunning s.number))))
    × (t ≡ d)

abbrev pub AnswersCall : EngineCall → Donor → Donor → Result EngineAnswer EngineRefusal → Type 0
AnswersCall (call.Drop table) d t answer = Drops d.cloning.session table d t answer
AnswersCall call d t answer = Serves call d t answer
