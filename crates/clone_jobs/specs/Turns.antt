-- THE TURNS OF A JOB, and how it ends.
use Rattle.std.specs.Prelude.{◌≡◌, true, false, List, [], ◌∷◌, ◌++◌, flat_map, Result, Ok, Err, None, Some}
use Rattle.std.specs.declared.option.Option.{Option}
use Rattle.clone_calls.specs.declared.answer.DonorAnswer.{DonorAnswer}
use Rattle.clone_calls.specs.declared.answer.DonorAnswer.TheVariants as given
use Rattle.clone_plain.specs.declared.call.EngineAnswer.{EngineAnswer}
use Rattle.clone_plain.specs.declared.refusal.Cause.TheVariants.{DiskFault}
use Rattle.clone_plain.specs.declared.refusal.EngineRefusal.{EngineRefusal}
use Rattle.clone_plain.specs.declared.refusal.EngineRefusal.TheVariants.{Because, NoMemory}
use Rattle.clone_machine.specs.declared.calls.JobAnswer.{JobAnswer}
use Rattle.clone_machine.specs.declared.calls.JobAnswer.TheVariants as answer
use Rattle.clone_jobs.specs.Said.{Said, asking, halting}
use Rattle.clone_jobs.specs.declared.ending.Ending.{Ending}
use Rattle.clone_jobs.specs.declared.ending.Ending.TheVariants as ending

-- An answer ends a job where the disk failed, and where there was no memory.
abbrev pub stop_of : Result EngineAnswer EngineRefusal → Option Ending
stop_of (Ok told) = None
stop_of (Err (Because DiskFault)) = Some ending.DiskFault
stop_of (Err (Because cause)) = None
stop_of (Err NoMemory) = Some ending.NoMemory

abbrev pub stop_by : JobAnswer → Option Ending
stop_by (answer.Donor (given.Engine result)) = stop_of result
stop_by (answer.Donor (given.Archive (Err refused))) = Some ending.NoMemory
stop_by other = None

-- the first of two, if one of them is there
abbrev pub earlier : Option Ending → Option Ending → Option Ending
earlier (Some end) later = Some end
earlier None later = later

-- the first answer of a turn that ends the job, if there is one
abbrev pub stop_in : List Said → Option Ending
stop_in [] = None
stop_in (x ∷ said) = earlier (stop_by x.answer) (stop_in said)

-- A TURN begins with the question whether the run is to end, and goes on where it isn't.
abbrev pub in_turn : List Said → List Said
in_turn turn = asking false ∷ turn

abbrev pub in_turns : List (List Said) → List Said
in_turns turns = flat_map in_turn turns

-- Of a job: what it does in a turn, from a state of its own to the next.
module _ {S : Type 0} (IsTurn : S → List Said → S → Type 0) where
  -- turns one after the other, of which none ends the job
  abbrev pub GoesOn : S → List (List Said) → S → Type 0
  GoesOn s [] t = t ≡ s
  GoesOn s (turn ∷ turns) t =
      (u : S) × IsTurn s turn u × (stop_in turn ≡ None) × GoesOn u turns t

  -- the calls of such turns
  abbrev pub HasTurns : S → List Said → S → Type 0
  HasTurns s said t = (turns : List (List Said)) × GoesOn s turns t × (said ≡ in_turns turns)

  -- And when all is done.
  module _ (IsDone : S → Type 0) where
    -- THE END OF A JOB. All is done; or the run is to end; or the disk failed, or there was no
    -- memory, and then the job lets the run end.
    abbrev pub EndsBy : Ending → S → List Said → S → Type 0
    EndsBy ending.Done s said t = IsDone s × (said ≡ []) × (t ≡ s)
    EndsBy ending.Halted s said t = (said ≡ asking true ∷ []) × (t ≡ s)
    EndsBy ending.DiskFault s said t =
        (turn : List Said) × IsTurn s turn t × (stop_in turn ≡ Some ending.DiskFault)
        × (said ≡ in_turn turn ++ halting ∷ [])
    EndsBy ending.NoMemory s said t =
        (turn : List Said) × IsTurn s turn t × (said ≡ in_turn turn ++ halting ∷ [])

    -- one turn after which the job goes on, or the end
    abbrev pub TakesTurn : Option Ending → S → List Said → S → Type 0
    TakesTurn None s said t =
        (turn : List Said) × IsTurn s turn t × (stop_in turn ≡ None) × (said ≡ in_turn turn)
    TakesTurn (Some end) s said t = EndsBy end s said t

    -- ALL CALLS OF A JOB, from its first turn to its end
    pub record IsJob (end : Ending) (s : S) (said : List Said) (t : S) : Type 0 where
      pub turns : List Said
      pub last : List Said
      pub between : S
      pub go_on : HasTurns s turns between
      pub ends : EndsBy end between last t
      pub all : said ≡ turns ++ last
