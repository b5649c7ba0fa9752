-- What a job does that serves the connections of a task: the connections in their order, by its
-- calls of the donor and of the desk, and how it ends.
use Rattle.std.specs.Prelude.{ℕ, ◌≡◌, ◌++◌, true, false, List, [], ◌∷◌, None, Some, ⊤}
use Rattle.std.specs.declared.option.Option.{Option}
use Rattle.clone_outside.specs.declared.link.Side.TheVariants.{Donor}
use Rattle.clone_outside.specs.declared.link.Link.{Ghosts as Link}
use Rattle.clone_turn.specs.Worked.{Makes}
use Rattle.clone_desk.specs.Records.{IsEnd, IsNew}
use Rattle.clone_desk.specs.Steps.{CallFits, DeskEntry}
use Rattle.clone_desk.specs.declared.machine.DeskAnswer.TheVariants as answer
use Rattle.clone_desk.specs.declared.machine.DeskCall.TheVariants as call
use Rattle.clone_copying.specs.Calling.{FitsNow, IsOne}
use Rattle.clone_copying.specs.Connecting.{DeskSeat}
use Rattle.clone_machine.specs.Running.{JobEntry}
use Rattle.clone_machine.specs.declared.calls.JobAnswer.TheVariants as job_answer
use Rattle.clone_machine.specs.declared.calls.JobCall.TheVariants as job
use Rattle.clone_links.specs.Calling.{IsOneCall, JobSeat}
use Rattle.clone_links.specs.Ending.{RoseIfLost}
use Rattle.clone_links.specs.Serving.{IsServed}
use Rattle.clone_links.specs.declared.end.ServeEnd.{ServeEnd}
use Rattle.clone_links.specs.declared.end.ServeEnd.TheVariants as end
use Rattle.clone_jobs.specs.declared.ending.Ending.{Ending}
use Rattle.clone_jobs.specs.declared.ending.Ending.TheVariants as ending

-- the end that the end of a connection brings to the job, if it brings one
abbrev pub ending_of : ServeEnd → Option Ending
ending_of end.DiskFault = Some ending.DiskFault
ending_of end.NoMemory = Some ending.NoMemory
ending_of other = None

-- it asks whether the run is to end, which it is or isn't
abbrev pub GoesOn : List JobEntry → Type 0
GoesOn made = IsOneCall job.Halted (job_answer.Halted false) made

abbrev pub IsHalted : List JobEntry → Type 0
IsHalted made = IsOneCall job.Halted (job_answer.Halted true) made

-- a connection that was served: its place, the donor's end as it was handed out and as it was given
-- back, and why its serving ended
pub record Service (L : Type 0) : Type 0 where
  pub place : ℕ
  pub taken : L
  pub back : L
  pub why : ServeEnd

module _ {N L X : Type 0} (link : Link L X) where
  -- the end, with whatever passed over it, may be given back at the place
  abbrev pub IsAwaited : DeskSeat N L → ℕ → L → Type 0
  IsAwaited v place taken =
      (back : L) → link.name back ≡ link.name taken → link.side back ≡ Donor
      → FitsNow (CallFits link) (call.GiveBack place Donor back) v

  -- A CONNECTION IS SERVED: the end that waits is handed out, the calls of the donor serve it, and
  -- it is given back
  pub record IsService (task : ℕ) (s : Service L) (made : List JobEntry)
      (asked : List (DeskEntry N L)) : Type 0 where
    pub look : List JobEntry
    pub calls : List JobEntry
    pub made_is : made ≡ look ++ calls
    pub goes_on : GoesOn look
    pub serves : IsServed s.why (link.received s.taken) (link.received s.back)
        (link.sent s.taken) (link.sent s.back) calls
    pub hand : List (DeskEntry N L)
    pub give : List (DeskEntry N L)
    pub asked_is : asked ≡ hand ++ give
    pub handed : IsOne (call.DonorEnd task) (answer.HandedOut (Some (s.place, s.taken))) hand
    pub given : IsOne (call.GiveBack s.place Donor s.back) answer.Kept give
    pub new : IsNew link (link.name s.taken) Donor s.taken
    pub same : IsEnd link (link.name s.taken) Donor s.back
    pub lost : RoseIfLost s.why (link.failures s.taken) (link.failures s.back)

  -- A TURN after which the job goes on: no end waits, or a connection is served
  pub data IsTurn (task : ℕ) (made : List JobEntry) (asked : List (DeskEntry N L))
      : List (Service L) → Type 0 where
    idles : GoesOn made → IsOne (call.DonorEnd task) (answer.HandedOut None) asked
        → IsTurn task made asked []
    serves : (s : Service L) → IsService task s made asked → ending_of s.why ≡ None
        → IsTurn task made asked (s ∷ [])

  -- turns, one after the other
  pub data AreTurns (task : ℕ) : List JobEntry → List (DeskEntry N L) → List (Service L)
      → Type 0 where
    none : AreTurns task [] [] []
    more : (made now : List JobEntry) (asked next : List (DeskEntry N L))
        (done one : List (Service L)) → AreTurns task made asked done
        → IsTurn task now next one → AreTurns task (made ++ now) (asked ++ next) (done ++ one)

  -- HOW IT ENDS: the run is to end, or the serving of a connection brings the end, which the job
  -- lets the run have
  abbrev pub EndsBy : ℕ → Ending → List JobEntry → List (DeskEntry N L) → List (Service L) → Type 0
  EndsBy task ending.Done made asked last = ⊥
  EndsBy task ending.Halted made asked last = IsHalted made × (asked ≡ []) × (last ≡ [])
  EndsBy task why made asked last =
      (s : Service L) × (calls : List JobEntry) × (halt : List JobEntry)
      × (last ≡ s ∷ []) × (made ≡ calls ++ halt) × IsService task s calls asked
      × (ending_of s.why ≡ Some why) × IsOneCall job.Halt job_answer.Halt halt

  -- one turn, or the end
  abbrev pub TakesTurn : ℕ → Option Ending → List JobEntry → List (DeskEntry N L)
      → List (Service L) → Type 0
  TakesTurn task None made asked done = IsTurn task made asked done
  TakesTurn task (Some why) made asked done = EndsBy task why made asked done

  -- ALL CALLS OF THE JOB, and the connections that it served
  pub record IsServing (task : ℕ) (why : Ending) (made : List JobEntry)
      (asked : List (DeskEntry N L)) (served : List (Service L)) : Type 0 where
    pub made_first : List JobEntry
    pub made_last : List JobEntry
    pub asked_first : List (DeskEntry N L)
    pub asked_last : List (DeskEntry N L)
    pub first : List (Service L)
    pub last : List (Service L)
    pub turns : AreTurns task made_first asked_first first
    pub ends : EndsBy task why made_last asked_last last
    pub made_is : made ≡ made_first ++ made_last
    pub asked_is : asked ≡ asked_first ++ asked_last
    pub served_is : served ≡ first ++ last

  -- the two seats made calls as P says
  abbrev pub BothWorked : (List JobEntry → List (DeskEntry N L) → List (Service L) → Type 0)
      → JobSeat → JobSeat → DeskSeat N L → DeskSeat N L → Type 0
  BothWorked P v w d e =
      (made : List JobEntry) × (asked : List (DeskEntry N L)) × (served : List (Service L))
      × Makes v made w × Makes d asked e × P made asked served

  abbrev pub ServesOne : ℕ → Option Ending → JobSeat → JobSeat → DeskSeat N L → DeskSeat N L
      → Type 0
  ServesOne task result v w d e = BothWorked (TakesTurn task result) v w d e

  abbrev pub ServesTask : ℕ → Ending → JobSeat → JobSeat → DeskSeat N L → DeskSeat N L → Type 0
  ServesTask task why v w d e = BothWorked (IsServing task why) v w d e
