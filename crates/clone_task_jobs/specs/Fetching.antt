-- What a job does that fetches for a task.
use Rattle.std.specs.Prelude.{ℕ, ◌≡◌, Bool, true, false, List, []}
use Rattle.clone_outside.specs.declared.link.Link.{Ghosts as Link}
use Rattle.clone_turn.specs.Worked.{Worked}
use Rattle.clone_copying.specs.Calling.{IsOne}
use Rattle.clone_copying.specs.Calls.{FetcherModel, RecipientEntry, RecipientSeat}
use Rattle.clone_copying.specs.Connecting.{Connects, DeskSeat, WasRefused}
use Rattle.clone_copying.specs.Fetching.{Fetches, HasCause}
use Rattle.clone_copying.specs.Watching.{AreLooks, HasLooked, WasHalted}
use Rattle.clone_copying.specs.declared.fetch_end.FetchEnd.{FetchEnd}
use Rattle.clone_copying.specs.declared.fetch_end.FetchEnd.TheVariants as ending
use Rattle.clone_fetching.specs.declared.clone_ended.CloneEnded.TheVariants as told
use Rattle.std.specs.declared.option.Option.{Option}
use Rattle.clone_machine.specs.Running.{JobEntry}
use Rattle.clone_machine.specs.declared.calls.JobAnswer.{JobAnswer}
use Rattle.clone_machine.specs.declared.calls.JobCall.TheVariants as call
use Rattle.clone_links.specs.Calling.{JobSeat}
use Rattle.clone_machine.specs.Watching.{is_halted, position_of}

-- the clone is complete
abbrev pub is_complete : FetchEnd → Bool
is_complete (ending.Ended (told.Complete lsn position floor)) = true
is_complete other = false

-- unless the clone is complete the run is to end
abbrev pub HaltsUnless : Bool → List JobEntry → Type 0
HaltsUnless true made = made ≡ []
HaltsUnless false made = (a : JobAnswer) × IsOne call.Halt a made

module _ {N L X R : Type 0} (link : Link L X) where
  -- ALL CALLS OF THE JOB: it fetches over the connections that it made, and watches meanwhile
  pub record FetchesTask (f : FetcherModel R) (seat : RecipientSeat R)
      (desk_old desk_new : DeskSeat N L) (watch_old watch_new : JobSeat) (end : FetchEnd)
      : Type 0 where
    pub ends : List (L × L)
    pub core : Option ℕ
    pub looked : JobSeat
    pub desk : Worked (Connects f.task ends) desk_old desk_new
    pub fetches : Worked (λ made.
        Fetches link f.task (HasLooked call.Look position_of looked) f.core ends made core
        × HasCause (WasRefused f.task desk_new) (WasHalted call.Halted is_halted looked) end made)
        f.seat seat
    pub looks : Worked (AreLooks call.Halted call.Look) watch_old looked
    pub halts : Worked (HaltsUnless (is_complete end)) looked watch_new
