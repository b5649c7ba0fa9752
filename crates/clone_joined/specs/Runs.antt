-- A DONOR'S RUN over which a session isn't ended, and which acts keep it so.
use Rattle.std.specs.Prelude.{ℕ, ◌≡◌, ◌≤◌, ◌==◌, Bool, false, List, None, Some, Ok, IfSome, ⊤}
use Rattle.std.specs.declared.option.Option.{Option}
use Rattle.std.specs.Option.{option_map_or, option_or}
use Rattle.clone_session.specs.declared.info.Stop.{Stop}
use Rattle.clone_session.specs.Cloning.{Session}
use Rattle.clone_calls.specs.declared.answer.DonorAnswer.TheVariants as answer
use Rattle.clone_calls.specs.declared.call.DonorCall.TheVariants as call
use Rattle.clone_engine.specs.Acts.{Act, Calls}
use Rattle.clone_engine.specs.Donor.{Donor, IsDonor}
use Rattle.clone_engine.specs.Taken.{IsTaken, nothing}
use Rattle.clone_sides.specs.Answered.{Again, Gone, Open, Phase, Unopened, phase_after}
use Rattle.clone_sides.specs.Moment.{first_stop, own_stop}
use Rattle.clone_sides.specs.Trace.{Entry, Runs, end_of}

-- nothing was taken of the donor, which has no session, and no stop of this one
pub record IsFresh (number : ℕ) (d : Donor) : Type 0 where
  pub donor : IsDonor d
  pub taken : IsTaken d nothing
  pub session : d.cloning.session ≡ None
  pub stop : own_stop number d.cloning.stop ≡ None

-- the session wasn't opened yet, or it is open
abbrev pub IsUnended : Phase → Type 0
IsUnended Unopened = ⊤
IsUnended Open = ⊤
IsUnended Gone = ⊥
IsUnended Again = ⊥

-- the floor is known, and isn't past this position
abbrev pub HasFloor : Option ℕ → ℕ → Type 0
HasFloor floor position = (kept : ℕ) × (floor ≡ Some kept) × (kept ≤ position)

-- THE RUN, up to this donor, with the stop that the session came to first, if it came to one. The
-- floor isn't past that.
pub record HasRun (number : ℕ) (floor : Option ℕ) (stop : Option Stop) (trace : List Entry)
    (d : Donor) : Type 0 where
  pub start : Donor
  pub fresh : IsFresh number start
  pub runs : Runs start trace
  pub reaches : end_of start trace ≡ d
  pub unended : IsUnended (phase_after number Unopened trace)
  pub first : first_stop number trace ≡ stop
  pub behind : IfSome stop (λ first. HasFloor floor first.position)

-- the donor has come there by such a run
abbrev pub HasCome : ℕ → Option ℕ → Option Stop → Donor → Type 0
HasCome number floor stop d = (trace : List Entry) × HasRun number floor stop trace d

-- the first stop of the session, where the donor goes on to this one
abbrev pub stop_by : ℕ → Option Stop → Donor → Option Stop
stop_by number stop t = option_or stop (own_stop number t.cloning.stop)

-- the session of this number stands at the donor
abbrev pub stands : ℕ → Donor → Bool
stands number d =
    option_map_or (λ (session : Session). session.number == number) d.cloning.session false

-- AN ACT that keeps the session: where it stands it isn't ended, and its copy of pages is
-- acknowledged with this floor alone. A call that is refused may be any.
abbrev pub MayAct : ℕ → Option ℕ → Donor → Act → Type 0
MayAct number floor d (Calls asked (answer.Exit (Ok gone))) = stands number d ≡ false
MayAct number floor d (Calls asked (answer.Abandon (Ok gone))) = stands number d ≡ false
MayAct number floor d (Calls (call.Ack caller stage given) (answer.Ack (Ok info))) =
    caller.session ≡ number → stage ≡ 2 → floor ≡ Some given
MayAct number floor d other = ⊤
