-- What the serving of a connection does: the commands that were received, the calls that carry them
-- out, the frames that tell their answers, and why it ends.
use Rattle.std.specs.Prelude.{ℕ, ◌≡◌, List, [], ◌∷◌, ◌++◌, ⊤}
use Rattle.std.specs.declared.option.Option.{Option}
use Rattle.clone_outside.specs.Bytes.{TakesSome, appended}
use Rattle.clone_calls.specs.declared.call.DonorCall.{DonorCall}
use Rattle.clone_serve.specs.Runs.{Served}
use Rattle.clone_serve.specs.Serving.{Begins}
use Rattle.clone_serve.specs.Telling.{Exchange}
use Rattle.clone_serve.specs.declared.doing.Doing.{Doing}
use Rattle.clone_serve.specs.declared.turn.ServeTurn.TheVariants.{Ask}
use Rattle.clone_machine.specs.Running.{JobEntry}
use Rattle.clone_links.specs.Calling.{AreCalls, Server, Works}
use Rattle.clone_links.specs.Ending.{IsCause, IsCauseIn}
use Rattle.clone_links.specs.declared.end.ServeEnd.{ServeEnd}

-- with these bytes the donor's side asks for this call next
abbrev pub AsksNext : Doing → List ℕ → DonorCall → Type 0
AsksNext d left asked = (rest : List ℕ) × (t : Doing) × Begins d left rest t (Ask asked)

-- at most one call more was made, and its answer wasn't told
abbrev pub IsUntold : Doing → List ℕ → List Exchange → Type 0
IsUntold d left [] = ⊤
IsUntold d left (exchange ∷ []) = AsksNext d left exchange.0
IsUntold d left other = ⊥

-- THE CALLS CARRY OUT the commands in the bytes that were received, one after the other, and these
-- bytes tell the answers. Where there is no memory for a frame, its answer is the last. It ends for
-- bytes alone where what is left of them can't become a command.
pub record Carries (end : ServeEnd) (exchanges : List Exchange) (received sent : List ℕ)
    : Type 0 where
  pub doing : Doing
  pub left : List ℕ
  pub told : List Exchange
  pub untold : List Exchange
  pub served : Served doing told received left sent
  pub last : IsUntold doing left untold
  pub calls : exchanges ≡ told ++ untold
  pub cause : IsCauseIn end doing left

-- A CONNECTION WAS SERVED by these calls, up to this end. What was sent of the frames is as much as
-- went out.
pub record IsServed (end : ServeEnd)
    (received_old received_new sent_old sent_new : Option (List ℕ))
    (made : List JobEntry) : Type 0 where
  pub exchanges : List Exchange
  pub received : List ℕ
  pub sent : List ℕ
  pub calls : AreCalls exchanges made
  pub carries : Carries end exchanges received sent
  pub cause : IsCause end exchanges made
  pub came : received_new ≡ appended received_old received
  pub put : TakesSome sent_old sent_new sent

abbrev pub Serves : Server → Server → ServeEnd
    → (received_old received_new sent_old sent_new : Option (List ℕ)) → Type 0
Serves s t end received_old received_new sent_old sent_new =
    Works (IsServed end received_old received_new sent_old sent_new) s t
