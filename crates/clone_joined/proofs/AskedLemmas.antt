-- What a step of the donor's end asks: a call of a command that was on its way, and then calls
-- within an EXECUTE.
use Rattle.std.proofs.Common.{ℕ, ◌≡◌, ◌∷◌, [], Bool, false, List, Option, None, Some, refl, sym, subst, inl, inr, arith}
use Rattle.std.specs.Bool.{⊤}
use Rattle.std.specs.List.{AllByRecursion}
use Rattle.clone_chunk.specs.Stages.{copy_number}
use Rattle.clone_chunk.specs.declared.copy_stage.CopyStage.{CopyStage}
use Rattle.clone_chunk.specs.declared.copy_stage.CopyStage.TheVariants as copy
use Rattle.clone_session.specs.declared.caller.Caller.{Caller}
use Rattle.clone_wire.specs.declared.frame.Frame.{Frame}
use Rattle.clone_wire.specs.declared.frame.Frame.TheVariants as frame
use Rattle.clone_wire.specs.declared.frame.Side.TheVariants as side
use Rattle.clone_calls.specs.declared.answer.DonorAnswer.{DonorAnswer}
use Rattle.clone_calls.specs.declared.call.DonorCall.{DonorCall}
use Rattle.clone_calls.specs.declared.call.DonorCall.TheVariants as call
use Rattle.clone_serve.specs.Commands.{command_of, first_command, later_command}
use Rattle.clone_serve.specs.Following.{call_in}
use Rattle.clone_serve.specs.Serving.{Begins, Commands, GoesOn, TakesCommand, turn_after}
use Rattle.clone_serve.specs.Stepping.{Goes, IsStep}
use Rattle.clone_serve.specs.Telling.{Exchange}
use Rattle.clone_serve.specs.declared.after.After.{After}
use Rattle.clone_serve.specs.declared.after.After.TheVariants.{Asks, Ends}
use Rattle.clone_serve.specs.declared.commands.Command.{Command}
use Rattle.clone_serve.specs.declared.doing.Doing.{Doing}
use Rattle.clone_serve.specs.declared.doing.Doing.TheVariants as doing
use Rattle.clone_serve.specs.declared.doing.Execution.{Execution}
use Rattle.clone_serve.specs.declared.doing.Work.{Work}
use Rattle.clone_serve.specs.declared.doing.Work.TheVariants as work
use Rattle.clone_serve.specs.declared.turn.ServeAnswer.{ServeAnswer}
use Rattle.clone_serve.specs.declared.turn.ServeAnswer.TheVariants as says
use Rattle.clone_serve.specs.declared.turn.ServeTurn.{ServeTurn}
use Rattle.clone_serve.specs.declared.turn.ServeTurn.TheVariants.{Ask, Done}
use Rattle.clone_network.specs.Connections.{is_serving}
use Rattle.clone_engine.specs.Acts.{Calls}
use Rattle.clone_engine.specs.Answering.{Answered}
use Rattle.clone_engine.specs.Donor.{Donor}
use Rattle.clone_joined.specs.Carried.{Carries, MayAsk}
use Rattle.clone_joined.specs.Runs.{MayAct}
use Rattle.clone_joined.proofs.CarriedLemmas.{Reads, carries_read}
use Rattle.clone_joined.proofs.RunLemmas.{MayCall, call_may}

-- ---- WITHIN AN EXECUTE

abbrev pub IsWithin : DonorCall → Type 0
IsWithin (call.Kept caller stage chunk) = ⊤
IsWithin (call.Claim caller stage) = ⊤
IsWithin (call.ReadBlock caller stage chunk block) = ⊤
IsWithin (call.Archive limit) = ⊤
IsWithin other = ⊥

abbrev pub AreWithin : List Exchange → Type 0
AreWithin exchanges = AllByRecursion (λ (x : Exchange). IsWithin x.0) exchanges

within_is : (run : Execution) (w : Work) → IsWithin (call_in run w)
within_is run work.Claim = tt
within_is run (work.Weigh chunk) = tt
within_is run (work.Read place again) = tt
within_is run (work.Archive place limit) = tt

abbrev IsWithinTurn : ServeTurn → Type 0
IsWithinTurn (Ask asked) = IsWithin asked
IsWithinTurn (Done answer) = ⊤

turn_within : (next : After) → IsWithinTurn (turn_after next)
turn_within (Asks run w) = within_is run w
turn_within (Ends d sends answer) = tt

next_within : (d t : Doing) (given : DonorAnswer) (old new : List ℕ) (turn : ServeTurn) → GoesOn d given old new t turn → IsWithinTurn turn
next_within d t given old new turn (inl (next, is, follows)) = subst IsWithinTurn (sym follows.turns) (turn_within next)
next_within d t given old new turn (inr fails) = subst IsWithinTurn (sym fails.says) tt

rest_within : (exchanges : List Exchange) (d t : Doing) (turn : ServeTurn) (old new : List ℕ) (answer : ServeAnswer) → Goes exchanges d turn old new t answer → IsWithinTurn turn → AreWithin exchanges
rest_within [] d t turn old new answer goes within = tt
rest_within (x ∷ xs) d t turn old new answer (is, (mid, sent, next, on, rest)) within =
    (subst IsWithinTurn is within, rest_within xs mid t next sent new answer rest (next_within d mid x.1 old sent next on))

-- ---- THE CALL that a step begins with is that of a command, or one within an EXECUTE

pub data BeginsBy (d : Doing) (received left : List ℕ) (begun : Doing) (asked : DonorCall) : Type 0 where
  commanded : (bound : Option Caller) → is_serving d ≡ false → Commands bound received left begun asked → BeginsBy d received left begun asked
  inside : IsWithin asked → left ≡ received → BeginsBy d received left begun asked

abbrev TurnsTo : Doing → List ℕ → List ℕ → Doing → ServeTurn → Type 0
TurnsTo d received left begun (Ask asked) = BeginsBy d received left begun asked
TurnsTo d received left begun (Done answer) = left ≡ received

taken_turn : (bound : Option Caller) (d : Doing) (received left : List ℕ) (was t : Doing) (turn : ServeTurn) → is_serving d ≡ false → TakesCommand bound received left was t turn → TurnsTo d received left t turn
taken_turn bound d received left was t (Ask asked) idle takes = commanded bound idle takes
taken_turn bound d received left was t (Done says.Idle) idle takes = takes.2
taken_turn bound d received left was t (Done (says.Garbled kept)) idle takes = takes.1
taken_turn bound d received left was t (Done says.NoMemory) idle takes = takes.0
taken_turn bound d received left was t (Done other) idle takes = absurd takes

begun_turn : (d : Doing) (received left : List ℕ) (t : Doing) (turn : ServeTurn) → Begins d received left t turn → TurnsTo d received left t turn
begun_turn doing.New received left t turn begins = taken_turn None doing.New received left doing.New t turn refl begins
begun_turn (doing.Ready caller) received left t turn begins = taken_turn (Some caller) (doing.Ready caller) received left (doing.Ready caller) t turn refl begins
begun_turn (doing.Serving run w) received left t turn begins = subst (TurnsTo (doing.Serving run w) received left t) (sym begins.0) (inside (within_is run w) begins.1)
begun_turn d received left t turn begins = subst (TurnsTo d received left t) (sym begins.0) begins.1

abbrev pub AsksAll : Doing → List ℕ → List ℕ → Doing → List Exchange → Type 0
AsksAll d received left begun [] = left ≡ received
AsksAll d received left begun (x ∷ xs) = BeginsBy d received left begun x.0 × AreWithin xs

goes_asks : (d : Doing) (received left : List ℕ) (exchanges : List Exchange) (begun t : Doing) (turn : ServeTurn) (old new : List ℕ) (answer : ServeAnswer) → TurnsTo d received left begun turn → Goes exchanges begun turn old new t answer → AsksAll d received left begun exchanges
goes_asks d received left [] begun t turn old new answer turns goes = subst (TurnsTo d received left begun) goes.0 turns
goes_asks d received left (x ∷ xs) begun t turn old new answer turns (is, (mid, sent, next, on, rest)) =
    (subst (TurnsTo d received left begun) is turns, rest_within xs mid t next sent new answer rest (next_within begun mid x.1 old sent next on))

-- A STEP'S CALLS
pub step_asks : (exchanges : List Exchange) (d t : Doing) (received left old new : List ℕ) (answer : ServeAnswer) (s : IsStep exchanges d received left old new t answer) → AsksAll d received left s.begun exchanges
step_asks exchanges d t received left old new answer s =
    goes_asks d received left exchanges s.begun t s.turn old new answer (begun_turn d received left s.begun s.turn s.begins) s.goes

-- ---- OVER A CONNECTION OF THE NETWORK they are such as the recipient may ask

-- they keep the session, from this donor on
abbrev pub MayStep : ℕ → Option ℕ → Donor → List Exchange → Type 0
MayStep number floor d [] = ⊤
MayStep number floor d (x ∷ xs) = ((t : Donor) → Answered x.0 x.1 d t → MayAct number floor d (Calls x.0 x.1)) × AreWithin xs

module _ (floor : Option ℕ) where
  -- the call of a command
  abbrev MayFind : Option Command → Type 0
  MayFind None = ⊤
  MayFind (Some found) = MayCall floor found.call

  acknowledges : (caller : Caller) (stage : CopyStage) (given : ℕ) → MayAsk floor (frame.Ack stage given) → copy_number stage ≡ 2 → floor ≡ Some given
  acknowledges caller copy.FileCopy given may two = absurd (omega (arith, two))
  acknowledges caller copy.PageCopy given may two = may
  acknowledges caller copy.RedoCopy given may two = absurd (omega (arith, two))

  first_may : (command : Frame) → MayFind (first_command command)
  first_may (frame.Init attempt version size compressed tasks) = tt
  first_may (frame.Attach attempt task) = tt
  first_may (frame.Reinit attempt stage finished) = tt
  first_may (frame.Reinit2 attempt stage taken) = tt
  first_may other = tt

  later_may : (caller : Caller) (command : Frame) → MayAsk floor command → MayFind (later_command caller command)
  later_may caller (frame.Execute stage) may = tt
  later_may caller (frame.Ack stage given) may = acknowledges caller stage given may
  later_may caller frame.Exit may = absurd may
  later_may caller other may = tt

  command_may : (bound : Option Caller) (command : Frame) → MayAsk floor command → MayFind (command_of bound command)
  command_may None command may = first_may command
  command_may (Some caller) command may = later_may caller command may

  pub within_may : (asked : DonorCall) → IsWithin asked → MayCall floor asked
  within_may (call.Kept caller stage chunk) within = tt
  within_may (call.Claim caller stage) within = tt
  within_may (call.ReadBlock caller stage chunk block) within = tt
  within_may (call.Archive limit) within = tt
  within_may other within = absurd within

  -- what is on its way then
  module _ (whole : Bool) where
    abbrev Comes : List ℕ → Type 0
    Comes bytes = Carries side.Command (MayAsk floor) whole bytes

    begins_may : (d begun : Doing) (received left : List ℕ) (asked : DonorCall) → Comes received → BeginsBy d received left begun asked → MayCall floor asked × Comes left
    begins_may d begun received left asked comes (commanded bound idle takes) =
        let read : Reads side.Command (MayAsk floor) whole takes.command left = carries_read side.Command (MayAsk floor) whole received left takes.command comes takes.is takes.taken in
        (subst MayFind takes.asks (command_may bound takes.command read.is), read.rest)
    begins_may d begun received left asked comes (inside is same) = (within_may asked is, subst Comes (sym same) comes)

    pub step_may : (number : ℕ) (v : Donor) (d begun : Doing) (received left : List ℕ) (exchanges : List Exchange) → Comes received → AsksAll d received left begun exchanges → MayStep number floor v exchanges × Comes left
    step_may number v d begun received left [] comes asks = (tt, subst Comes (sym asks) comes)
    step_may number v d begun received left (x ∷ xs) comes asks =
        let (may, rest) = begins_may d begun received left x.0 comes asks.0 in
        ((λ t does. call_may number floor x.0 x.1 v t does may, asks.1), rest)
