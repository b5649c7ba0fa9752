-- The steps of a desk, and what they do in the runs of a clone.
use Rattle.std.specs.Prelude.{ℕ, Result, Ok, Err, IfOk, OnErr, Some, None, ⊤}
use Rattle.std.specs.declared.option.Option.{Option}
use Rattle.clone_outside.specs.Causes.{HasCause}
use Rattle.clone_outside.specs.declared.Refusal.{Refusal}
use Rattle.clone_outside.specs.declared.link.Link.{Ghosts as Link}
use Rattle.clone_outside.specs.declared.link.Net.{Ghosts as Net}
use Rattle.clone_runs.specs.Desk.{DeskAct, HandsOut as HandedOut, Other, Pairs}
use Rattle.clone_turn.specs.declared.view.Entry.{Entry}
use Rattle.clone_desk.specs.declared.machine.DeskCall.{DeskCall}
use Rattle.clone_desk.specs.declared.machine.DeskCall.TheVariants as call
use Rattle.clone_desk.specs.declared.machine.DeskAnswer.{DeskAnswer}
use Rattle.clone_desk.specs.declared.machine.DeskAnswer.TheVariants as answer
use Rattle.clone_desk.specs.Desks.{DeskModel, Fits, HandsOut, Keeps, Makes, MakesNone, StayMade, StayNamed}

module _ {L X : Type 0} (link : Link L X) where
  -- an end may be given back where it fits
  abbrev pub CallFits : {N : Type 0} → DeskCall L → DeskModel N L → Type 0
  CallFits (call.Pair task) s = ⊤
  CallFits (call.DonorEnd task) s = ⊤
  CallFits (call.GiveBack place side end) s = Fits link s place side end

module _ {N L X : Type 0} (net : Net N L X) (link : Link L X) where
  -- A PAIR, and when it is refused
  pub record Pairing (s : DeskModel N L) (task : ℕ) (result : Result (ℕ × L) Refusal)
      (t : DeskModel N L) : Type 0 where
    pub made : IfOk result (λ r. Makes net link s task r.0 r.1 t)
    pub refused : OnErr result (MakesNone net link s t)
    pub keeps : StayMade net link s t
    pub cause : HasCause (net.failures s.net) (net.failures t.net) result

  abbrev pub Answers : DeskModel N L → DeskCall L → DeskAnswer L → DeskModel N L → Type 0
  Answers s (call.Pair task) (answer.Paired result) t = Pairing s task result t
  Answers s (call.Pair task) (answer.HandedOut result) t = ⊥
  Answers s (call.Pair task) answer.Kept t = ⊥
  Answers s (call.DonorEnd task) (answer.Paired result) t = ⊥
  Answers s (call.DonorEnd task) (answer.HandedOut result) t = HandsOut net link s task result t
  Answers s (call.DonorEnd task) answer.Kept t = ⊥
  Answers s (call.GiveBack place side end) (answer.Paired result) t = ⊥
  Answers s (call.GiveBack place side end) (answer.HandedOut result) t = ⊥
  Answers s (call.GiveBack place side end) answer.Kept t = Keeps s place side end t

  -- A STEP: the call, which fits, is answered, and no record is removed or gets another name
  pub record DeskSteps (s : DeskModel N L) (c : DeskCall L) (a : DeskAnswer L)
      (t : DeskModel N L) : Type 0 where
    pub fits : CallFits link c s
    pub does : Answers s c a t
    pub stay : StayNamed link s t

-- one call of a run
abbrev pub DeskEntry : (N L : Type 0) → Type 0
DeskEntry N L = Entry (DeskModel N L) (DeskCall L) (DeskAnswer L)

module _ {L : Type 0} where
  -- what a call does, as the runs of a clone have it
  abbrev pub paired_as : ℕ → Result (ℕ × L) Refusal → DeskAct
  paired_as task (Ok r) = Pairs task r.0
  paired_as task (Err e) = Other

  abbrev pub handed_as : ℕ → Option (ℕ × L) → DeskAct
  handed_as task (Some r) = HandedOut task r.0
  handed_as task None = Other

  abbrev pub act_in : DeskCall L → DeskAnswer L → DeskAct
  act_in (call.Pair task) (answer.Paired result) = paired_as task result
  act_in (call.Pair task) (answer.HandedOut result) = Other
  act_in (call.Pair task) answer.Kept = Other
  act_in (call.DonorEnd task) (answer.Paired result) = Other
  act_in (call.DonorEnd task) (answer.HandedOut result) = handed_as task result
  act_in (call.DonorEnd task) answer.Kept = Other
  act_in (call.GiveBack place side end) a = Other

  abbrev pub act_of : {S : Type 0} → Entry S (DeskCall L) (DeskAnswer L) → DeskAct
  act_of e = act_in e.call e.answer
