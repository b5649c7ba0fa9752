-- What passed at an end that was lent, as frames.
use Rattle.std.specs.Prelude.{ℕ, ◌≡◌, ◌<◌, ◌^◌, List, [], ◌∷◌, Contains, map, flat_map, Some, ⊤}
use Rattle.std.specs.List.{AllByRecursion}
use Rattle.clone_outside.specs.declared.link.Link.{Ghosts as Link}
use Rattle.clone_outside.specs.declared.link.Side.TheVariants.{Donor, Requester}
use Rattle.clone_turn.specs.Parts.{IsSublist}
use Rattle.clone_chunk.specs.declared.copy_stage.CopyStage.TheVariants.{PageCopy}
use Rattle.clone_session.specs.declared.caller.Caller.{Caller}
use Rattle.clone_wire.specs.Spelling.{spelling}
use Rattle.clone_wire.specs.declared.frame.Frame.TheVariants as frame
use Rattle.clone_wire.specs.declared.frame.Side.TheVariants.{Answer, Command}
use Rattle.clone_wire.specs.declared.frame.Frame.{Frame}
use Rattle.clone_stream.specs.Streams.{IsFrameOf}
use Rattle.clone_calls.specs.declared.answer.DonorAnswer.{DonorAnswer}
use Rattle.clone_calls.specs.declared.call.DonorCall.{DonorCall}
use Rattle.clone_calls.specs.declared.call.DonorCall.TheVariants as donor
use Rattle.clone_serve.specs.Telling.{frame_for}
use Rattle.clone_runs.specs.Carried.{Carried}
use Rattle.clone_runs.specs.Connections.{answers_of, commands_of, place_of}
use Rattle.clone_runs.specs.Desk.{handed, paired}
use Rattle.clone_runs.specs.Ends.{Passed, WereSent, WereTaken}
use Rattle.clone_machine.specs.Running.{JobEntry}
use Rattle.clone_machine.specs.declared.calls.JobAnswer.TheVariants as answer
use Rattle.clone_machine.specs.declared.calls.JobCall.TheVariants as call
use Rattle.clone_desk.specs.Steps.{DeskEntry, act_of}
use Rattle.clone_copying.specs.Calls.{RecipientEntry}
use Rattle.clone_reading.specs.Lending.{Lent, Uses}
use Rattle.clone_reading.specs.Reading.{AreSpelled, Bytes, as_they_are, is_exit, is_init, leaves_in, opens_in, puts_in, takes_in, told_in}

-- what passed at an end of a connection, as the bytes of frames
abbrev pub PassedBytes : Type 0
PassedBytes = Passed Bytes Bytes

-- of two lists, each with that at the same place
abbrev pub Each : {A B : Type 0} → (A → B → Type 0) → List A → List B → Type 0
Each P [] [] = ⊤
Each P [] (y ∷ ys) = ⊥
Each P (x ∷ xs) [] = ⊥
Each P (x ∷ xs) (y ∷ ys) = P x y × Each P xs ys

-- Where an answered call acknowledges the copy of pages, its floor is that of a command.
abbrev pub AreAsked : List Bytes → List JobEntry → Type 0
AreAsked commands made =
    (e : JobEntry) (caller : Caller) (floor : ℕ) (given : DonorAnswer) → Contains made e
    → e.call ≡ call.Donor (donor.Ack caller 2 floor) → e.answer ≡ answer.Donor given
    → (floor < 2 ^ 64) × Contains commands (spelling (frame.Ack PageCopy floor))

-- The bytes are a frame that tells the answer to one of the calls.
pub record IsToldBy (made : List JobEntry) (bytes : Bytes) : Type 0 where
  pub entry : JobEntry
  pub asked : DonorCall
  pub given : DonorAnswer
  pub sent : Frame
  pub is_made : Contains made entry
  pub call_is : entry.call ≡ call.Donor asked
  pub answer_is : entry.answer ≡ answer.Donor given
  pub tells : frame_for asked given ≡ Some sent
  pub is : IsFrameOf Answer sent
  pub spelled : bytes ≡ spelling sent

module _ {L X : Type 0} (link : Link L X) where
  -- AT A DONOR'S END these commands were taken from what was received, and what was sent is a front
  -- of these answers.
  pub record PassedDonor (lent : Lent L) (p : PassedBytes) : Type 0 where
    pub place : p.place ≡ lent.place
    pub commands : AreSpelled Command p.commands
    pub answers : AreSpelled Answer p.answers
    pub heard : WereTaken as_they_are (link.received lent.back) p.commands
    pub answered : WereSent as_they_are (link.sent lent.back) p.answers

  -- AT A TASK'S END what was sent is a front of these commands, and these answers were taken from
  -- what was received.
  pub record PassedTask (lent : Lent L) (p : PassedBytes) : Type 0 where
    pub place : p.place ≡ lent.place
    pub commands : AreSpelled Command p.commands
    pub answers : AreSpelled Answer p.answers
    pub asked : WereSent as_they_are (link.sent lent.back) p.commands
    pub taken : WereTaken as_they_are (link.received lent.back) p.answers

  -- THE DONOR'S SIDE of a task: the connections that were served for it, what passed there, and
  -- the calls at the donor that carried the commands out, of which the answers tell.
  pub record AnswersTask {N : Type 0} (number task : ℕ) (made : List JobEntry)
      (asked : List (DeskEntry N L)) (lent : List (Lent L)) : Type 0 where
    pub ends : List PassedBytes
    pub uses : Uses Donor task lent asked
    pub each : Each PassedDonor lent ends
    pub places : map place_of ends ≡ handed task (map act_of asked)
    pub carried : Carried is_init is_exit (opens_in number) leaves_in (commands_of ends) made
    pub told : IsSublist (answers_of ends) (flat_map told_in made)
    pub tells : AllByRecursion (IsToldBy made) (answers_of ends)
    pub acknowledged : AreAsked (commands_of ends) made

  -- THE TASK'S SIDE: the connections that it made, what passed there, and its steps, which put
  -- these commands out and took these answers.
  pub record TakesTask {N R : Type 0} (task : ℕ) (stepped : List (RecipientEntry R))
      (asked : List (DeskEntry N L)) (lent : List (Lent L)) : Type 0 where
    pub ends : List PassedBytes
    pub uses : Uses Requester task lent asked
    pub each : Each PassedTask lent ends
    pub places : map place_of ends ≡ paired task (map act_of asked)
    pub put : IsSublist (commands_of ends) (flat_map puts_in stepped)
    pub took : flat_map takes_in stepped ≡ answers_of ends
