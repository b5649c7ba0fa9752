-- What a donor's frame says to a recipient, and whether the donor answered it in its run.
use Rattle.std.specs.Prelude.{ℕ, ◌≡◌, List, [], ◌∷◌, ◌++◌, Contains}
use Rattle.clone_accepted.specs.Answers.{Answer, PageBlock, RedoBlock, Stage}
use Rattle.clone_calls.specs.declared.answer.DonorAnswer.{DonorAnswer}
use Rattle.clone_calls.specs.declared.call.DonorCall.{DonorCall}
use Rattle.clone_wire.specs.Stages.{page_number}
use Rattle.clone_wire.specs.declared.frame.Frame.{Frame}
use Rattle.clone_wire.specs.declared.frame.Frame.TheVariants as frame
use Rattle.clone_serve.specs.Telling.{Exchange, frames_for}
use Rattle.clone_engine.specs.Acts.{Calls, CloneActs}
use Rattle.clone_engine.specs.Donor.{Donor}
use Rattle.clone_sides.specs.Answered.{answers, laid_at, told_by}
use Rattle.clone_sides.specs.Trace.{Entry, Runs, end_of}

-- a call that was answered so, with the donor after it
abbrev pub called : DonorCall → DonorAnswer → Donor → Entry
called asked given t = record { act = Calls asked given; after = t }

-- what a frame says: a stage, or a block. That no chunk is free, and a refusal, say nothing.
abbrev pub said_in : Frame → List Answer
said_in (frame.Stage attempt plan) = Stage (told_by plan) ∷ []
said_in (frame.Pages attempt stage chunk block pages) =
    PageBlock (page_number stage) chunk block (laid_at pages) ∷ []
said_in (frame.Redo attempt chunk block from bytes) = RedoBlock chunk block from bytes ∷ []
said_in other = []

-- it names the session of this number, if it names one
abbrev pub IsOf : ℕ → Frame → Type 0
IsOf number (frame.Stage attempt plan) = attempt.session ≡ number
IsOf number (frame.Pages attempt stage chunk block pages) = attempt.session ≡ number
IsOf number (frame.Redo attempt chunk block from bytes) = attempt.session ≡ number
IsOf number (frame.End attempt stage) = attempt.session ≡ number
IsOf number other = Unit {0}

-- THE DONOR ANSWERED what the frame says.
abbrev pub IsTold : ℕ → List Entry → Frame → Type 0
IsTold number trace sent =
    (said : Answer) → Contains (said_in sent) said → Contains (answers number trace) said

-- a donor answers so
abbrev pub gives : Donor → DonorCall → DonorAnswer → Donor → Type 0
gives d asked given t = CloneActs asked given d t

-- A RUN GOES ON by calls that are answered one after the other, up to this donor, and each frame
-- that tells one of the answers is told.
pub record GoesOnBy (number : ℕ) (d : Donor) (trace : List Entry) (exchanges : List Exchange)
    (t : Donor) : Type 0 where
  pub more : List Entry
  pub runs : Runs d (trace ++ more)
  pub reaches : end_of d (trace ++ more) ≡ t
  pub told : (sent : Frame) → Contains (frames_for exchanges) sent → IsOf number sent
      → IsTold number (trace ++ more) sent
