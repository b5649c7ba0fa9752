-- WHAT A RECIPIENT HOLDS that several tasks share, by the donor's run and by its own.
use Rattle.std.specs.Prelude.{ℕ, ◌≡◌, ◌≤◌, ◌<◌, ◌^◌, false, List, Contains, flat_map}
use Rattle.std.specs.Prelude.{Ok, Some, IsSome}
use Rattle.std.specs.FinMap as finite
use Rattle.std.specs.declared.option.Option.{Option}
use Rattle.clone_outside.specs.Disk.{DiskImage, ForTold, Steps, blank}
use Rattle.clone_outside.specs.DiskCalls.{DiskState}
use Rattle.clone_outside.specs.Mark.{mark_bytes}
use Rattle.clone_outside.specs.declared.mark.CloneEnd.{CloneEnd}
use Rattle.clone_outside.specs.declared.mark.Mark.TheVariants.{Complete, InProgress}
use Rattle.clone_model.specs.History.{fold}
use Rattle.clone_plain.specs.Donor.{history}
use Rattle.clone_lay.specs.Marked.{marked}
use Rattle.clone_staged.specs.Holds.{HoldsCopy}
use Rattle.clone_accepted.specs.Answers.{Item}
use Rattle.clone_session.specs.declared.caller.Caller.{Caller}
use Rattle.clone_session.specs.declared.info.StageInfo.{StageInfo}
use Rattle.clone_session.specs.declared.info.Stop.{Stop}
use Rattle.clone_wire.specs.Spelling.{spelling}
use Rattle.clone_wire.specs.declared.frame.Frame.{Frame}
use Rattle.clone_wire.specs.declared.frame.Side.TheVariants.{Answer}
use Rattle.clone_stream.specs.Streams.{IsFrameOf}
use Rattle.clone_recipient.specs.Receptions.{AreCounted, Reception, begun}
use Rattle.clone_recipient.specs.Record.{IsRecordOf}
use Rattle.clone_fetching.specs.Recipients.{RecipientModel}
use Rattle.clone_copying.specs.Calls.{RecipientEntry}
use Rattle.clone_calls.specs.declared.answer.DonorAnswer.TheVariants as answer
use Rattle.clone_calls.specs.declared.call.DonorCall.TheVariants as call
use Rattle.clone_engine.specs.Acts.{Calls}
use Rattle.clone_engine.specs.Donor.{Donor}
use Rattle.clone_engine.specs.Engine.{Engine}
use Rattle.clone_sides.specs.Answered.{WereAnswered}
use Rattle.clone_sides.specs.Moment.{HasGoneOn, StopsAt}
use Rattle.clone_sides.specs.Trace.{Entry, end_of}
use Rattle.clone_told.specs.Told.{IsOf, IsTold}
use Rattle.clone_joined.specs.Joined.{IsInProgress}
use Rattle.clone_reading.specs.Reading.{Bytes, takes_in}

-- ---- what is known of the two runs

-- each answer among these that names the session was told in the donor's run
abbrev pub AreTold : ℕ → List Entry → List Bytes → Type 0
AreTold number trace frames =
    (sent : Frame) → IsFrameOf Answer sent → Contains frames (spelling sent) → IsOf number sent
    → IsTold number trace sent

-- so was each that the recipient's steps took
abbrev pub AreHeard : {R : Type 0} → ℕ → List Entry → List (RecipientEntry R) → Type 0
AreHeard number trace run = AreTold number trace (flat_map takes_in run)

-- no copy of pages of the session was acknowledged with another floor
abbrev pub AcknowledgedWith : ℕ → ℕ → List Entry → Type 0
AcknowledgedWith number floor trace =
    (e : Entry) (caller : Caller) (given : ℕ) (info : StageInfo) → Contains trace e
    → e.act ≡ Calls (call.Ack caller 2 given) (answer.Ack (Ok info)) → caller.session ≡ number
    → given ≡ floor

module _ {R : Type 0} (state : R → DiskState) where
  -- THE RECIPIENT BEGINS: nothing was taken yet, and on its disk, which was blank, the copy of this
  -- session is in progress.
  pub record HasBegun (number : ℕ) (first : RecipientModel R) : Type 0 where
    pub count : ℕ
    pub limit : ℕ
    pub version : ℕ
    pub reception : first.reception ≡ begun number count limit version
    pub goes_on : first.given_up ≡ false
    pub before : Option DiskImage
    pub empty : ForTold before (λ m. m ≡ blank)
    pub in_progress : Steps before (state first.disk).told (marked (InProgress number))

-- ---- what follows

-- WHILE THE CLONE GOES ON: what the recipient accepted, over a disk without spaces whose copy was
-- in progress, was answered in the donor's run.
pub record HasAccepted (number : ℕ) (trace : List Entry) (r : Reception)
    (told : Option DiskImage) : Type 0 where
  pub items : List Item
  pub first : DiskImage
  pub blank : first.spaces ≡ finite.empty
  pub unfinished : IsInProgress number first
  pub accepted : IsRecordOf r items first told
  pub answered : WereAnswered number trace items
  pub session : r.table.session ≡ number
  pub bounded : r.position < 2 ^ 64
  pub counted : AreCounted r.table.phase r

-- the mark says that the copy of this session is complete, with these numbers
pub record IsCompleteAt (number lsn position : ℕ) (m : DiskImage) : Type 0 where
  pub end : CloneEnd
  pub session : end.session ≡ number
  pub lsn_is : end.lsn ≡ lsn
  pub position_is : end.position ≡ position
  pub mark : m.mark ≡ Some (mark_bytes (Complete end))

-- ONCE THE CLONE IS COMPLETE: in the donor's run the session came to a first stop, at this
-- position, which isn't before the floor, and the donor has gone on since then. The recipient's
-- disk says that the copy is complete. Where the donor's disk tells what it holds, the recipient's
-- recovers to the history at the stop.
pub record IsHeldAt (number : ℕ) (d : Donor) (trace : List Entry) (lsn position floor : ℕ)
    (told : Option DiskImage) : Type 0 where
  pub at : Engine
  pub stop : Stop
  pub moment : StopsAt number d trace at stop
  pub position_is : position ≡ stop.position
  pub reached : floor ≤ position
  pub gone_on : HasGoneOn stop at.donor (end_of d trace).engine.donor
  pub complete : ForTold told (IsCompleteAt number lsn position)
  pub holds : IsSome d.engine.disk.told
      → ForTold told (λ m. HoldsCopy m (fold (history at.donor)) position)
