-- A donor, the disk of a recipient and the clone between them, and what single calls do to them.
use Rattle.std.specs.Prelude.{ℕ, ◌≡◌, ◌&&◌, is_none, is_some, Bool, true, false, None, Some, Result, Ok, Err, codes}
use Rattle.std.specs.Option.{option_map}
use Rattle.std.specs.declared.option.Option.{Option}
use Rattle.clone_outside.specs.Causes.{Rose}
use Rattle.clone_outside.specs.Disk.{ForTold, Steps}
use Rattle.clone_outside.specs.DiskCalls.{DiskState}
use Rattle.clone_outside.specs.declared.mark.Mark.TheVariants.{InProgress}
use Rattle.clone_lay.specs.Marked.{marked}
use Rattle.clone_recover.specs.Restores.{IsCause}
use Rattle.clone_recover.specs.declared.refusal.Why.{Why}
use Rattle.clone_dump.specs.Shown.{why_text}
use Rattle.clone_recover.specs.declared.refusal.RecoverRefusal.TheVariants.{Damaged}
use Rattle.clone_events.specs.World.{Replica}
use Rattle.clone_plain.specs.Donor.{Donor}
use Rattle.clone_plain.specs.Answers.{Text}
use Rattle.clone_plain.specs.declared.call.EngineAnswer.{EngineAnswer}
use Rattle.clone_plain.specs.declared.call.EngineCall.{EngineCall}
use Rattle.clone_plain.specs.declared.refusal.Cause.{Cause}
use Rattle.clone_plain.specs.declared.refusal.EngineRefusal.TheVariants.{Because}
use Rattle.clone_calls.specs.declared.answer.DonorAnswer.TheVariants as answer
use Rattle.clone_calls.specs.declared.call.DonorCall.TheVariants as call
use Rattle.clone_chunk.specs.Stages.{copy_number}
use Rattle.clone_chunk.specs.declared.copy_stage.CopyStage.{CopyStage}
use Rattle.clone_script.specs.declared.terms.Terms.{Terms}
use Rattle.clone_session.specs.declared.info.Stop as session
use Rattle.clone_recipient.specs.Receptions.{begun}
use Rattle.clone_network.specs.Networks.{ready_in, unconnected}
use Rattle.clone_engine.specs.Disks.{Visits}
use Rattle.clone_engine.specs.Donor as staged
use Rattle.clone_engine.specs.Acts.{CloneActs, EngineActs}
use Rattle.clone_core.specs.declared.world.Course.{Course}
use Rattle.clone_core.specs.declared.world.Course.TheVariants as course
use Rattle.clone_core.specs.declared.world.TheConstants.{SESSION}

-- The course has what the recipient knows of the clone and the connections of its tasks; the stop
-- is the first of its session; what was looked up is the floor of an acknowledgement. The donor is
-- alone with the clone while no stranger's session has stood at it since the clone began. Last
-- comes what follows the clone.
pub record System : Type 0 where
  pub donor : staged.Donor
  pub recipient : DiskState
  pub terms : Terms
  pub course : Course
  pub stop : Option session.Stop
  pub looked : ℕ
  pub alone : Bool
  pub replica : Replica

abbrev pub donor_of : System → Donor
donor_of s = s.donor.engine.donor

-- both disks tell what they hold
abbrev pub tell : System → Bool
tell s = is_some s.donor.engine.disk.told && is_some s.recipient.told

-- the recipient's disk is asked or written, and all else stays
pub record VisitsRecipient (s t : System) : Type 0 where
  pub others : t ≡ record s { recipient = t.recipient }
  pub recipient : Visits s.recipient t.recipient

-- the same, and the recipient's disk failed
pub record FailsRecipient (s t : System) : Type 0 where
  pub visits : VisitsRecipient s t
  pub rose : Rose s.recipient.failures t.recipient.failures

-- what is named is against the format, where the disk is complete, quiet and told
pub record FindsDamage (s : DiskState) (space page : ℕ) (text : Text) : Type 0 where
  pub why : Why
  pub word : text ≡ why_text why
  pub damage : ForTold s.told (λ m. IsCause m (Damaged space page why))

-- a call that was made on the donor: it was carried out, or refused for a cause
abbrev pub CallStep : staged.Donor → EngineCall → Result EngineAnswer Cause → staged.Donor
    → Type 0
CallStep d asked (Ok given) t = EngineActs asked (Ok given) d t
CallStep d asked (Err cause) t = EngineActs asked (Err (Because cause)) d t

-- the log is archived up to there, or there is no archive
abbrev pub ArchivesTo : ℕ → Option ℕ → staged.Donor → staged.Donor → Type 0
ArchivesTo limit reached d t = CloneActs (call.Archive limit) (answer.Archive (Ok reached)) d t

-- the donor is another, and all else stays
abbrev pub OnDonor : (staged.Donor → staged.Donor → Type 0) → System → System → Type 0
OnDonor Does s t = Does s.donor t.donor × (t ≡ record s { donor = t.donor })

-- A CLONE BEGINS: the recipient's disk was empty and gets the mark of a copy in progress. The donor
-- has no session yet, or has one.
pub record Starts (alone : Bool) (s t : System) : Type 0 where
  pub absent : s.course ≡ course.Absent
  pub visits : Visits s.recipient t.recipient
  pub marks : Steps s.recipient.told t.recipient.told (marked (InProgress SESSION))
  pub free : alone ≡ is_none s.donor.cloning.session
  pub is : t ≡ record s {
    recipient = t.recipient;
    course = course.Begun (record {
      reception = begun SESSION s.terms.tasks s.terms.limit s.terms.version;
      network = unconnected s.terms.tasks;
    });
    alone = alone;
  }

-- the recipient's disk fails as it begins, which ends it
pub record FailsToStart (s t : System) : Type 0 where
  pub absent : s.course ≡ course.Absent
  pub visits : Visits s.recipient t.recipient
  pub rose : Rose s.recipient.failures t.recipient.failures
  pub is : t ≡ record s { recipient = t.recipient; course = course.Unbegun }

-- the clone has ended
abbrev pub has_ended : Course → Bool
has_ended course.Absent = false
has_ended course.Unbegun = true
has_ended (course.Begun c) = is_some c.reception.table.ended

-- the rows of a clone were shown, which its status tells
abbrev pub recovered_course : Course → Course
recovered_course (course.Begun c) = course.Begun (record c {
  reception = record c.reception { recovered = true };
})
recovered_course other = other

pub record ShowsRows (s t : System) : Type 0 where
  pub visits : Visits s.recipient t.recipient
  pub is : t ≡ record s {
    recipient = t.recipient;
    course = recovered_course s.course;
  }

-- the stage that task 0 would acknowledge by its next step, if there is one
abbrev pub ready_at : Course → Option CopyStage
ready_at (course.Begun c) = ready_in c.network c.reception.table
ready_at other = None

-- THE STAGE of this number is to be acknowledged by the next step of task 0.
abbrev pub IsReady : Course → ℕ → Type 0
IsReady w stage = option_map copy_number (ready_at w) ≡ Some stage
