-- A donor that jobs share, and what each call of theirs does in its turn.
use Rattle.std.specs.Prelude.{ℕ, ◌≡◌, Bool, true, length}
use Rattle.clone_calls.specs.Answering.{IsAnswerTo}
use Rattle.clone_calls.specs.declared.answer.DonorAnswer.{DonorAnswer}
use Rattle.clone_calls.specs.declared.call.DonorCall.{DonorCall}
use Rattle.clone_engine.specs.Acts.{CloneActs}
use Rattle.clone_engine.specs.Donor.{Donor}
use Rattle.clone_machine.specs.declared.calls.JobAnswer.{JobAnswer}
use Rattle.clone_machine.specs.declared.calls.JobAnswer.TheVariants as answer
use Rattle.clone_machine.specs.declared.calls.JobCall.{JobCall}
use Rattle.clone_machine.specs.declared.calls.JobCall.TheVariants as call

-- the donor, and whether the run is to end
pub record SharedDonor : Type 0 where
  pub donor : Donor
  pub halted : Bool

-- how many commits there are
abbrev pub position_of : Donor → ℕ
position_of d = length d.engine.donor.binlog

-- a call of the donor, which leaves the flag
pub record Asks (asked : DonorCall) (given : DonorAnswer) (s t : SharedDonor) : Type 0 where
  pub acts : CloneActs asked given s.donor t.donor
  pub answers : IsAnswerTo asked given
  pub flag : t.halted ≡ s.halted

-- WHAT A CALL DOES. An answer that isn't one to it is never given.
abbrev pub Steps : SharedDonor → JobCall → JobAnswer → SharedDonor → Type 0
Steps s call.Halt answer.Halt t = t ≡ record s { halted = true }
Steps s call.Halted (answer.Halted halted) t = (halted ≡ s.halted) × (t ≡ s)
Steps s call.Look (answer.Look position) t = (position ≡ position_of s.donor) × (t ≡ s)
Steps s (call.Donor asked) (answer.Donor given) t = Asks asked given s t
Steps s asked given t = ⊥
