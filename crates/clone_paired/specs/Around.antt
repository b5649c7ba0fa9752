-- WHAT HOLDS AROUND A STEP of a donor that serves one clone.
use Rattle.std.specs.Prelude.{ℕ, ◌≡◌, ◌≤◌, true, IfSome}
use Rattle.clone_session.specs.Cloning.{IsCloning}
use Rattle.clone_session.specs.Effects.{Tells}
use Rattle.clone_session.specs.declared.info.StageInfo.{StageInfo}
use Rattle.clone_recipient.specs.Expecting.{fits}
use Rattle.clone_recipient.specs.Receptions.{Reception}
use Rattle.clone_engine.specs.Copying.{moment_of}
use Rattle.clone_engine.specs.Donor.{Donor}
use Rattle.clone_paired.specs.Paired.{IsReception}

-- The floor that the recipient keeps isn't past the donor's position. What the donor tells of its
-- stage after the step is what a recipient may take.
pub record Serves (r : Reception) (d t : Donor) : Type 0 where
  pub reception : IsReception r
  pub cloning : IsCloning d.cloning
  pub floor : IfSome r.table.floor (λ kept. kept ≤ (moment_of d.engine).position)
  pub fit : (info : StageInfo) → Tells t.cloning info → fits info.plan ≡ true

-- So it serves where no other session stands.
pub record ServesOne (r : Reception) (d t : Donor) : Type 0 where
  pub serves : Serves r d t
  pub alone : IfSome d.cloning.session (λ s. s.number ≡ r.table.session)
