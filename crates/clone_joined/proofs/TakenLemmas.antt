-- What a recipient keeps when it takes an answer, and that the answer is one of its session.
use Rattle.std.proofs.Common.{ℕ, ◌≡◌, ◌∙◌, ◌<◌, ◌^◌, ◌==◌, ◌&&◌, Bool, true, false, Option, refl, sym, ap, subst}
use Rattle.std.proofs.lemmas.Bool.{eqb-true}
use Rattle.clone_outside.specs.Disk.{DiskImage}
use Rattle.clone_chunk.specs.declared.plan.StagePlan.{StagePlan}
use Rattle.clone_chunk.specs.declared.plan.StagePlan.TheVariants.{FileCopy, PageCopy, RedoCopy, Done}
use Rattle.clone_wire.specs.Ranges.{IsFrame, IsPlan}
use Rattle.clone_wire.specs.declared.frame.Attempt.{Attempt}
use Rattle.clone_wire.specs.declared.frame.Frame.{Frame}
use Rattle.clone_wire.specs.declared.frame.Frame.TheVariants as frame
use Rattle.clone_tasks.specs.Awaiting.{is_present, moves}
use Rattle.clone_tasks.specs.Tables.{Table, incarnation_of}
use Rattle.clone_recipient.specs.Expecting.{is_expected}
use Rattle.clone_recipient.specs.Receptions.{Reception}
use Rattle.clone_recipient.specs.Taking.{HasMarked, Takes, TakesStage, moved_by}
use Rattle.clone_told.specs.Told.{IsOf}

-- ---- of this session

first_true : (a b c : Bool) → (a && b && c) ≡ true → a ≡ true
first_true true b c is = refl
first_true false b c is = absurd (cc)

first_of_two : (a b : Bool) → (a && b) ≡ true → a ≡ true
first_of_two true b is = refl
first_of_two false b is = absurd (cc)

present_of : (number : ℕ) (t : Table) (attempt : Attempt) → t.session ≡ number → is_present t attempt ≡ true → attempt.session ≡ number
present_of number t attempt own is = eqb-true attempt.session t.session (first_of_two (attempt.session == t.session) (attempt.incarnation == incarnation_of t) is) ∙ own

pub expected_of : (number : ℕ) (r : Reception) (task : ℕ) (got : Frame) → r.table.session ≡ number → is_expected r task got ≡ true → IsOf number got
expected_of number r task (frame.Stage attempt plan) own is = present_of number r.table attempt own (first_true (is_present r.table attempt) _ _ is)
expected_of number r task (frame.Pages attempt stage chunk block pages) own is = present_of number r.table attempt own (first_true (is_present r.table attempt) _ _ is)
expected_of number r task (frame.Redo attempt chunk block from bytes) own is = present_of number r.table attempt own (first_true (is_present r.table attempt) _ _ is)
expected_of number r task (frame.End attempt stage) own is = present_of number r.table attempt own (first_of_two (is_present r.table attempt) _ is)
expected_of number r task other own is = tt

-- ---- what is kept

pub record IsSame (r s : Reception) : Type 0 where
  pub session : s.table.session ≡ r.table.session
  pub floor : s.table.floor ≡ r.table.floor
  pub bounded : r.position < 2 ^ 64 → s.position < 2 ^ 64

module _ (r : Reception) where
  same_as : (s : Reception) (x : Reception) → s ≡ x → IsSame r x → IsSame r s
  same_as s x is same = subst (IsSame r) (sym is) same

  moved_same : (plan : StagePlan) → IsPlan plan → IsSame r (moved_by plan r)
  moved_same (FileCopy chunks spaces) is = record { session = refl; floor = refl; bounded = λ b. b }
  moved_same (PageCopy chunks position spaces) is = record { session = refl; floor = refl; bounded = λ b. b }
  moved_same (RedoCopy chunks checkpoint lsn position) is = record { session = refl; floor = refl; bounded = λ b. is.3 }
  moved_same (Done checkpoint lsn position) is = record { session = refl; floor = refl; bounded = λ b. b }

  stage_same : (moved : Bool) (plan : StagePlan) (task : ℕ) (s : Reception) (told now : Option DiskImage) → IsPlan plan → TakesStage moved plan task r s told now → IsSame r s
  stage_same true plan task s told now is takes =
      let m : IsSame r (moved_by plan r) = moved_same plan is in
      same_as s (record (moved_by plan r) { sizes = s.sizes }) takes.0 (record { session = m.session; floor = m.floor; bounded = m.bounded })
  stage_same false plan task s told now is takes = same_as s _ takes.0 (record { session = refl; floor = refl; bounded = λ b. b })

  block_same : (chunk block : ℕ) (s : Reception) → HasMarked chunk block r s → IsSame r s
  block_same chunk block s marked = record {
    session = ap (λ (t : Table). t.session) marked.table.else_same;
    floor = ap (λ (t : Table). t.floor) marked.table.else_same;
    bounded = λ b. subst (λ (x : Reception). x.position < 2 ^ 64) (sym marked.else_same) b;
  }

  pub taken_same : (got : Frame) (task : ℕ) (s : Reception) (told now : Option DiskImage) → IsFrame got → Takes got task r s told now → IsSame r s
  taken_same (frame.Stage attempt plan) task s told now is takes = stage_same (moves r.table task) plan task s told now is.1 takes
  taken_same (frame.Pages attempt stage chunk block pages) task s told now is takes = block_same chunk block s takes.0
  taken_same (frame.Redo attempt chunk block from bytes) task s told now is takes = block_same chunk block s takes.0
  taken_same (frame.End attempt stage) task s told now is takes = same_as s _ takes.0 (record { session = refl; floor = refl; bounded = λ b. b })
  taken_same (frame.Refused cause) task s told now is takes = same_as s _ takes.0 (record { session = refl; floor = refl; bounded = λ b. b })
  taken_same other task s told now is takes = absurd takes
