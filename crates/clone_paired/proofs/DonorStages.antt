-- What a donor tells of its stage is what a task may be given.
use Rattle.std.proofs.Common.{ℕ, ◌≡◌, ◌∙◌, ◌≤◌, List, [], ◌∷◌, Bool, true, false, Option, None, Some, length, map, refl, sym, ap, subst, arith}
use Rattle.clone_chunk.specs.Plans as plans
use Rattle.clone_chunk.specs.Plans.{sizes_of}
use Rattle.clone_chunk.specs.Stages.{stage_number}
use Rattle.clone_chunk.specs.declared.plan.StagePlan.{StagePlan}
use Rattle.clone_snapshot.specs.StageLists as lists
use Rattle.clone_snapshot.specs.StageLists.{StageList}
use Rattle.clone_session.specs.Cloning.{Cloning, Session}
use Rattle.clone_session.specs.CloneCauses.{donor_stage}
use Rattle.clone_session.specs.Effects.{Tells as TellsInfo, plan_of}
use Rattle.clone_session.specs.declared.info.StageInfo.{StageInfo}
use Rattle.clone_wire.specs.declared.frame.Attempt.{Attempt}
use Rattle.clone_serve.specs.Telling.{stage_frame}
use Rattle.clone_marks.specs.Counts.{pairs_of}
use Rattle.clone_tasks.specs.Tables.{Table, attempt_of, incarnation_of}
use Rattle.clone_recipient.specs.Expecting.{fits}
use Rattle.clone_recipient.specs.Receptions.{Reception}
use Rattle.clone_rounds.specs.World.{Stage as StageAnswer}
use Rattle.clone_view.specs.Frames.{answer_of}
use Rattle.clone_paired.specs.Sessions.{IsSessionOf}
use Rattle.clone_paired.specs.Speaking.{IsGiven, Tells}
use Rattle.clone_paired.proofs.DonorReads.{bare}

pub pairs_sizes : (spaces : List (ℕ × ℕ)) → pairs_of (sizes_of spaces) ≡ spaces
pairs_sizes [] = refl
pairs_sizes (s ∷ spaces) = ap (λ (l : List (ℕ × ℕ)). s ∷ l) (pairs_sizes spaces)

plan_tells : (c : Cloning) (s : Session) (list : StageList) → Tells (plan_of c s list) list
plan_tells c s (lists.Files spaces) = ap lists.Files (sym (pairs_sizes spaces))
plan_tells c s (lists.Pages pages) = (pages, refl, refl)
plan_tells c s (lists.Redo start end) = refl
plan_tells c s lists.Nothing = refl

plan_stage : (c : Cloning) (s : Session) (list : StageList) → plans.stage_of (plan_of c s list) ≡ lists.stage_of list
plan_stage c s (lists.Files spaces) = refl
plan_stage c s (lists.Pages pages) = refl
plan_stage c s (lists.Redo start end) = refl
plan_stage c s lists.Nothing = refl

-- A STAGE of the present incarnation
module _ (c : Cloning) (full s : Session) (there : c.session ≡ Some full) (is : s ≡ bare full) (r : Reception) (own : IsSessionOf r s) (present : s.incarnation ≡ incarnation_of r.table) (info : StageInfo) (tells : TellsInfo c info) (fit : fits info.plan ≡ true) where
  same : tells.0 ≡ full
  same = cc (tells.1, there)

  plan_is : info.plan ≡ plan_of c full full.snap.list
  plan_is = ap (λ (x : StageInfo). x.plan) tells.2 ∙ ap (λ (x : Session). plan_of c x x.snap.list) same

  list_is : full.snap.list ≡ s.snap.list
  list_is = sym (ap (λ (x : Session). x.snap.list) is)

  stage_is : stage_number (plans.stage_of info.plan) ≡ donor_stage s
  stage_is = ap (λ (x : StagePlan). stage_number (plans.stage_of x)) plan_is ∙ ap stage_number (plan_stage c full full.snap.list) ∙ ap (λ (l : StageList). stage_number (lists.stage_of l)) list_is

  attempt_is : record { session = info.session; incarnation = info.incarnation } ≡ attempt_of r.table
  attempt_is =
      let number : info.session ≡ r.table.session = ap (λ (x : StageInfo). x.session) tells.2 ∙ ap (λ (x : Session). x.number) same ∙ sym (ap (λ (x : Session). x.number) is) ∙ own.number in
      let now : info.incarnation ≡ incarnation_of r.table = ap (λ (x : StageInfo). x.incarnation) tells.2 ∙ ap (λ (x : Session). x.incarnation) same ∙ sym (ap (λ (x : Session). x.incarnation) is) ∙ present in
      (λ i. record { session = number i; incarnation = now i })

  pub stage_given : IsGiven (Some s) r (stage_frame info)
  stage_given = (attempt_is, fit, (λ e. subst (λ (l : StageList). Tells info.plan l) list_is (subst (λ (x : StagePlan). Tells x full.snap.list) (sym plan_is) (plan_tells c full full.snap.list))), omega (arith, stage_is))

  pub stage_answered : (counts : ℕ → List ℕ) → answer_of counts (stage_frame info) ≡ Some (StageAnswer (donor_stage s))
  stage_answered counts = ap (λ (x : ℕ). Some (StageAnswer x)) stage_is
