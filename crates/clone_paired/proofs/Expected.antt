-- The answer at the front of what lies unread for a task is one that the task may take.
use Rattle.std.proofs.Common.{ℕ, zero, suc, ◌≡◌, ◌≢◌, ◌∙◌, ◌⊎◌, ◌<◌, List, [], ◌∷◌, true, false, Option, Some, refl, sym, ap, subst, inl, inr, arith}
use Rattle.std.specs.Prelude.{slice_index, not, nat_lt, ◌||◌, ◌&&◌, ◌==◌}
use Rattle.std.specs.List.{AllByRecursion}
use Rattle.std.proofs.lemmas.Bool.{and_from, cases_eq, eq-eqb, lt-ltb, ne_eqb, or_left, or_right}
use Rattle.clone_chunk.specs.Plans as plans
use Rattle.clone_chunk.specs.Stages.{copy_number, copying, stage_number}
use Rattle.clone_chunk.specs.declared.copy_stage.CopyStage.{CopyStage}
use Rattle.clone_chunk.specs.declared.copy_stage.CopyStage.TheVariants as copy
use Rattle.clone_chunk.specs.declared.stage.Stage.{Stage}
use Rattle.clone_marks.specs.Blocks.{blocks_of, has_block, is_left, is_taken}
use Rattle.clone_marks.specs.declared.chunk_marks.ChunkMarks.{ChunkMarks}
use Rattle.clone_session.specs.Cloning.{Session}
use Rattle.clone_wire.specs.Stages.{page_number}
use Rattle.clone_wire.specs.declared.frame.Attempt.{Attempt}
use Rattle.clone_wire.specs.declared.frame.Frame.{Frame}
use Rattle.clone_wire.specs.declared.frame.Frame.TheVariants as frame
use Rattle.clone_wire.specs.declared.stage.PageStage.{PageStage}
use Rattle.clone_wire.specs.declared.stage.PageStage.TheVariants as page
use Rattle.clone_tasks.specs.Awaiting.{awaits_block, awaits_end_of, awaits_stage, fits_stage, is_in, is_present, is_same, next_stage}
use Rattle.clone_tasks.specs.Tables.{Table, attempt_of, awaits_end, is_done, standing_of}
use Rattle.clone_tasks.specs.declared.standing.Phase.{Phase}
use Rattle.clone_tasks.specs.declared.standing.Phase.TheVariants.{Opening, Copying, Done}
use Rattle.clone_tasks.specs.declared.standing.Standing.{Standing}
use Rattle.clone_tasks.specs.declared.standing.Standing.TheVariants.{Apart, Joining, Ready, Fetching, Served, Acknowledging}
use Rattle.clone_recipient.specs.Expecting.{copied_in, fits, fits_pages, fits_redo, is_expected}
use Rattle.clone_recipient.specs.Receptions.{Reception}
use Rattle.clone_network.specs.Networks.{Network}
use Rattle.clone_rounds.specs.World.{Answer, Awaited, Block, End, ForEnd, Seat, Stage as StageAnswer, World}
use Rattle.clone_rounds.specs.Awaiting.{Rule}
use Rattle.clone_rounds.specs.Fitting.{Fits, FitsStage, MayComeBack}
use Rattle.clone_rounds.proofs.Fitting.{all_fit}
use Rattle.clone_view.specs.Frames.{AreAnswers, answer_of}
use Rattle.clone_view.specs.Rows.{place_of, taken_at}
use Rattle.clone_view.specs.Tables.{awaited_of, phase_number}
use Rattle.clone_view.specs.Views.{IsView, Line}
use Rattle.clone_view.proofs.Applying.{copy_some}
use Rattle.clone_view.proofs.Rows.{taken_place}
use Rattle.clone_paired.specs.Speaking.{IsGiven}
use Rattle.clone_paired.proofs.Linked.{Linked}

-- ---- numbers of stages

copying_number : (stage : CopyStage) → stage_number (copying stage) ≡ copy_number stage
copying_number copy.FileCopy = refl
copying_number copy.PageCopy = refl
copying_number copy.RedoCopy = refl

pub copied_number : (stage : PageStage) → copy_number (copied_in stage) ≡ page_number stage
copied_number page.FileCopy = refl
copied_number page.PageCopy = refl

next_number : (phase : Phase) → is_done phase ≡ false → stage_number (next_stage phase) ≡ suc (phase_number phase)
next_number Opening going = refl
next_number (Copying copy.FileCopy) going = refl
next_number (Copying copy.PageCopy) going = refl
next_number (Copying copy.RedoCopy) going = refl
next_number Done going = absurd (cc (going))

in_phase : (phase : Phase) (stage : CopyStage) → is_done phase ≡ false → copy_number stage ≡ phase_number phase → is_in phase (copying stage) ≡ true
in_phase Opening stage going is = let some : 0 < copy_number stage = (copy_some stage).0 in absurd (omega (arith, some, is))
in_phase (Copying present) stage going is = eq-eqb (stage_number (copying stage)) (stage_number (copying present)) (copying_number stage ∙ is ∙ sym (copying_number present))
in_phase Done stage going is = absurd (cc (going))

in_as : (phase : Phase) (at : Stage) → is_done phase ≡ false → stage_number at ≡ phase_number phase → 0 < phase_number phase → is_in phase at ≡ true
in_as Opening at going is some = absurd (omega (arith, some))
in_as (Copying present) at going is some = eq-eqb (stage_number at) (stage_number (copying present)) (is ∙ sym (copying_number present))
in_as Done at going is some = absurd (cc (going))

-- ---- what is awaited, by what the rounds have of it

next_is : (phase : Phase) (at : Stage) (stage : ℕ) → stage ≡ phase_number phase → is_done phase ≡ false → stage_number at ≡ suc stage → is_same at (next_stage phase) ≡ true
next_is phase at stage same going is = eq-eqb (stage_number at) (stage_number (next_stage phase)) (is ∙ ap suc same ∙ sym (next_number phase going))

stage_fits : (s : Standing) (phase : Phase) (k : ℕ) (at : Stage) (stage : ℕ) → stage ≡ phase_number phase → is_done phase ≡ false → FitsStage stage k (awaited_of s) (stage_number at) → fits_stage s phase k at ≡ true
stage_fits Apart phase k at stage same going is = absurd is
stage_fits Joining phase k at stage same going is = by (cases_eq k 0)
  where
    back : MayComeBack stage (stage_number at) → (not (k == 0) || is_same at (next_stage phase) || is_in phase at) ≡ true
    back (inl more) = or_left (not (k == 0) || is_same at (next_stage phase)) (is_in phase at) (or_right (not (k == 0)) (is_same at (next_stage phase)) (next_is phase at stage same going more))
    back (inr own) = or_right (not (k == 0) || is_same at (next_stage phase)) (is_in phase at) (in_as phase at going (own.0 ∙ same) (subst (λ (x : ℕ). 0 < x) same own.1))

    by : (k ≡ 0) ⊎ (k ≢ 0) → (not (k == 0) || is_same at (next_stage phase) || is_in phase at) ≡ true
    by (inl zero_is) = back (is zero_is)
    by (inr other) = or_left (not (k == 0) || is_same at (next_stage phase)) (is_in phase at) (or_left (not (k == 0)) (is_same at (next_stage phase)) (ap not (ne_eqb k 0 other)))
stage_fits Ready phase k at stage same going is = absurd is
stage_fits Fetching phase k at stage same going is = absurd is
stage_fits Served phase k at stage same going is = absurd is
stage_fits Acknowledging phase k at stage same going is = next_is phase at stage same going is.1

end_fits : (s : Standing) → awaited_of s ≡ ForEnd → awaits_end s ≡ true
end_fits Apart is = absurd (cc (is))
end_fits Joining is = absurd (cc (is))
end_fits Ready is = absurd (cc (is))
end_fits Fetching is = refl
end_fits Served is = absurd (cc (is))
end_fits Acknowledging is = absurd (cc (is))

left_fits : (marks : List ChunkMarks) (chunk block : ℕ) → block < slice_index (blocks_of marks) chunk → is_taken marks chunk block ≡ false → is_left marks chunk block ≡ true
left_fits [] chunk block small untaken = absurd (omega (arith, small))
left_fits (c ∷ marks) zero block small untaken = and_from (nat_lt block c.blocks) (not (has_block block c)) (lt-ltb block c.blocks small) (ap not untaken)
left_fits (c ∷ marks) (suc chunk) block small untaken = left_fits marks chunk block small untaken

present_is : (t : Table) (attempt : Attempt) → attempt ≡ attempt_of t → is_present t attempt ≡ true
present_is t attempt is = and_from (attempt.session == t.session) (attempt.incarnation == (attempt_of t).incarnation) (eq-eqb attempt.session t.session (ap (λ (a : Attempt). a.session) is)) (eq-eqb attempt.incarnation (attempt_of t).incarnation (ap (λ (a : Attempt). a.incarnation) is))

-- ---- of frames

-- the answer at the front is this one
pub record Front (counts : ℕ → List ℕ) (s : Seat) (got : Frame) : Type 0 where
  pub answer : Answer
  pub more : List Answer
  pub front : s.answers ≡ answer ∷ more
  pub is : answer_of counts got ≡ Some answer

pub front_of : (counts : ℕ → List ℕ) (s : Seat) (got : Frame) (left : List Frame) → AreAnswers counts (got ∷ left) s.answers → Front counts s got
front_of counts s got left are = at s.answers refl are
  where
    at : (answers : List Answer) → s.answers ≡ answers → AreAnswers counts (got ∷ left) answers → Front counts s got
    at [] e h = absurd (cc (h))
    at (x ∷ more) e h = record { answer = x; more = more; front = e; is = cc (h) }

module _ (session : Option Session) (r : Reception) (n : Network) (lines : ℕ → Option Line) (counts : ℕ → List ℕ) (w : World) (view : IsView counts r.table session lines w) (rule : Rule w) (going : is_done r.table.phase ≡ false) (counted : counts (phase_number r.table.phase) ≡ blocks_of r.table.marks) where
  module _ (k : ℕ) (x : Linked session r n lines counts w k) where
    standing : Standing
    standing = standing_of r.table k

    awaits_is : (w.seats k).awaits ≡ awaited_of (standing_of r.table k)
    awaits_is = (view.table.seats k).awaits

    end_awaited : (stage : CopyStage) → (w.seats k).awaits ≡ ForEnd → copy_number stage ≡ w.sides.stage → awaits_end_of r.table k stage ≡ true
    end_awaited stage awaits same = and_from (awaits_end (standing_of r.table k)) (is_in r.table.phase (copying stage)) (end_fits (standing_of r.table k) (sym awaits_is ∙ awaits)) (in_phase r.table.phase stage going (same ∙ view.table.stage))

    block_awaited : (stage : CopyStage) (chunk block : ℕ) → block < slice_index (blocks_of r.table.marks) chunk → Fits w.sides k (w.seats k).awaits (Block (copy_number stage) (place_of (counts (copy_number stage)) chunk block)) → awaits_block r.table k stage chunk block ≡ true
    block_awaited stage chunk block small fit = and_from (awaits_end_of r.table k stage) (is_left r.table.marks chunk block) (end_awaited stage fit.0 fit.1) (left_fits r.table.marks chunk block small untaken)
      where
        place : place_of (counts (copy_number stage)) chunk block ≡ place_of (blocks_of r.table.marks) chunk block
        place = ap (λ (c : List ℕ). place_of c chunk block) (ap counts (fit.1 ∙ view.table.stage) ∙ counted)

        untaken : is_taken r.table.marks chunk block ≡ false
        untaken = sym (taken_place r.table.marks chunk block small) ∙ ap (taken_at r.table.marks) (sym place) ∙ sym (view.table.taken (place_of (counts (copy_number stage)) chunk block) fit.2) ∙ fit.3

    fits_now : (got : Frame) (answer : Answer) → answer_of counts got ≡ Some answer → IsGiven session r got → Fits w.sides k (w.seats k).awaits answer → is_expected r k got ≡ true
    fits_now (frame.Stage attempt plan) answer is given fit =
        and_from (is_present r.table attempt && awaits_stage r.table k (plans.stage_of plan)) (fits plan) (and_from (is_present r.table attempt) (awaits_stage r.table k (plans.stage_of plan)) (present_is r.table attempt given.0) (stage_fits (standing_of r.table k) r.table.phase k (plans.stage_of plan) w.sides.stage view.table.stage going (subst (λ (a : Awaited). FitsStage w.sides.stage k a (stage_number (plans.stage_of plan))) awaits_is (subst (Fits w.sides k (w.seats k).awaits) same fit)))) given.1
      where
        same : answer ≡ StageAnswer (stage_number (plans.stage_of plan))
        same = cc (is)
    fits_now (frame.Pages attempt stage chunk block pages) answer is given fit =
        and_from (is_present r.table attempt && awaits_block r.table k (copied_in stage) chunk block) (fits_pages stage r chunk block pages) (and_from (is_present r.table attempt) (awaits_block r.table k (copied_in stage) chunk block) (present_is r.table attempt given.0) (block_awaited (copied_in stage) chunk block given.1 (subst (Fits w.sides k (w.seats k).awaits) same fit))) given.2
      where
        same : answer ≡ Block (copy_number (copied_in stage)) (place_of (counts (copy_number (copied_in stage))) chunk block)
        same = cc (is, ap (λ (c : ℕ). Block c (place_of (counts c) chunk block)) (copied_number stage))
    fits_now (frame.Redo attempt chunk block from bytes) answer is given fit =
        and_from (is_present r.table attempt && awaits_block r.table k copy.RedoCopy chunk block) (fits_redo r chunk block from bytes) (and_from (is_present r.table attempt) (awaits_block r.table k copy.RedoCopy chunk block) (present_is r.table attempt given.0) (block_awaited copy.RedoCopy chunk block given.1 (subst (Fits w.sides k (w.seats k).awaits) same fit))) given.2
      where
        same : answer ≡ Block 3 (place_of (counts 3) chunk block)
        same = cc (is)
    fits_now (frame.End attempt stage) answer is given fit =
        let same : answer ≡ End (copy_number stage) = cc (is) in
        let own : Fits w.sides k (w.seats k).awaits (End (copy_number stage)) = subst (Fits w.sides k (w.seats k).awaits) same fit in
        and_from (is_present r.table attempt) (awaits_end_of r.table k stage) (present_is r.table attempt given) (end_awaited stage own.0 own.1)
    fits_now got answer is given fit = absurd given

    -- THE FRAME at the front is expected, and it refuses nothing.
    pub expected : (got : Frame) (left : List Frame) → x.l.answers ≡ got ∷ left → (is_expected r k got ≡ true) × IsGiven session r got
    expected got left unread =
        let given : AllByRecursion (IsGiven session r) (got ∷ left) = subst (AllByRecursion (IsGiven session r)) unread x.of.given in
        let front : Front counts (w.seats k) got = front_of counts (w.seats k) got left (subst (λ (f : List Frame). AreAnswers counts f (w.seats k).answers) unread x.seat.answers) in
        (fits_now got front.answer front.is given.0 ((all_fit w rule).answers k front.answer front.more front.front), given.0)
