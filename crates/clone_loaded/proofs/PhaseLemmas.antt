-- A session that was opened once in the run of the machine was opened once in its donor's.
use Rattle.std.proofs.Common.{◌≡◌, ◌∙◌, ◌≢◌, ℕ, Bool, true, false, List, [], ◌∷◌, ◌++◌, if◌then◌else◌, refl, ap, sym}
use Rattle.clone_runs.specs.Phases as runs
use Rattle.clone_calls.specs.declared.answer.DonorAnswer.{DonorAnswer}
use Rattle.clone_calls.specs.declared.call.DonorCall.{DonorCall}
use Rattle.clone_engine.specs.Acts.{Calls}
use Rattle.clone_engine.specs.Donor.{Donor}
use Rattle.clone_sides.specs.Answered as sides
use Rattle.clone_sides.specs.Trace.{Entry}
use Rattle.clone_machine.specs.Running.{JobEntry, act_by, act_in, trace_of}
use Rattle.clone_machine.specs.declared.calls.JobAnswer.{JobAnswer}
use Rattle.clone_machine.specs.declared.calls.JobAnswer.TheVariants as answer
use Rattle.clone_machine.specs.declared.calls.JobCall.{JobCall}
use Rattle.clone_machine.specs.declared.calls.JobCall.TheVariants as call
use Rattle.clone_reading.specs.Reading.{is_ending, is_opening, leaves_in, opens_in}

abbrev same_phase : runs.Phase → sides.Phase
same_phase runs.Unopened = sides.Unopened
same_phase runs.Open = sides.Open
same_phase runs.Gone = sides.Gone
same_phase runs.Again = sides.Again

-- the phase after an entry that opens the session, or ends it
abbrev next : runs.Phase → (opened left : Bool) → runs.Phase
next runs.Unopened opened left = if opened then runs.Open else runs.Unopened
next runs.Open opened left = if left then runs.Gone else runs.Open
next runs.Gone opened left = if opened then runs.Again else runs.Gone
next runs.Again opened left = runs.Again

-- by cases of the test
chosen : (b : Bool) (x y : runs.Phase) → same_phase (if b then x else y) ≡ (if b then same_phase x else same_phase y)
chosen true x y = refl
chosen false x y = refl

-- nothing happens to it
none_more : (phase : runs.Phase) → next phase false false ≡ phase
none_more runs.Unopened = refl
none_more runs.Open = refl
none_more runs.Gone = refl
none_more runs.Again = refl

not_again : (phase : runs.Phase) → phase ≢ runs.Again → same_phase phase ≢ sides.Again
not_again runs.Unopened other = λ is. absurd cc
not_again runs.Open other = λ is. absurd cc
not_again runs.Gone other = λ is. absurd cc
not_again runs.Again other = λ is. other refl

module _ (number : ℕ) where
  one_more : (phase : runs.Phase) (asked : DonorCall) (given : DonorAnswer) (opened left : Bool) → opened ≡ sides.opens number (Calls asked given) → left ≡ sides.ends (Calls asked given)
      → same_phase (next phase opened left) ≡ sides.phase_with number (same_phase phase) (Calls asked given)
  one_more runs.Unopened asked given opened left o l = chosen opened runs.Open runs.Unopened ∙ ap (λ b. if b then sides.Open else sides.Unopened) o
  one_more runs.Open asked given opened left o l = chosen left runs.Gone runs.Open ∙ ap (λ b. if b then sides.Gone else sides.Open) l
  one_more runs.Gone asked given opened left o l = chosen opened runs.Again runs.Gone ∙ ap (λ b. if b then sides.Again else sides.Gone) o
  one_more runs.Again asked given opened left o l = refl

  step_same : (phase : runs.Phase) (asked : JobCall) (given : JobAnswer) (after : Donor)
      → same_phase (next phase (is_opening number asked given) (is_ending asked given)) ≡ sides.phase_after number (same_phase phase) (act_by asked given after)
  step_same phase (call.Donor asked) (answer.Donor given) after = one_more phase asked given (sides.opens number (Calls asked given)) (sides.ends (Calls asked given)) refl refl
  step_same phase (call.Donor asked) answer.Halt after = ap same_phase (none_more phase)
  step_same phase (call.Donor asked) (answer.Halted over) after = ap same_phase (none_more phase)
  step_same phase (call.Donor asked) (answer.Look position) after = ap same_phase (none_more phase)
  step_same phase call.Halt given after = ap same_phase (none_more phase)
  step_same phase call.Halted given after = ap same_phase (none_more phase)
  step_same phase call.Look given after = ap same_phase (none_more phase)

  with_next : (phase : runs.Phase) (e : JobEntry) → runs.phase_with (opens_in number) leaves_in phase e ≡ next phase (opens_in number e) (leaves_in e)
  with_next runs.Unopened e = refl
  with_next runs.Open e = refl
  with_next runs.Gone e = refl
  with_next runs.Again e = refl

  after_append : (phase : sides.Phase) (xs ys : List Entry) → sides.phase_after number phase (xs ++ ys) ≡ sides.phase_after number (sides.phase_after number phase xs) ys
  after_append phase [] ys = refl
  after_append phase (x ∷ xs) ys = after_append (sides.phase_with number phase x.act) xs ys

  all_same : (phase : runs.Phase) (run : List JobEntry) → same_phase (runs.phase_after (opens_in number) leaves_in phase run) ≡ sides.phase_after number (same_phase phase) (trace_of run)
  all_same phase [] = refl
  all_same phase (e ∷ run) =
      all_same (runs.phase_with (opens_in number) leaves_in phase e) run
      ∙ (ap (λ p. sides.phase_after number p (trace_of run)) (ap same_phase (with_next phase e) ∙ step_same phase e.call e.answer e.after.donor)
      ∙ sym (after_append (same_phase phase) (act_in e) (trace_of run)))

  pub opened_once : (run : List JobEntry) → runs.IsOpenedOnce (opens_in number) leaves_in run → sides.IsOpenedOnce number (trace_of run)
  opened_once run once = λ again. not_again (runs.phase_after (opens_in number) leaves_in runs.Unopened run) once (all_same runs.Unopened run ∙ again)
