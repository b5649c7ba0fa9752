-- What was told and acknowledged in the run of the machine was so in its donor's run.
use Rattle.std.proofs.Common.{◌≡◌, ◌∙◌, ℕ, List, [], ◌∷◌, ◌++◌, Ok, Some, refl, ap, sym, subst, append-nil}
use Rattle.std.specs.List.{AllByRecursion, Contains}
use Rattle.std.proofs.lemmas.List.Elements.{Contains-append_left, Contains-append_right}
use Rattle.clone_turn.specs.Runs.{IsLegalRun}
use Rattle.clone_turn.proofs.EachLemmas.{each_map}
use Rattle.clone_accepted.specs.Answers.{Answer}
use Rattle.clone_session.specs.declared.caller.Caller.{Caller}
use Rattle.clone_session.specs.declared.info.StageInfo.{StageInfo}
use Rattle.clone_wire.specs.Spelling.{spelling}
use Rattle.clone_wire.specs.declared.frame.Frame.{Frame}
use Rattle.clone_wire.specs.declared.frame.Side.TheVariants as side
use Rattle.clone_stream.proofs.Orders.{same_front}
use Rattle.clone_calls.specs.declared.answer.DonorAnswer.{DonorAnswer}
use Rattle.clone_calls.specs.declared.answer.DonorAnswer.TheVariants as given
use Rattle.clone_calls.specs.declared.call.DonorCall.{DonorCall}
use Rattle.clone_calls.specs.declared.call.DonorCall.TheVariants as asked
use Rattle.clone_serve.specs.Telling.{frame_for}
use Rattle.clone_engine.specs.Acts.{Calls, CloneActs}
use Rattle.clone_engine.specs.Donor.{Donor}
use Rattle.clone_sides.specs.Answered.{answered_by, answers}
use Rattle.clone_sides.specs.Trace.{Entry, Runs, end_of}
use Rattle.clone_told.specs.Told.{IsOf, IsTold, called}
use Rattle.clone_machine.specs.Running.{JobEntry, act_by, act_in, trace_of}
use Rattle.clone_machine.specs.Sharing.{Asks, SharedDonor, Steps}
use Rattle.clone_machine.specs.declared.calls.JobAnswer.{JobAnswer}
use Rattle.clone_machine.specs.declared.calls.JobAnswer.TheVariants as answer
use Rattle.clone_machine.specs.declared.calls.JobCall.{JobCall}
use Rattle.clone_machine.specs.declared.calls.JobCall.TheVariants as call
use Rattle.clone_reading.specs.Passing.{IsToldBy}
use Rattle.clone_reading.specs.Reading.{Bytes}
use Rattle.clone_held.specs.Held.{AcknowledgedWith, AreTold}
use Rattle.clone_loaded.proofs.PartLemmas.{each_itself, each_member}
use Rattle.clone_loaded.proofs.StepLemmas.{each_flat, each_step}

module _ (number : ℕ) where
  -- what an entry answers is answered in the run
  abbrev IsAnswered : List Answer → Entry → Type 0
  IsAnswered whole e = (said : Answer) → Contains (answers number (e ∷ [])) said → Contains whole said

  spread : (trace : List Entry) (whole : List Answer) → ((said : Answer) → Contains (answers number trace) said → Contains whole said) → AllByRecursion (IsAnswered whole) trace
  spread [] whole within = tt
  spread (x ∷ xs) whole within = (
    (λ said there. within said (Contains-append_left (answered_by number x.act) (answers number xs) said (subst (λ zs. Contains zs said) (append-nil (answered_by number x.act)) there))),
    spread xs whole (λ said there. within said (Contains-append_right (answered_by number x.act) (answers number xs) said there)),
  )

  in_trace : (trace : List Entry) (e : Entry) → Contains trace e → IsAnswered (answers number trace) e
  in_trace trace e there = each_member (IsAnswered (answers number trace)) trace e (spread trace (answers number trace) (λ said there. there)) there

  -- frames that tell the answers of calls of the run were told
  pub are_told : (first : SharedDonor) (run : List JobEntry) (frames : List Bytes) → IsLegalRun Steps first run → AllByRecursion (IsToldBy run) frames
      → ((run : List JobEntry) (e : JobEntry) (asked : DonorCall) (given : DonorAnswer) → Contains run e → e.call ≡ call.Donor asked → e.answer ≡ answer.Donor given → Contains (trace_of run) (record { act = Calls asked given; after = e.after.donor }))
      → ((number : ℕ) (d : Donor) (trace : List Entry) (asked : DonorCall) (given : DonorAnswer) (t : Donor) (sent : Frame) → Runs d trace → CloneActs asked given (end_of d trace) t → frame_for asked given ≡ Some sent → IsOf number sent
      → Runs d (trace ++ called asked given t ∷ []) × IsTold number (trace ++ called asked given t ∷ []) sent) → AreTold number (trace_of run) frames
  are_told first run frames legal told has tells = λ sent is there of_session.
      let t : IsToldBy run (spelling sent) = each_member (IsToldBy run) frames (spelling sent) told there in
      let same : sent ≡ t.sent = (same_front side.Answer sent t.sent [] [] is t.is (ap (λ bytes. bytes ++ []) t.spelled)).0 in
      let step = each_member (λ (e : JobEntry). (s : SharedDonor) × Steps s e.call e.answer e.after) run t.entry (each_step Steps first run legal) t.is_made in
      let asks : Asks t.asked t.given step.0 t.entry.after =
      subst (λ a. Steps step.0 (call.Donor t.asked) a t.entry.after) t.answer_is (subst (λ a. Steps step.0 a t.entry.answer t.entry.after) t.call_is step.1) in
      let alone = (tells number step.0.donor [] t.asked t.given t.entry.after.donor sent tt asks.acts (t.tells ∙ ap Some (sym same)) of_session).1 in
      λ said in_frame. in_trace (trace_of run) (called t.asked t.given t.entry.after.donor) (has run t.entry t.asked t.given t.is_made t.call_is t.answer_is) said (alone said in_frame)

  module _ (floor : ℕ) where
    abbrev IsAcked : Entry → Type 0
    IsAcked e = (caller : Caller) (n : ℕ) (info : StageInfo) → e.act ≡ Calls (asked.Ack caller 2 n) (given.Ack (Ok info)) → n ≡ floor

    abbrev Known : JobCall → JobAnswer → Type 0
    Known c a = (caller : Caller) (n : ℕ) (told : DonorAnswer) → c ≡ call.Donor (asked.Ack caller 2 n) → a ≡ answer.Donor told → n ≡ floor

    acked_in : (c : JobCall) (a : JobAnswer) (after : Donor) → Known c a → AllByRecursion IsAcked (act_by c a after)
    acked_in (call.Donor x) (answer.Donor y) after known = ((λ caller n info is. known caller n y (ap call.Donor (same is)) refl), tt)
      where
        same : {x u : DonorCall} {y v : DonorAnswer} → Calls x y ≡ Calls u v → x ≡ u
        same is = cc
    acked_in (call.Donor x) answer.Halt after known = tt
    acked_in (call.Donor x) (answer.Halted over) after known = tt
    acked_in (call.Donor x) (answer.Look position) after known = tt
    acked_in call.Halt a after known = tt
    acked_in call.Halted a after known = tt
    acked_in call.Look a after known = tt

    -- each acknowledgement had this floor
    pub acknowledged : (run : List JobEntry) → ((e : JobEntry) → Contains run e → Known e.call e.answer) → AcknowledgedWith number floor (trace_of run)
    acknowledged run known = λ e caller n info there is own.
        let each = each_map (Contains run) (λ (e : JobEntry). AllByRecursion IsAcked (act_in e)) (λ e there. acked_in e.call e.answer e.after.donor (known e there)) run (each_itself run) in
        each_member IsAcked (trace_of run) e (each_flat act_in IsAcked run each) there caller n info is
