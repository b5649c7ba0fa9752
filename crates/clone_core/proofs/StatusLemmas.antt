-- The status of a clone is its progress without the last line feed.
use Rattle.std.proofs.Common.{◌≡◌, ◌∙◌, ◌<◌, ◌-◌, ℕ, [], ◌∷◌, ◌++◌, length, take, get_or, refl, sym, ap, arith, append_assoc, length-append, codes, if◌then◌else◌, Result, OnErr}
use Rattle.std.proofs.Math.Seq.{get_or-append_seam, take-append_seam}
use Rattle.std.specs.declared.alloc.AllocError.{AllocError}
use Rattle.clone_model.specs.Texts.{ended}
use Rattle.clone_script.specs.declared.lines.Line.TheVariants as lines
use Rattle.clone_plain.specs.Answers.{Text}
use Rattle.clone_progress.specs.Copies.{file_copy, page_copy, redo_copy}
use Rattle.clone_progress.specs.Texts.{copy_line, is_begun, progress_text, stage_line, status_line}
use Rattle.clone_progress.specs.declared.progress.Progress.{Progress}
use Rattle.clone_events.specs.Events.{acts}
use Rattle.clone_core.specs.Acting.{course_progress}
use Rattle.clone_core.specs.Lines.{Answers, BreaksOff, State}
use Rattle.clone_core.proofs.UntoldLemmas.{one_breaks, same_untold}

-- all but the last line feed
front_of : Progress → Text
front_of p =
    status_line p.status ++ stage_line (codes "DROP DATA") (is_begun p.status) ++ copy_line (codes "FILE COPY") (file_copy p.copied) ++ copy_line (codes "PAGE COPY") (page_copy p.copied) ++ copy_line (codes "REDO COPY") (redo_copy p.copied)
    ++ stage_line (codes "FILE SYNC") p.synced ++ stage_line (codes "RESTART") p.recovered ++ (codes "RECOVERY" ++ (if p.recovered then codes " Completed" else codes " Not Started"))

ends_line : (p : Progress) → progress_text p ≡ ended (front_of p)
unfolding front_of
ends_line p = sym (append_assoc _ (codes "RECOVERY" ++ (if p.recovered then codes " Completed" else codes " Not Started")) (10 ∷ []))

pub tells_status : (s : State) (text : Text) → ended text ≡ progress_text (course_progress s.donor.course) → Answers s lines.Status text s
tells_status s text is = record {
  events = acts lines.Status [] text ∷ [];
  step = ((acts lines.Status [] text, refl, refl), (s, record { step = record { same = refl; none = refl; is = is }; begun = refl; clone = record { now = tt; shows = (tt, tt, λ told. tt); is = refl }; tells = refl; tasks = refl; sees = λ _. tt }, refl));
  is = refl;
}

pub status_breaks : {A : Type 0} (s : State) (result : Result A AllocError) → OnErr result (BreaksOff s lines.Status s)
status_breaks s result = one_breaks s s lines.Status (acts lines.Status [] []) result (acts lines.Status [] [], refl, refl) ([], acts lines.Status [] [] ∷ [], refl, same_untold s)

-- a text that loses its last byte, a line feed
pub popped : (p : Progress) (old new : Text) (count : ℕ) → old ≡ progress_text p → count ≡ length old → (0 < count → get_or old (count - 1) 0 < 128 → new ≡ take (count - 1) old) → ended new ≡ progress_text p
popped p old new count is counted pops =
    let whole : old ≡ ended (front_of p) = is ∙ ends_line p in
    let long : count - 1 ≡ length (front_of p) = omega (arith, counted, ap length whole, length-append (front_of p) (10 ∷ [])) in
    let some : 0 < count = omega (arith, counted, ap length whole, length-append (front_of p) (10 ∷ [])) in
    let last : get_or old (count - 1) 0 ≡ 10 = ap (λ (t : Text). get_or t (count - 1) 0) whole ∙ ap (λ (n : ℕ). get_or (ended (front_of p)) n 0) long ∙ get_or-append_seam (front_of p) 10 [] 0 in
    let cut : new ≡ front_of p = pops some (omega (arith, last)) ∙ ap (λ (t : Text). take (count - 1) t) whole ∙ ap (λ (n : ℕ). take n (ended (front_of p))) long ∙ take-append_seam (front_of p) (10 ∷ []) in
    ap ended cut ∙ sym (ends_line p)
