-- Tasks other than task 0 put out neither INIT nor EXIT.
use Rattle.std.proofs.Common.{ℕ, ◌≡◌, ◌≢◌, ◌∙◌, ◌==◌, Bool, false, List, [], ◌∷◌, Option, refl, sym, ap, subst, flat_map}
use Rattle.std.specs.List.{AllByRecursion}
use Rattle.std.proofs.lemmas.Bool.{ne_eqb, or_from}
use Rattle.clone_outside.specs.DiskCalls.{DiskState}
use Rattle.clone_turn.proofs.EachLemmas.{each_append}
use Rattle.clone_runs.specs.Marks.{NoneIn, either}
use Rattle.clone_wire.specs.Spelling.{code_of, spelling}
use Rattle.clone_wire.specs.declared.frame.Frame.{Frame}
use Rattle.clone_wire.specs.declared.frame.Frame.TheVariants as frame
use Rattle.clone_tasks.specs.Sending.{IsFirst, sent_floor}
use Rattle.clone_tasks.specs.Tables.{Table, attempt_of}
use Rattle.clone_fetching.specs.Recipients.{RecipientModel, RecipientSteps}
use Rattle.clone_fetching.specs.declared.machine.RecipientAnswer.{RecipientAnswer}
use Rattle.clone_fetching.specs.declared.machine.RecipientCall.{RecipientCall}
use Rattle.clone_fetching.specs.declared.machine.RecipientCall.TheVariants as call
use Rattle.clone_copying.specs.Calls.{AreCalls, IsCallOf, RecipientEntry, core_after, put_by}
use Rattle.clone_reading.specs.Reading.{Bytes, is_exit, is_init, puts_in}
use Rattle.clone_taking.specs.Taking.{IsStepOf}
use Rattle.clone_taking.proofs.CallLemmas.{call_puts}
use Rattle.clone_taking.proofs.FrameLemmas.{code_in}
use Rattle.clone_taking.proofs.PieceLemmas.{any_each}
use Rattle.clone_taking.proofs.StepLemmas.{Puts, acknowledges, connects, executes, leaves, nothing}

-- INIT or EXIT
abbrev is_either : Bytes → Bool
is_either bytes = either is_init is_exit bytes

-- by the code
neither : (bytes : Bytes) (next : Frame) → bytes ≡ spelling next → (code_of next == 1) ≡ false → (code_of next == 6) ≡ false → is_either bytes ≡ false
neither bytes next is one six = or_from (is_init bytes) (is_exit bytes) (code_in 1 bytes next is ∙ one) (code_in 6 bytes next is ∙ six)

other_puts : (task : ℕ) (old new : Table) (bytes : Bytes) → task ≢ 0 → Puts task old new bytes → is_either bytes ≡ false
other_puts task old new bytes other (nothing none) = ap is_either none
other_puts task old new bytes other (connects next of is bytes_are) =
    let attaches : next ≡ frame.Attach (attempt_of old) task = subst (λ (first : Bool). IsFirst first old task next) (ne_eqb task 0 other) is in
    neither bytes (frame.Attach (attempt_of old) task) (bytes_are ∙ ap spelling attaches) refl refl
other_puts task old new bytes other (acknowledges stage floor of kept bytes_are) = neither bytes (frame.Ack stage (sent_floor stage old.floor floor)) bytes_are refl refl
other_puts task old new bytes other (executes stage bytes_are) = neither bytes (frame.Execute stage) bytes_are refl refl
other_puts task old new bytes other (leaves first ended bytes_are) = absurd (other first)

module _ {R : Type 0} (state : R → DiskState) (task : ℕ) (other : task ≢ 0) (looked : ℕ → Type 0) where
  other_call : (core : Option ℕ) (s : RecipientModel R) (c : RecipientCall) (a : RecipientAnswer) (t : RecipientModel R) → IsCallOf task looked core c → RecipientSteps state s c a t → is_either (put_by c a) ≡ false
  other_call core s (call.Step c) a t is steps =
      other_puts c.task s.reception.table t.reception.table (put_by (call.Step c) a) (λ zero. other (sym is.0 ∙ zero)) (call_puts state s (call.Step c) a t steps)
  other_call core s call.Ended a t is steps = refl

  pub others : (core left : Option ℕ) (made : List (RecipientEntry R)) → AreCalls task looked core made left → AllByRecursion (IsStepOf state) made → NoneIn (either is_init is_exit) (flat_map puts_in made)
  others core left [] are steps = tt
  others core left (e ∷ es) are steps =
      each_append (λ (bytes : Bytes). is_either bytes ≡ false) (puts_in e) (flat_map puts_in es)
      (any_each (λ (bytes : Bytes). is_either bytes ≡ false) (put_by e.call e.answer) (other_call core steps.0.0 e.call e.answer e.after are.0 steps.0.1))
      (others (core_after e.call e.answer core) left es are.1 steps.1)
