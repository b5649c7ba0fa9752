-- EXIT is put out only as the clone ends, and nothing after that.
use Rattle.std.proofs.Common.{ℕ, ◌≡◌, ◌∙◌, ◌==◌, Bool, false, [], ◌∷◌, ap}
use Rattle.std.specs.Prelude.{is_some}
use Rattle.std.proofs.lemmas.Bool.{both_ways}
use Rattle.clone_outside.specs.DiskCalls.{DiskState}
use Rattle.clone_runs.specs.Keeping.{Keeps}
use Rattle.clone_runs.specs.Marks.{NoneAfter}
use Rattle.clone_wire.specs.declared.frame.Frame.TheVariants as frame
use Rattle.clone_tasks.specs.Sending.{sent_floor}
use Rattle.clone_tasks.specs.Tables.{Table}
use Rattle.clone_fetching.specs.Recipients.{RecipientSteps}
use Rattle.clone_copying.specs.Calls.{put_by}
use Rattle.clone_reading.specs.Reading.{Bytes, if_any, is_exit, is_init, puts_in}
use Rattle.clone_taking.specs.Taking.{has_ended}
use Rattle.clone_taking.proofs.CallLemmas.{call_puts, call_rests, task_in}
use Rattle.clone_taking.proofs.FrameLemmas.{code_in, first_is_neither}
use Rattle.clone_taking.proofs.PieceLemmas.{any_each}
use Rattle.clone_taking.proofs.StepLemmas.{Puts, acknowledges, connects, executes, leaves, nothing}

no_exit : (task : ℕ) (old new : Table) (bytes : Bytes) → Puts task old new bytes → is_some new.ended ≡ false → is_exit bytes ≡ false
no_exit task old new bytes (nothing none) still = ap is_exit none
no_exit task old new bytes (connects next of is bytes_are) still = let apart = first_is_neither (task == 0) old task next is in code_in 6 bytes next bytes_are ∙ apart.1
no_exit task old new bytes (acknowledges stage floor of kept bytes_are) still = code_in 6 bytes (frame.Ack stage (sent_floor stage old.floor floor)) bytes_are
no_exit task old new bytes (executes stage bytes_are) still = code_in 6 bytes (frame.Execute stage) bytes_are
no_exit task old new bytes (leaves first ended bytes_are) still = absurd (both_ways (is_some new.ended) still ended)

alone : (opens left : Bytes → Bool) (bytes : Bytes) → NoneAfter opens left (if_any bytes)
alone opens left [] = tt
alone opens left (byte ∷ bytes) = (λ is. tt, tt)

module _ {R : Type 0} (state : R → DiskState) where
  pub keeps : Keeps (RecipientSteps state) puts_in is_init is_exit has_ended
  keeps = record {
    marks = λ s e steps still. any_each (λ (bytes : Bytes). is_exit bytes ≡ false) (put_by e.call e.answer) (no_exit (task_in e.call) s.reception.table e.after.reception.table (put_by e.call e.answer) (call_puts state s e.call e.answer e.after steps) still);
    stays = λ s e steps ended. ap (λ (t : Table). is_some t.ended) (call_rests state s e.call e.answer e.after ended steps).0 ∙ ended;
    quiet = λ s e steps ended. any_each (λ (bytes : Bytes). is_init bytes ≡ false) (put_by e.call e.answer) (ap is_init (call_rests state s e.call e.answer e.after ended steps).1);
    order = λ s e steps. alone is_init is_exit (put_by e.call e.answer);
  }
