-- The floor of an acknowledgement of the copy of pages is the one that is kept.
use Rattle.std.proofs.Common.{ℕ, ◌≡◌, ◌<◌, ◌^◌, ◌∙◌, ◌==◌, false, List, [], ◌∷◌, Option, Some, refl, sym, ap, flat_map}
use Rattle.std.specs.List.{AllByRecursion, Contains}
use Rattle.std.proofs.lemmas.Bool.{both_ways}
use Rattle.std.proofs.lemmas.List.Elements.{All-contains}
use Rattle.clone_outside.specs.DiskCalls.{DiskState}
use Rattle.clone_turn.specs.Runs.{IsLegalRun, end_of}
use Rattle.clone_turn.proofs.EachLemmas.{all_of_each, each_append}
use Rattle.clone_chunk.specs.declared.copy_stage.CopyStage.{CopyStage}
use Rattle.clone_chunk.specs.declared.copy_stage.CopyStage.TheVariants.{FileCopy, PageCopy, RedoCopy}
use Rattle.clone_wire.specs.Spelling.{code_of, spelling}
use Rattle.clone_wire.specs.declared.frame.Frame.{Frame}
use Rattle.clone_wire.specs.declared.frame.Frame.TheVariants.{Ack, Execute, Exit}
use Rattle.clone_tasks.specs.Sending.{kept_floor, sent_floor}
use Rattle.clone_tasks.specs.Tables.{Table}
use Rattle.clone_fetching.specs.Recipients.{RecipientModel, RecipientSteps}
use Rattle.clone_copying.specs.Calls.{RecipientEntry, put_by}
use Rattle.clone_reading.specs.Reading.{Bytes, has_code, puts_in}
use Rattle.clone_taking.proofs.CallLemmas.{call_keeps, call_puts, task_in}
use Rattle.clone_taking.proofs.FrameLemmas.{code_in, first_is_neither, same_ack}
use Rattle.clone_taking.proofs.PieceLemmas.{any_each}
use Rattle.clone_taking.proofs.StepLemmas.{Puts, acknowledges, connects, executes, leaves, nothing}

kept_now : (stage : CopyStage) (known : Option ℕ) (looked floor : ℕ) → Ack stage (sent_floor stage known looked) ≡ Ack PageCopy floor → kept_floor stage known looked ≡ Some floor
kept_now FileCopy known looked floor same = cc
kept_now PageCopy known looked floor same = cc
kept_now RedoCopy known looked floor same = cc

module _ (floor : ℕ) (low : floor < 2 ^ 64) where
  -- an acknowledgement of the copy of pages with this floor
  abbrev IsAck : Bytes → Type 0
  IsAck bytes = bytes ≡ spelling (Ack PageCopy floor)

  -- another frame isn't one
  no_ack : (bytes : Bytes) (next : Frame) → bytes ≡ spelling next → (code_of next == 5) ≡ false → IsAck bytes → ⊥
  no_ack bytes next bytes_are other is =
      both_ways (has_code 5 bytes) (code_in 5 bytes next bytes_are ∙ other) (code_in 5 bytes (Ack PageCopy floor) is)

  acked : (task : ℕ) (old new : Table) (bytes : Bytes) → Puts task old new bytes → IsAck bytes → new.floor ≡ Some floor
  acked task old new bytes (nothing none) is = absurd (both_ways (has_code 5 bytes) (ap (has_code 5) none) (code_in 5 bytes (Ack PageCopy floor) is))
  acked task old new bytes (connects next of first bytes_are) is = let apart = first_is_neither (task == 0) old task next first in absurd (no_ack bytes next bytes_are apart.0 is)
  acked task old new bytes (acknowledges stage looked of kept bytes_are) is =
      kept ∙ kept_now stage old.floor looked floor (same_ack floor (Ack stage (sent_floor stage old.floor looked)) low of (sym bytes_are ∙ is))
  acked task old new bytes (executes stage bytes_are) is = absurd (no_ack bytes (Execute stage) bytes_are refl is)
  acked task old new bytes (leaves first ended bytes_are) is = absurd (no_ack bytes Exit bytes_are refl is)

module _ {R : Type 0} (state : R → DiskState) where
  -- the floor that is kept at the end of a run
  abbrev floor_at : RecipientModel R → List (RecipientEntry R) → Option ℕ
  floor_at first run = (end_of first run).reception.table.floor

  run_keeps : (first : RecipientModel R) (run : List (RecipientEntry R)) (floor : ℕ) → IsLegalRun (RecipientSteps state) first run → first.reception.table.floor ≡ Some floor → floor_at first run ≡ Some floor
  run_keeps first [] floor legal has = has
  run_keeps first (e ∷ es) floor legal has = run_keeps e.after es floor legal.1 (call_keeps state first e.call e.answer e.after legal.0 floor has)

  module _ (floor : ℕ) (low : floor < 2 ^ 64) where
    abbrev Tells : RecipientModel R → List (RecipientEntry R) → Bytes → Type 0
    Tells first run bytes = bytes ≡ spelling (Ack PageCopy floor) → floor_at first run ≡ Some floor

    run_tells : (first : RecipientModel R) (run : List (RecipientEntry R)) → IsLegalRun (RecipientSteps state) first run → AllByRecursion (Tells first run) (flat_map puts_in run)
    run_tells first [] legal = tt
    run_tells first (e ∷ es) legal =
        let now = acked floor low (task_in e.call) first.reception.table e.after.reception.table (put_by e.call e.answer) (call_puts state first e.call e.answer e.after legal.0) in
        each_append (Tells first (e ∷ es)) (puts_in e) (flat_map puts_in es)
        (any_each (Tells first (e ∷ es)) (put_by e.call e.answer) (λ is. run_keeps e.after es floor legal.1 (now is)))
        (run_tells e.after es legal.1)

    pub floor_kept : (first : RecipientModel R) (run : List (RecipientEntry R)) → IsLegalRun (RecipientSteps state) first run → Contains (flat_map puts_in run) (spelling (Ack PageCopy floor)) → floor_at first run ≡ Some floor
    floor_kept first run legal there =
        All-contains (Tells first run) (flat_map puts_in run) (spelling (Ack PageCopy floor)) (all_of_each (Tells first run) (flat_map puts_in run) (run_tells first run legal)) there refl
