-- How far a writer comes: it commits no more than it is to.
use Rattle.std.proofs.Common.{◌≡◌, ◌==◌, ◌∙◌, ◌≤◌, ◌+◌, Bool, true, false, List, [], ◌∷◌, Option, None, Some, Result, Ok, Err, if◌then◌else◌, refl, sym, subst, inl, inr, arith}
use Rattle.std.specs.Prelude.{slice_get}
use Rattle.std.proofs.lemmas.Bool.{eqb-false, eqb-true}
use Rattle.clone_model.specs.declared.change.Change.{Change}
use Rattle.clone_plain.specs.declared.call.EngineAnswer.{EngineAnswer}
use Rattle.clone_plain.specs.declared.call.EngineAnswer.TheVariants as answers
use Rattle.clone_plain.specs.declared.call.EngineCall.{EngineCall}
use Rattle.clone_plain.specs.declared.refusal.Cause.TheVariants.{RowLocked}
use Rattle.clone_plain.specs.declared.refusal.EngineRefusal.{EngineRefusal}
use Rattle.clone_plain.specs.declared.refusal.EngineRefusal.TheVariants.{Because}
use Rattle.clone_plain.specs.declared.refusal.Undone.TheVariants.{Ended}
use Rattle.clone_writer.specs.Writers.{Writer, after_next, asked, asked_at, changes_of, told, told_at}
use Rattle.clone_writer.specs.declared.writer.Place.{Place}
use Rattle.clone_writer.specs.declared.writer.Place.TheVariants.{Before, Undoing, Within}
use Rattle.clone_jobs.specs.Said.{Said}
use Rattle.clone_jobs.specs.Written.{Follows}

-- it has committed no more than w is to, and is to commit as many
abbrev pub IsWithin : Writer → Writer → Type 0
IsWithin w v = (v.index ≤ w.count) × (v.count ≡ w.count)

within_at : (w : Writer) (place : Place) (given : Result EngineAnswer EngineRefusal) → w.index ≤ w.count → w.index + 1 ≤ w.count → IsWithin w (told_at w place given)
within_at w Before (Ok (answers.Begin trx)) still more = (still, refl)
within_at w Before (Ok did) still more = (still, refl)
within_at w Before (Err refusal) still more = (still, refl)
within_at w (Within trx made) given still more = by (slice_get (changes_of w) made) given
  where
    by : (next : Option Change) (given : Result EngineAnswer EngineRefusal) → IsWithin w (after_next w trx made next given)
    by (Some change) (Ok did) = (still, refl)
    by (Some change) (Err (Because (RowLocked holder))) = (still, refl)
    by (Some change) (Err refusal) = (still, refl)
    by None (Ok did) = (more, refl)
    by None (Err refusal) = (still, refl)
within_at w (Undoing trx) (Ok (answers.UndoOne Ended)) still more = (still, refl)
within_at w (Undoing trx) (Ok did) still more = (still, refl)
within_at w (Undoing trx) (Err refusal) still more = (still, refl)

within_told : (w : Writer) (given : Result EngineAnswer EngineRefusal) → w.index ≤ w.count → IsWithin w (told w given)
within_told w given still = by (w.index == w.count) refl
  where
    by : (done : Bool) → (w.index == w.count) ≡ done → IsWithin w (if done then w else told_at w w.place given)
    by true is = (still, refl)
    by false is = let apart = eqb-false w.index w.count is in within_at w w.place given still (omega (arith, still, apart))

pub within : (w : Writer) (said : List Said) (v : Writer) → Follows w said v → w.index ≤ w.count → IsWithin w v
within w [] v follows still = subst (IsWithin w) (sym follows) (still, refl)
within w (x ∷ said) v (inl aside) still = within w said v aside.1 still
within w (x ∷ said) v (inr made) still =
    let first = within_told w made.1 still in
    let later = within (told w made.1) said v made.4 (omega (arith, first.0, first.1)) in
    (omega (arith, later.0, first.1), later.1 ∙ first.1)

-- a writer that asks nothing more has committed all
pub all_done : (w : Writer) → asked w ≡ None → w.index ≡ w.count
all_done w none = by (w.index == w.count) refl none
  where
    by : (done : Bool) → (w.index == w.count) ≡ done → ◌≡◌ {A = Option EngineCall} (if done then None else Some (asked_at w w.place)) None → w.index ≡ w.count
    by true is none = eqb-true w.index w.count is
    by false is none = absurd cc
