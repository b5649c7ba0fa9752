-- A way goes on behind a page that was held, and what is kept meanwhile.
use Rattle.clone_trx.proofs.Common.{◌≡◌, inr, ℕ, Bool, List, sym, subst, Option, None, Some, Result, IsTrue, replayed, PageName, Buffered, image_of, EngineRefusal, Change, Record, UndoEntry, is_unused, Donor, Cause, IsKept, IsRowSlot, IsTargetFor, contents_of, Way, reads, Goes, Carries, Answers, Holds, let_go, page_in}
use Rattle.clone_trx.proofs.HeldPageLemmas.{held_bytes}

pub goes_on : {X : Type 0} (page : PageName) (rest : List ℕ → Way) (at : ℕ) (old new last final : Buffered) (result : Result X EngineRefusal) → Holds page at old new → Goes (rest (page_in at new)) new last result → final ≡ let_go at last → Goes (reads page rest) old final result
goes_on page rest at old new last final result holds goes is =
    inr (at, holds.next, last, holds.brings, subst (λ (p : List ℕ × Buffered). Goes (rest p.0) p.1 last result) (λ i. (held_bytes page at old new holds i, holds.is i)) goes, is)

-- a page that is brought leaves the image
pub still_kept : (d : Donor) (old new : Buffered) → new.log ≡ old.log → (IsTrue new.right → IsTrue old.right) → (IsTrue old.right → IsKept d (image_of old)) → IsTrue new.right → IsKept d (image_of new)
still_kept d old new same before kept right = subst (λ (log : List (List Record)). IsKept d (replayed log)) (sym same) (kept (before right))

-- the target of a change stays where it is
pub still_target : (d : Donor) (trx : ℕ) (change : Change) (old new : Buffered) (entry : UndoEntry) (is_new : Bool) (made : ℕ) → new.log ≡ old.log → (IsTrue new.right → IsTrue old.right) → IsTargetFor d trx change old entry is_new made → IsTargetFor d trx change new entry is_new made
still_target d trx change old new entry is_new made same before p = record {
  table = p.table;
  key = p.key;
  in_range = p.in_range;
  count = p.count;
  told = λ right. p.told (before right);
  row_slot = λ right. subst (λ (log : List (List Record)). IsRowSlot d (contents_of (replayed log)) change.table entry.page entry.slot change.key) (sym same) (p.row_slot (before right));
  unused = λ right. subst (λ (log : List (List Record)). is_new ≡ is_unused (replayed log) entry.table entry.page) (sym same) (p.unused (before right));
}

-- the answer of a call against which there is no cause of the plain donor
pub answers : {X : Type 0} (cause : Option Cause) (w : Way) (d e : Donor) (old new : Buffered) (result : Result X EngineRefusal) (Does : X → Type 0) → cause ≡ None → Goes w old new result → Carries d e result Does → Answers cause w d e old new result Does
answers None w d e old new result Does is goes does = (goes, does)
answers (Some cause) w d e old new result Does is goes does = absurd (let e = is in cc)
