-- The changes of an undo slot are taken back, last change first.
use Rattle.std.proofs.Common.{◌≡◌, ℕ, zero, suc, ◌<◌, ◌≤◌, List, [], ◌∷◌, ◌++◌, refl, sym, ap, subst, ◌∙◌, arith, inl, inr}
use Rattle.std.specs.Prelude.{unwrap_or}
use Rattle.std.specs.List.{AllByRecursion}
use Rattle.std.proofs.lemmas.Bool.{cases_lt}
use Rattle.clone_base.proofs.Lists.{All-push}
use Rattle.clone_page.specs.Bytes.{put_at}
use Rattle.clone_page.specs.Slots.{slot_at}
use Rattle.clone_undo.specs.Entries.{UndoEntry, IsEntry}
use Rattle.clone_undo.specs.Places.{record_page}
use Rattle.clone_undo.specs.Slots.{entry_on, entries}
use Rattle.clone_undo.specs.Changes.{slot_before}
use Rattle.clone_image.specs.Image.{Image, with_edit, edited}
use Rattle.clone_image.specs.Recovered.{system_pages, undone, all_undone}
use Rattle.clone_image.proofs.Images.{page_of-edited_other}

-- the last change is taken back first
all_undone-push : (image : Image) (es : List UndoEntry) (e : UndoEntry) → all_undone image (es ++ e ∷ []) ≡ all_undone (undone image e) es
all_undone-push image [] e = refl
all_undone-push image (x ∷ es) e = ap (λ i. undone i x) (all_undone-push image es e)

-- a row stands in no page of the system space
undone_system : (image : Image) (e : UndoEntry) (m : ℕ) → IsEntry e → system_pages (undone image e) m ≡ system_pages image m
undone_system image e m is =
    ap (λ o. unwrap_or o []) (page_of-edited_other image e.table e.page 0 m (put_at (slot_at e.slot) (slot_before e)) (λ t n. omega (arith, t, is.row_slot.0)))

pub all_undone_system : (image : Image) (es : List UndoEntry) (m : ℕ) → AllByRecursion IsEntry es → system_pages (all_undone image es) m ≡ system_pages image m
all_undone_system image [] m each = refl
all_undone_system image (e ∷ es) m each = undone_system (all_undone image es) e m each.0 ∙ all_undone_system image es m each.1

-- the records of an undo slot, one by one

all_in_range : (s : ℕ) (pages : ℕ → List ℕ) (n : ℕ) → ((i : ℕ) → i < n → IsEntry (entry_on i (pages (record_page s i)))) → AllByRecursion IsEntry (entries s pages n)
all_in_range s pages zero each = tt
all_in_range s pages (suc n) each = All-push IsEntry (entries s pages n) (entry_on n (pages (record_page s n))) (all_in_range s pages n (λ i lt. each i (omega arith))) (each n (omega arith))

-- so many changes are left to be taken back
pub record Undoing (s count left : ℕ) (start image : Image) : Type 0 where
  pub made : all_undone image (entries s (system_pages start) left) ≡ all_undone start (entries s (system_pages start) count)
  pub system : (m : ℕ) → system_pages image m ≡ system_pages start m
  pub ranges : (i : ℕ) → left ≤ i → i < count → IsEntry (entry_on i (system_pages start (record_page s i)))

pub undoing_begins : (s count : ℕ) (start : Image) → Undoing s count count start start
undoing_begins s count start = record { made = refl; system = λ m. refl; ranges = λ i low high. absurd (omega (arith, low, high)) }

-- the record is the one that the first image had
same_record : (s count left n : ℕ) (start image : Image) → Undoing s count left start image → entry_on n (system_pages image (record_page s n)) ≡ entry_on n (system_pages start (record_page s n))
same_record s count left n start image u = ap (entry_on n) (u.system (record_page s n))

pub undoing_goes_on : (s count n : ℕ) (start image new : Image) → new ≡ undone image (entry_on n (system_pages image (record_page s n))) → IsEntry (entry_on n (system_pages image (record_page s n))) → Undoing s count (suc n) start image → Undoing s count n start new
undoing_goes_on s count n start image new is range u = record {
  made = ap (λ i. all_undone i (entries s (system_pages start) n)) (is ∙ ap (undone image) same) ∙ sym (all_undone-push image (entries s (system_pages start) n) there) ∙ u.made;
  system = λ m. ap (λ i. system_pages i m) is ∙ undone_system image (entry_on n (system_pages image (record_page s n))) m range ∙ u.system m;
  ranges = λ i low high. elim (cases_lt n i) [
    | inl later ↦ u.ranges i (omega (arith, later)) high
    | inr now ↦ let e : n ≡ i = omega (arith, low, now) in subst (λ k. IsEntry (entry_on k (system_pages start (record_page s k)))) e (subst IsEntry same range)
  ];
}
  where
    there : UndoEntry
    there = entry_on n (system_pages start (record_page s n))

    same : entry_on n (system_pages image (record_page s n)) ≡ there
    same = same_record s count (suc n) n start image u

pub undoing_ranges : (s count : ℕ) (start image : Image) → Undoing s count 0 start image → AllByRecursion IsEntry (entries s (system_pages start) count)
undoing_ranges s count start image u = all_in_range s (system_pages start) count (λ i lt. u.ranges i (omega arith) lt)

-- a change is taken back by what was written
pub undone_by : (image : Image) (e : UndoEntry) (table page at : ℕ) (bytes : List ℕ) → table ≡ e.table → page ≡ e.page → at ≡ slot_at e.slot → bytes ≡ slot_before e → with_edit image table (edited page (put_at at bytes)) ≡ undone image e
undone_by image e table page at bytes p q r s = λ i. with_edit image (p i) (edited (q i) (put_at (r i) (s i)))
