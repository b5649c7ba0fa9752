-- What a disk holds that a clone was laid on, before and after it is recovered.
use Rattle.std.proofs.Common.{◌≡◌, ◌<◌, ◌^◌, ℕ, List, refl, sym, ap, subst, ◌∙◌, inl, inr, Some}
use Rattle.clone_model.specs.History.{Row, Rows, fold, rows_in}
use Rattle.clone_outside.specs.Disk.{DiskImage}
use Rattle.clone_outside.specs.Mark.{IsEnd}
use Rattle.clone_outside.specs.declared.mark.CloneEnd.{CloneEnd}
use Rattle.clone_outside.specs.declared.mark.Mark.TheVariants as mark
use Rattle.clone_mtr.specs.declared.record.Record.{Record}
use Rattle.clone_image.specs.Image.{Image, page_of}
use Rattle.clone_image.specs.Recovered.{recovered}
use Rattle.clone_image.specs.Redone.{standing_of}
use Rattle.clone_image.specs.Replay.{replayed}
use Rattle.clone_image.specs.Rows.{HasRows}
use Rattle.clone_image.proofs.ImageRowLemmas.{shown_map}
use Rattle.clone_overlay.specs.Images.{image_of}
use Rattle.clone_overlay.specs.Shown.{IsMisplaced}
use Rattle.clone_overlay.proofs.OverlayImageLemmas.{page_stands}
use Rattle.clone_plain.specs.Donor.{Donor, history}
use Rattle.clone_recover.specs.Listing.{ListsRows}
use Rattle.clone_recover.specs.Restores.{IsLeft, Answers, again, anew, HasMark, IsDamage, by_redo, by_header, by_dictionary, by_undo, by_chain, IsIncomplete, unmarked, under_way, numbered, unplaced, numbers_of}
use Rattle.clone_recover.specs.declared.recovery.Recovered.{Recovered}
use Rattle.clone_recover.specs.declared.refusal.Why.{Why}
use Rattle.clone_trx.specs.Sound.{IsKept}
use Rattle.clone_trx.proofs.RecoveredRowLemmas.{recovered_rows, can_take_back}
use Rattle.clone_staged.specs.Holds.{IsLeftBy, HoldsCopy}
use Rattle.clone_staged.specs.Staged.{IsLogTo, IsStaged, completed}
use Rattle.clone_staged.proofs.AlikeImages.{missing_alike, broken_alike}
use Rattle.clone_staged.proofs.EndMarks.{OneEnd, not_both, not_numbered, not_staged, not_under_way, recovered_not_numbered, recovered_not_staged, recovered_not_under_way, one_complete, one_recovered, one_position, same_recovered}
use Rattle.clone_staged.proofs.KeptImages.{none_missing, none_broken}
use Rattle.clone_staged.proofs.PlacedPages.{page_placed}
use Rattle.clone_staged.proofs.StagedImages.{is_redo, pages, left_alike, left_rows}
use Rattle.clone_staged.proofs.WholeChains.{none_astray}

same_numbers : (a b : CloneEnd) → a.lsn ≡ b.lsn → a.position ≡ b.position → numbers_of a ≡ numbers_of b
same_numbers a b lsn position = λ i. record { lsn = lsn i; position = position i }

-- A clone of a donor is laid on a disk in stages.
module _ (d : Donor) (log : List (List Record)) (end : CloneEnd) (m : DiskImage) (kept : IsKept d (replayed log)) (to : IsLogTo end log) (ranges : IsEnd end) (staged : IsStaged end.checkpoint log m) where
  abbrev n : DiskImage
  n = completed end m

  abbrev rows : Rows
  rows = fold (history d)

  complete : HasMark n (mark.Complete end)
  complete = refl

  recovered_has : (e : CloneEnd) → OneEnd end e → (left : Image) → IsLeft n e left → HasRows (page_of (recovered left)) rows
  recovered_has e one left l = left_rows log end m to staged e one left l kept.formed.size rows (can_take_back d (replayed log) kept.formed kept.sound) (recovered_rows d (replayed log) kept.formed kept.sound)

  left_by : (k : DiskImage) (numbers : Recovered) → numbers.position < 2 ^ 64 → Answers n k numbers → IsLeftBy k numbers rows end.position
  left_by k numbers fits (again e has is same) = absurd (not_both n end e complete has)
  left_by k numbers fits (anew e has is restores) =
      let r = restores staged.quiet in
      let one : OneEnd end e = one_complete n end e complete has in
      let position : end.position ≡ e.position = one_position end e ranges.1 (subst (λ (x : Recovered). x.position < 2 ^ 64) is fits) one in
      record {
        quiet = r.quiet;
        has = subst (λ (i : Image). HasRows (page_of i) rows) (sym r.image) (recovered_has e one r.left r.is_left);
        after = ap (λ (x : Recovered). x.position) is ∙ sym position;
        end = end;
        ranges = ranges;
        mark = r.mark ∙ ap (λ (xs : List ℕ). Some xs) (sym (same_recovered end e one));
        told = is ∙ sym (same_numbers end e one.lsn position);
      }

  none_misplaced : (s p : ℕ) → IsMisplaced s p (image_of m) → ⊥
  none_misplaced s p is = is.against (page_placed s p (standing_of (image_of m) s p) is.page (sym (page_stands (image_of m) s p) ∙ is.there) (staged.placed s p))

  never_damaged : (e : CloneEnd) (s p : ℕ) (why : Why) → OneEnd end e → IsDamage n e s p why → ⊥
  never_damaged e s p why one (by_redo at none) = none (staged.begin.behind, is_redo log end m to staged e one)
  never_damaged e s p why one (by_header space at has misplaced) = none_misplaced space at misplaced
  never_damaged e s p why one (by_dictionary left l missing) =
      none_missing d (replayed log) kept (missing_alike left (replayed log) (left_alike log end m to staged e one left l kept.formed.size) (pages log end m to staged e one left l kept.formed.size) missing)
  never_damaged e s p why one (by_undo at left l slot broken) =
      none_broken d (replayed log) kept slot at (broken_alike left (replayed log) (left_alike log end m to staged e one left l kept.formed.size) slot at broken)
  never_damaged e s p why one (by_chain table page left l first) =
      none_astray d left (replayed log) kept (left_alike log end m to staged e one left l kept.formed.size) table page first

  never_incomplete : IsIncomplete n → ⊥
  never_incomplete (unmarked none) = none (mark.Complete end) ranges complete
  never_incomplete (under_way session begun) = not_under_way n end session complete begun
  never_incomplete (numbered other begun) = not_numbered n end other complete begun
  never_incomplete (unplaced other is) = not_staged n end other complete is

  pub staged_holds : HoldsCopy n rows end.position
  staged_holds = record {
    marked = record { end = end; ranges = ranges; after = refl; mark = inl complete };
    recovers = left_by;
    sound = λ s p why cause. never_damaged cause.0 s p why (one_complete n end cause.0 complete cause.1) (cause.2 staged.quiet);
    complete = never_incomplete;
  }

-- A disk that was recovered.
module _ (n : DiskImage) (numbers : Recovered) (rows : Rows) (position : ℕ) (r : IsLeftBy n numbers rows position) where
  position_is : r.end.position ≡ position
  position_is = ap (λ (x : Recovered). x.position) (sym r.told) ∙ r.after

  left_again : (k : DiskImage) (next : Recovered) → next.position < 2 ^ 64 → Answers n k next → IsLeftBy k next rows position
  left_again k next fits (again e has is same) =
      let one : OneEnd r.end e = one_recovered n r.end e r.mark has in
      let still : r.end.position ≡ e.position = one_position r.end e r.ranges.1 (subst (λ (x : Recovered). x.position < 2 ^ 64) is fits) one in
      subst (λ (x : DiskImage). IsLeftBy x next rows position) (sym same) (record {
        quiet = r.quiet;
        has = r.has;
        after = ap (λ (x : Recovered). x.position) is ∙ sym still ∙ position_is;
        end = r.end;
        ranges = r.ranges;
        mark = r.mark;
        told = is ∙ sym (same_numbers r.end e one.lsn still);
      })
  left_again k next fits (anew e has is restores) = absurd (not_both n e r.end has r.mark)

  not_incomplete : IsIncomplete n → ⊥
  not_incomplete (unmarked none) = none (mark.Recovered r.end) r.ranges r.mark
  not_incomplete (under_way session begun) = recovered_not_under_way n r.end session r.mark begun
  not_incomplete (numbered other begun) = recovered_not_numbered n r.end other r.mark begun
  not_incomplete (unplaced other is) = recovered_not_staged n r.end other r.mark is

  left_holds : HoldsCopy n rows position
  left_holds = record {
    marked = record { end = r.end; ranges = r.ranges; after = position_is; mark = inr r.mark };
    recovers = left_again;
    sound = λ s p why cause. not_both n cause.0 r.end cause.1 r.mark;
    complete = not_incomplete;
  }

pub holds_again : (m n : DiskImage) (numbers : Recovered) (rows : Rows) (position : ℕ) → HoldsCopy m rows position → numbers.position < 2 ^ 64 → Answers m n numbers → HoldsCopy n rows position
holds_again m n numbers rows position holds fits answers = left_holds n numbers rows position (holds.recovers n numbers fits answers)

pub lists_copy : (m n : DiskImage) (numbers : Recovered) (rows : Rows) (position : ℕ) (list : List Row) → HoldsCopy m rows position → numbers.position < 2 ^ 64 → Answers m n numbers → ListsRows n list → list ≡ rows_in rows
lists_copy m n numbers rows position list holds fits answers lists =
    let r = holds.recovers n numbers fits answers in
    let found = lists.rows r.quiet in
    found.2 ∙ ap rows_in (shown_map (page_of (image_of n)) found.0 rows found.1 r.has.here r.has.there)
