-- A buffer once a mini-transaction was written.
use Rattle.std.proofs.Common.{◌≡◌, ◌<◌, ◌≤◌, ◌+◌, ◌-◌, ◌^◌, ℕ, Bool, true, false, List, [], ◌∷◌, ◌++◌, length, drop, refl, sym, ap, subst, ◌∙◌, arith, Option, Some, None, Ok, Err, Result, IsSome, IsTrue, if◌then◌else◌, unwrap_or}
use Rattle.clone_buffer.proofs.Common.{Suits, HasSpace, length-append, AllByRecursion, DiskImage, Record, spelling, log_of, Image, EditsPages, first_lsn, replayed, IsSpelled, stands, redone, ends, touches, resets, suits_unnamed, free_in, LogFull, Frame, PageName, frame_at, holder, noted, Frames, IsPool, Buffered, IsBuffer, Shown, Shows, Beside, frame_in, frame_of, IsKeptPage, IsKept, after_records, HasFrame, IsOnPage, any_names, written, Writes}
use Rattle.std.proofs.lemmas.List.{length-drop, drop-append-le}
use Rattle.std.specs.FinMap as finite
use Rattle.clone_image.specs.Image.{page_of}
use Rattle.clone_image.specs.Image as image_is
use Rattle.clone_image.specs.Replay.{end_of}
use Rattle.clone_base.proofs.Lists.{All-push}
use Rattle.clone_image.proofs.Logs.{log_of-push, after_log-push}
use Rattle.clone_law.specs.Touches.{Touch, applied}
use Rattle.clone_law.proofs.AppendLemmas.{appended, suits_there}
use Rattle.clone_ring.specs.Window as ring
use Rattle.clone_buffer.specs.Keeping.{Stands}
use Rattle.clone_buffer.proofs.PageLemmas.{passed_page, changed_page}
use Rattle.clone_buffer.proofs.FrameLemmas.{some_of, holder_name, counted, counted_state}
use Rattle.clone_buffer.proofs.ShownLemmas.{stands_there, shown_held}
use Rattle.clone_buffer.proofs.MoveLemmas.{stands_by}
use Rattle.clone_buffer.proofs.WriteLemmas.{holder-after, frame-after, changed_by, changed_is, named_held, shows_records, of_named, ready_there, applied_passing, unnamed_all, passes_all, resets_none}

-- the pages that a log makes with one mini-transaction more
pub replayed-push : (log : List (List Record)) (records : List Record) (end : ℕ) → end ≡ ends log + length (spelling records) → replayed (log ++ records ∷ []) ≡ image_is.after_records end (replayed log) records
replayed-push log records end is = after_log-push first_lsn finite.empty log records end is

-- the log's end
ends-push : (log : List (List Record)) (records : List Record) → ends (log ++ records ∷ []) ≡ ends log + length (spelling records)
ends-push log records = omega (arith, ap length (log_of-push log records), length-append (log_of log) (spelling records))

-- the invariant of a buffer, where the frames show their pages
pub IsBuffer-written : (v : Buffered) (records : List Record) → IsBuffer v → IsSpelled records → length (spelling records) ≤ free_in v.ring → (IsTrue v.right → Shows (replayed (v.log ++ records ∷ [])) (written records v).pool.frames) → IsBuffer (written records v)
IsBuffer-written v records b spelled room shows = record {
  bytes = ap (λ xs. xs ++ spelling records) b.bytes ∙ sym (drop-append-le (v.ring.floor - first_lsn) (log_of v.log) (spelling records) within) ∙ ap (drop (v.ring.floor - first_lsn)) (sym (log_of-push v.log records));
  end = omega (arith, b.end, ends-push v.log records, length-append v.ring.bytes (spelling records));
  below = omega (arith, b.end, room, ends-push v.log records);
  spelled = All-push IsSpelled v.log records b.spelled spelled;
  shows = shows;
}
  where
    within : v.ring.floor - first_lsn ≤ length (log_of v.log)
    within = omega (arith, b.end, ap length b.bytes, length-drop (v.ring.floor - first_lsn) (log_of v.log))

-- they do where each record is on a page that is there
pub shows_written : (v : Buffered) (records : List Record) → IsPool v.pool → end_of (ends v.log) records ≡ ring.end_of v.ring + length (spelling records) → AllByRecursion EditsPages records → AllByRecursion (IsOnPage (replayed v.log)) records → Shows (replayed v.log) v.pool.frames → Shows (replayed (v.log ++ records ∷ [])) (written records v).pool.frames
shows_written v records p end edits on shows =
    subst (λ (i : Image). Shows i (written records v).pool.frames) (sym (replayed-push v.log records _ (sym end)))
    (shows_records records (replayed v.log) v.pool (ring.end_of v.ring) (ring.end_of v.ring + length (spelling records)) edits p.once (λ at. ready_there (replayed v.log) records (frame_at v.pool.frames at).content (frame_at v.pool.frames at).page on (shows at)))

-- the page is kept, in its frame if it has one
abbrev pub KeptAt : Buffered → Beside → DiskImage → ℕ → ℕ → Type 0
KeptAt v beside m space number = IsKeptPage v.log beside m space number (frame_of v.pool.frames space number)

-- a page that a record of a mini-transaction named: the frame that it has then
pub record Renewed (v w : Buffered) (space number : ℕ) (f g : Frame) : Type 0 where
  pub framed : frame_of w.pool.frames space number ≡ Some g
  pub page : redone space number w.log ≡ stands g.page
  pub oldest : g.oldest ≡ Some (unwrap_or f.oldest (ends v.log))
  pub flush : g.flush ≡ noted (ends v.log) f.flush

module _ (v : Buffered) (beside : Beside) (m : DiskImage) (records : List Record) (p : IsPool v.pool) (b : IsBuffer v) (after : IsBuffer (written records v)) (right : IsTrue v.right) where
  abbrev start : ℕ
  start = ring.end_of v.ring

  abbrev end : ℕ
  end = ring.end_of v.ring + length (spelling records)

  abbrev new : Frames
  new = after_records records start end v.pool

  abbrev longer : List (List Record)
  longer = v.log ++ records ∷ []

  -- what the page sees of the records
  abbrev seen : ℕ → ℕ → List Touch
  seen space number = touches (end_of (ends v.log) records) space number records

  pub small : ends v.log + length (spelling records) < 2 ^ 64
  small = omega (arith, after.below, ends-push v.log records)

  -- a frame that no record names is as before
  pub frame_of-passed : (space number : ℕ) → any_names (record { space = space; number = number }) records ≡ false → frame_of new.frames space number ≡ frame_of v.pool.frames space number
  frame_of-passed space number miss =
      ap (frame_in new.frames) (holder-after records start end v.pool (record { space = space; number = number })) ∙ same (holder v.pool.frames (record { space = space; number = number })) refl
    where
      same : (o : Option ℕ) → holder v.pool.frames (record { space = space; number = number }) ≡ o → frame_in new.frames o ≡ frame_in v.pool.frames o
      same None is = refl
      same (Some at) is = ap counted (frame-after records start end v.pool (record { space = space; number = number }) at is ∙ (changed_is (record { space = space; number = number }) records start end (frame_at v.pool.frames at)).0 miss)

  -- a page that no record names, and that they leave as it is
  pub passed : (space number : ℕ) → any_names (record { space = space; number = number }) records ≡ false → applied (redone space number v.log) (seen space number) ≡ redone space number v.log → KeptAt v beside m space number → KeptAt (written records v) beside m space number
  passed space number miss leaves kept =
      let suits = suits_unnamed space number v.log records small (unnamed_all (end_of (ends v.log) records) space number records miss) in
      subst (IsKeptPage longer beside m space number) (sym (frame_of-passed space number miss))
      (passed_page v.log beside m space number records (frame_of v.pool.frames space number) suits (appended space number v.log records kept.rule.engine.fits suits ∙ leaves) kept)

  -- the frame of a page that a record names, and the page
  pub renewed_frame : (space number at : ℕ) → holder v.pool.frames (record { space = space; number = number }) ≡ Some at → any_names (record { space = space; number = number }) records ≡ true
      → Renewed v (written records v) space number (frame_at v.pool.frames at) (changed_by (record { space = space; number = number }) records start end (frame_at v.pool.frames at))
  renewed_frame space number at held hits =
      let page : PageName = record { space = space; number = number } in
      let f : Frame = frame_at v.pool.frames at in
      let g : Frame = changed_by page records start end f in
      let stay = named_held page records start end f hits in
      let is = (changed_is page records start end f).1 hits in
      let becomes : frame_at new.frames at ≡ g = frame-after records start end v.pool page at held in
      let shows : Shown (replayed longer) g.content g.page = subst (λ (h : Frame). Shown (replayed longer) h.content h.page) becomes (after.shows right at) in
      let shown : page_of (replayed longer) space number ≡ Some g.page = shown_held (replayed longer) g.page page g.content shows (stay.1 ∙ (holder_name v.pool.frames page at held).1) stay.0 in
      record {
        framed = ap (frame_in new.frames) (holder-after records start end v.pool page ∙ held) ∙ ap counted becomes ∙ ap (λ (t : Bool). if t then None else Some g) stay.0;
        page = stands_there longer space number g.page (omega (arith, after.below)) shown;
        oldest = ap (λ (h : Frame). h.oldest) is ∙ ap (λ (s : ℕ). Some (unwrap_or f.oldest s)) b.end;
        flush = ap (λ (h : Frame). h.flush) is ∙ ap (λ (s : ℕ). noted s f.flush) b.end;
      }

  -- a page that a record names, in a space that is there
  pub renewed : (space number : ℕ) → any_names (record { space = space; number = number }) records ≡ true → IsSome (holder v.pool.frames (record { space = space; number = number })) → Suits space number v.log records → HasSpace (redone space number v.log)
      → KeptAt v beside m space number → KeptAt (written records v) beside m space number
  renewed space number hits framed suits has kept =
      let held = some_of (holder v.pool.frames (record { space = space; number = number })) framed in
      let f : Frame = frame_at v.pool.frames held.0 in
      let is = renewed_frame space number held.0 held.1 hits in
      let state = counted_state v.pool.uses f (p.frame held.0) in
      subst (IsKeptPage longer beside m space number) (sym is.framed)
      (changed_page v.log beside m space number records (counted f) _ suits has is.page
      (is.oldest ∙ ap (λ (o : Option ℕ). Some (unwrap_or o (ends v.log))) (sym state.0)) (is.flush ∙ ap (noted (ends v.log)) (sym state.1))
      (subst (IsKeptPage v.log beside m space number) (ap (frame_in v.pool.frames) held.1) kept))

  -- a page that is there
  pub renewed_there : (space number : ℕ) → any_names (record { space = space; number = number }) records ≡ true → IsSome (holder v.pool.frames (record { space = space; number = number })) → resets (seen space number) ≡ false → IsSome (page_of (replayed v.log) space number)
      → KeptAt v beside m space number → KeptAt (written records v) beside m space number
  renewed_there space number hits framed calm on kept =
      let there = some_of (page_of (replayed v.log) space number) on in
      let stood = stands_there v.log space number there.0 (omega (arith, small)) there.1 in
      renewed space number hits framed (suits_there space number v.log records there.0 small stood calm) (subst HasSpace (sym stood) tt) kept

  -- records that change pages that are there
  pub kept_written : AllByRecursion EditsPages records → AllByRecursion (HasFrame v.pool.frames) records → AllByRecursion (IsOnPage (replayed v.log)) records → IsKept v beside m → IsKept (written records v) beside m
  kept_written edits framed there k = record { right = k.right; page = λ space number. by space number (any_names (record { space = space; number = number }) records) refl }
    where
      by : (space number : ℕ) (t : Bool) → any_names (record { space = space; number = number }) records ≡ t → KeptAt (written records v) beside m space number
      by space number false is = passed space number is (applied_passing (redone space number v.log) (seen space number) (passes_all (end_of (ends v.log) records) space number records edits is)) (k.page space number)
      by space number true is =
          renewed_there space number is (of_named (λ n. IsSome (holder v.pool.frames n)) (record { space = space; number = number }) records is framed) (resets_none (end_of (ends v.log) records) space number records edits)
          (of_named (λ n. IsSome (page_of (replayed v.log) n.space n.number)) (record { space = space; number = number }) records is there) (k.page space number)

-- the parts of a buffer once a mini-transaction was written
pub written_is : (v w : Buffered) (records : List Record) (text : List ℕ) (start end : ℕ) → text ≡ spelling records → w.log ≡ v.log ++ records ∷ [] → w.right ≡ v.right → w.ring ≡ ring.appended text v.ring → start ≡ ring.end_of v.ring → end ≡ ring.end_of w.ring
    → w.pool ≡ after_records records start end v.pool → w ≡ written records v
written_is v w records text start end spelled log right window from to pool =
    let kept : w.ring ≡ ring.appended (spelling records) v.ring = window ∙ ap (λ xs. ring.appended xs v.ring) spelled in
    let behind : end ≡ ring.end_of v.ring + length (spelling records) = to ∙ ap ring.end_of kept ∙ omega (arith, length-append v.ring.bytes (spelling records)) in
    let frames : w.pool ≡ after_records records (ring.end_of v.ring) (ring.end_of v.ring + length (spelling records)) v.pool = pool ∙ (λ i. after_records records (from i) (behind i) v.pool) in
    λ i. record { log = log i; right = right i; ring = kept i; pool = frames i }

-- a buffer over a disk stands, whatever a write answers, if what is written then is kept
pub stands_result : (v w : Buffered) (beside : Beside) (told : Option DiskImage) (records : List Record) (result : Result ℕ LogFull) → Writes records v w result
    → (length (spelling records) ≤ free_in v.ring → Stands v beside told → Stands (written records v) beside told) → Stands v beside told → Stands w beside told
stands_result v w beside told records (Ok lsn) writes kept st = subst (λ (u : Buffered). Stands u beside told) (sym writes.1) (kept writes.0 st)
stands_result v w beside told records (Err full) writes kept st = subst (λ (u : Buffered). Stands u beside told) (sym writes.2) st

pub stands_written : (v w : Buffered) (beside : Beside) (told : Option DiskImage) (records : List Record) (result : Result ℕ LogFull) → IsPool v.pool → IsBuffer v → IsSpelled records → AllByRecursion EditsPages records → AllByRecursion (HasFrame v.pool.frames) records
    → (IsTrue v.right → AllByRecursion (IsOnPage (replayed v.log)) records) → Writes records v w result → Stands v beside told → Stands w beside told
stands_written v w beside told records result p b spelled edits frames there writes st = stands_result v w beside told records result writes (λ room. stands_by v (written records v) beside told (kept room)) st
  where
    kept : length (spelling records) ≤ free_in v.ring → (m : DiskImage) → IsKept v beside m → IsKept (written records v) beside m
    kept room m k =
        let after = IsBuffer-written v records b spelled room (λ t. shows_written v records p (sym (ap (λ n. n + length (spelling records)) b.end)) edits (there t) (b.shows t)) in
        kept_written v beside m records p b after k.right edits frames (there k.right) k
