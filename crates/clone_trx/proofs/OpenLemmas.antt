-- A buffer without pages, whose first frame is taken for the system page.
use Rattle.std.proofs.lemmas.Bool.{cases_eq, cases_lt}
use Rattle.std.proofs.lemmas.List.{length-replicate, length-set}
use Rattle.std.specs.FinMap as finite
use Rattle.clone_pool.specs.Frames.{changed, touched}
use Rattle.clone_buffer.specs.Keeping.{IsKept}
use Rattle.clone_buffer.specs.Writing.{after_records, changed_at, named_frame}
use Rattle.clone_trx.proofs.Common.{◌≡◌, ◌≢◌, ◌<◌, ◌≤◌, ◌⊎◌, inl, inr, ℕ, true, List, [], ◌∷◌, length, set, replicate, refl, sym, ap, subst, ◌∙◌, arith, Option, Some, None, Ok, Result, MatchOption, IsTrue, is_some, nat_cmp, get_or-set_same, get_or-set_other, get_or_past, get_or-replicate, DiskImage, blank, System, Init, page_of-made, replayed, redone, Content, Fresh, Frame, PageName, FetchRefusal, no_frame, frame_at, holder, name_of, freshened, next_use, pinned, unpinned, Frames, Freshens, TakesFrame, IsHolder, used, with_frame, holder_name, no_name, Buffered, IsBuffer, Shown, image_of, Stands, at_rest, frame_of, Creates, any_names, get-empty, Record, Image, opening_records, system_size, AreLoose, system_page}
use Rattle.clone_trx.proofs.CreateLemmas.{unheld}
use Rattle.clone_trx.proofs.NewSpaceLemmas.{off_log}
use Rattle.clone_trx.proofs.FramePinLemmas.{SamePins, pinned_within, let_go_pins}

-- the one frame that was taken is pinned once, for this new page
pub record IsTaken (page : PageName) (at : ℕ) (frames : List Frame) : Type 0 where
  pub named : (other : ℕ) (name : PageName) → (frame_at frames other).content ≡ Fresh name → page ≡ name
  pub own : (frame_at frames at).pins ≡ 1
  pub others : (other : ℕ) → other ≢ at → (frame_at frames other).pins ≡ 0

unused_at : (n at : ℕ) → frame_at (replicate n no_frame) at ≡ no_frame
unused_at n at = by (cases_lt at n)
  where
    by : (at < n) ⊎ (n ≤ at) → frame_at (replicate n no_frame) at ≡ no_frame
    by (inl low) = get_or-replicate n at no_frame no_frame low
    by (inr past) = get_or_past (replicate n no_frame) at no_frame (omega (arith, past, length-replicate n no_frame))

fresh_is : (a b : PageName) → Fresh a ≡ Fresh b → a ≡ b
fresh_is a b same = cc

not_fresh : (name : PageName) → no_frame.content ≡ Fresh name → ⊥
not_fresh name is = cc

set_taken : (n at : ℕ) (page : PageName) (f : Frame) → at < length (replicate n no_frame) → f.content ≡ Fresh page → f.pins ≡ 1 → IsTaken page at (set (replicate n no_frame) at f)
set_taken n at page f low content one = record {
  named = λ other name is. named other name is (cases_eq other at);
  own = ap (λ (g : Frame). g.pins) here ∙ one;
  others = λ other apart. ap (λ (g : Frame). g.pins) (elsewhere other apart);
}
  where
    here : frame_at (set (replicate n no_frame) at f) at ≡ f
    here = get_or-set_same (replicate n no_frame) at f no_frame low

    elsewhere : (other : ℕ) → other ≢ at → frame_at (set (replicate n no_frame) at f) other ≡ no_frame
    elsewhere other apart = get_or-set_other (replicate n no_frame) at other f no_frame apart ∙ unused_at n other

    named : (other : ℕ) (name : PageName) → (frame_at (set (replicate n no_frame) at f) other).content ≡ Fresh name → (other ≡ at) ⊎ (other ≢ at) → page ≡ name
    named other name is (inl same) = fresh_is page name (sym content ∙ ap (λ (g : Frame). g.content) (sym here) ∙ ap (λ (x : ℕ). (frame_at (set (replicate n no_frame) at f) x).content) (sym same) ∙ is)
    named other name is (inr apart) = absurd (not_fresh name (sym (ap (λ (g : Frame). g.content) (elsewhere other apart)) ∙ is))

pub is_taken : (n at : ℕ) (page : PageName) (old new : Frames) → old.frames ≡ replicate n no_frame → Freshens page old new (Ok at) → IsTaken page at new.frames
is_taken n at page old new first taken = by (holder old.frames page) refl taken
  where
    by : (o : Option ℕ) → holder old.frames page ≡ o → MatchOption o (TakesFrame page old new (Ok at)) (λ b. (◌≡◌ {A = Result ℕ FetchRefusal} (Ok at) (Ok b)) × (new ≡ used b (with_frame b pinned old))) → IsTaken page at new.frames
    by None is t =
        let f : Frame = freshened page (next_use old.uses) (frame_at old.frames at) in
        let low : at < length (replicate n no_frame) = subst (λ (fs : List Frame). at < length fs) first t.0.within in
        subst (IsTaken page at) (ap (λ (fs : List Frame). set fs at f) (sym first) ∙ sym (ap (λ (v : Frames). v.frames) t.1)) (set_taken n at page f low refl refl)
    by (Some b) is t = absurd (no_name page (sym (ap name_of (ap (λ (fs : List Frame). frame_at fs b) first ∙ unused_at n b)) ∙ (holder_name old.frames page b is).1))

-- no frame is pinned once the pin is taken away
pub left_loose : (page : PageName) (at : ℕ) (v w : Frames) → IsTaken page at v.frames → SamePins v.frames w.frames → AreLoose (with_frame at unpinned w).frames
left_loose page at v w taken same other = by (cases_eq other at)
  where
    g : Frame
    g = frame_at w.frames at

    one : g.pins ≡ 1
    one = same.at at ∙ taken.own

    by : (other ≡ at) ⊎ (other ≢ at) → (frame_at (with_frame at unpinned w).frames other).pins ≡ 0
    by (inl is) = subst (λ (x : ℕ). (frame_at (with_frame at unpinned w).frames x).pins ≡ 0) (sym is)
        (ap (λ (h : Frame). h.pins) (get_or-set_same w.frames at (unpinned g) no_frame (pinned_within w.frames at 0 one)) ∙ let_go_pins g 0 one)
    by (inr apart) = ap (λ (h : Frame). h.pins) (get_or-set_other w.frames at other (unpinned g) no_frame apart) ∙ same.at other ∙ taken.others other apart

-- the records of the opening make the system space
pub opens : (v : Buffered) (at : ℕ) → IsBuffer v → v.log ≡ [] → IsTaken (system_page 0) at v.pool.frames → IsHolder (system_page 0) v.pool.frames at → IsTrue v.right → Creates v opening_records
opens v at b none taken holds right =
    let image : Image = image_of v in
    let absent : finite.get image 0 ≡ None = ap (λ (log : List (List Record)). finite.get (replayed log) 0) none ∙ get-empty nat_cmp 0 in
    record {
      absent = λ _. absent;
      edits = (tt, tt);
      there = λ _. (ap is_some (page_of-made image 0 system_size 0 (omega arith)), tt);
      unheld = λ other name is. unheld image 0 name (frame_at v.pool.frames other).page absent (subst (λ (content : Content). Shown image content (frame_at v.pool.frames other).page) is (b.shows right other));
      framed = (ap is_some holds.holder, tt);
      named = λ other name is same low. subst (λ (p : PageName). any_names p (Init 0 0 System ∷ []) ≡ true) (taken.named other name is) refl;
    }

-- over an empty log a buffer stands whatever the disk holds
pub stands_first : (v : Buffered) (told : Option DiskImage) → v.log ≡ [] → IsKept v at_rest blank → Stands v at_rest told
stands_first v None none k = tt
stands_first v (Some m) none k = record {
  right = k.right;
  page = λ space number. off_log v.log at_rest blank m space number (frame_of v.pool.frames space number) (ap (redone space number) none) (k.page space number);
}

-- ---- how many frames there are

records_frames : (rs : List Record) (start end : ℕ) (v : Frames) → length (after_records rs start end v).frames ≡ length v.frames
records_frames [] start end v = refl
records_frames (r ∷ rs) start end v = records_frames rs start end (changed_at (named_frame v.frames r) r start end v) ∙ one (named_frame v.frames r)
  where
    one : (o : Option ℕ) → length (changed_at o r start end v).frames ≡ length v.frames
    one None = refl
    one (Some b) = length-set v.frames b (changed r start end (frame_at v.frames b))

fresh_frames : (page : PageName) (old new : Frames) (at : ℕ) → Freshens page old new (Ok at) → length new.frames ≡ length old.frames
fresh_frames page old new at fresh = by (holder old.frames page) fresh
  where
    by : (o : Option ℕ) → MatchOption o (TakesFrame page old new (Ok at)) (λ b. (◌≡◌ {A = Result ℕ FetchRefusal} (Ok at) (Ok b)) × (new ≡ used b (with_frame b pinned old))) → length new.frames ≡ length old.frames
    by None t = ap (λ (v : Frames). length v.frames) t.1 ∙ length-set old.frames at (freshened page (next_use old.uses) (frame_at old.frames at))
    by (Some b) t =
        let v : Frames = with_frame b pinned old in
        ap (λ (w : Frames). length w.frames) t.1 ∙ length-set v.frames b (touched (next_use v.uses) (frame_at v.frames b)) ∙ length-set old.frames b (pinned (frame_at old.frames b))

-- as many as a pool was made with
pub opened_frames : (count at start end : ℕ) (page : PageName) (rs : List Record) (first old new : Frames) → first.frames ≡ replicate count no_frame → Freshens page first old (Ok at) → new ≡ after_records rs start end old → length (with_frame at unpinned new).frames ≡ count
opened_frames count at start end page rs first old new begun fresh written =
    length-set new.frames at (unpinned (frame_at new.frames at)) ∙ ap (λ (v : Frames). length v.frames) written ∙ records_frames rs start end old ∙ fresh_frames page first old at fresh ∙ ap length begun ∙ length-replicate count no_frame
