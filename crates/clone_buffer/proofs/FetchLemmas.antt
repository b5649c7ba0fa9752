-- A buffer stays kept, whatever a fetch does.
use Rattle.std.proofs.Common.{◌≡◌, ◌<◌, ◌^◌, ◌&&◌, ℕ, Bool, true, false, List, not, set, refl, sym, ap, subst, ◌∙◌, Option, Some, None, Ok, Err, Result, IsSome, IsTrue, is_some, MatchOption}
use Rattle.clone_buffer.proofs.Common.{false≢true, get_or-set_same, DiskImage, ForTold, GivesQuiet, Image, replayed, ends, Frame, PageName, FetchRefusal, no_frame, frame_at, name_in, holder, touched, next_use, Frames, IsPool, IsFrameFor, used, State, Buffered, Shows, Beside, frame_in, frame_of, IsKeptPage, IsKept}
use Rattle.std.proofs.lemmas.Bool.{and_from}
use Rattle.std.proofs.lemmas.Slice.Eq.{bytes_eq-Decides}
use Rattle.clone_image.specs.Image.{page_of}
use Rattle.clone_pool.specs.declared.frame.Flush.TheVariants as flush
use Rattle.clone_pool.specs.declared.pool.FetchRefusal.TheVariants.{PoolFull, DiskFault}
use Rattle.clone_pool.specs.Frames.{is_free, left_in, filled, emptied}
use Rattle.clone_pool.proofs.ClaimLemmas.{left_holds_none}
use Rattle.clone_pool.specs.Pool.{Fills, Fetches, Misses}
use Rattle.clone_buffer.specs.ShadowState.{is_page}
use Rattle.clone_buffer.specs.Keeping.{Stands}
use Rattle.clone_buffer.proofs.PageLemmas.{like_page, lost_page, read_bytes, read_page}
use Rattle.clone_buffer.proofs.FrameLemmas.{some_of, holder_name, some_name, no_name, none_some, counted, Becomes, set_becomes, moved, held_on}
use Rattle.clone_buffer.proofs.ShownLemmas.{stands_there, shown_there}

clean_goes : (a : Bool) (o : Option ℕ) → (a && not (is_some o)) ≡ true → o ≡ None
clean_goes true None go = refl
clean_goes true (Some x) go = absurd (false≢true go)
clean_goes false o go = absurd (false≢true go)

-- what makes way has no change and no flush
pub victim_clean : (v : Frames) (at : ℕ) → is_free (frame_at v.frames at) ≡ true → (frame_at v.frames at).oldest ≡ None
victim_clean v at go = clean_goes _ _ go

pub victim_idle : (v : Frames) (at : ℕ) → IsPool v → is_free (frame_at v.frames at) ≡ true → (frame_at v.frames at).flush ≡ flush.Idle
victim_idle v at p go = (p.frame at).clean (ap is_some (victim_clean v at go))

one_answer : (x y : ℕ) (r : Result ℕ FetchRefusal) → r ≡ Ok x → r ≡ Ok y → x ≡ y
one_answer x y r a b = cc

module _ (v : Buffered) (beside : Beside) (m : DiskImage) (new : Frames) (target : PageName) (p : IsPool v.pool) (q : IsPool new) (k : IsKept v beside m) where
  abbrev was : ℕ → Frame
  was at = frame_at v.pool.frames at

  abbrev Kept : ℕ → ℕ → Option Frame → Type 0
  Kept s n frame = IsKeptPage v.log beside m s n frame

  -- each page is kept in its frame
  abbrev AllKept : Type 0
  AllKept = (s n : ℕ) → Kept s n (frame_of new.frames s n)

  hit : (at : ℕ) → holder v.pool.frames target ≡ Some at → new ≡ used at v.pool → AllKept
  hit at held is s n =
      let f : Frame = touched (next_use v.pool.uses) (was at) in
      let to = set_becomes v.pool.frames new.frames at f (holder_name v.pool.frames target at held).0 (ap (λ (w : Frames). w.frames) is) in
      held_on v.pool new at p q f to (Kept s n) (Kept s n) (record { space = s; number = n }) refl (λ _ had. like_page v.log beside m s n (was at) (was at).pins (next_use v.pool.uses) had) (λ _ o had. had) (k.page s n)

  -- the page that makes way, if it has one
  pub makes_way : (at : ℕ) → is_free (was at) ≡ true → (s n : ℕ) → Kept s n (counted (was at)) → Kept s n None
  makes_way at go s n had = lost_page v.log beside m s n (was at) (victim_clean v.pool at go) (victim_idle v.pool at p go) had

  filled_page : (at : ℕ) → holder v.pool.frames target ≡ None → IsFrameFor target v.pool.frames at → Fills target at v.pool new → ends v.log < 2 ^ 64
      → page_of (replayed v.log) target.space target.number ≡ Some (frame_at new.frames at).page → GivesQuiet m target.space target.number (frame_at new.frames at).page → AllKept
  filled_page at none for fills small page quiet s n =
      moved v.pool new at p q f to (Kept s n) (Kept s n) (record { space = s; number = n })
      (λ had has _. absurd (none_some (holder v.pool.frames target) at none (p.once target at (had ∙ sym has))))
      (λ _ _ had. makes_way at free s n had) (λ _ has bare. here (some_name target (record { space = s; number = n }) has) bare) (λ _ o had. had) (k.page s n)
    where
      free : is_free (was at) ≡ true
      free = for.free

      f : Frame
      f = filled target fills.bytes (next_use v.pool.uses) (was at)

      to : Becomes v.pool.frames new.frames at f
      to = set_becomes v.pool.frames new.frames at f for.within fills.frames

      bytes : (frame_at new.frames at).page ≡ fills.bytes
      bytes = ap (λ (g : Frame). g.page) to.this

      here : target ≡ record { space = s; number = n } → Kept s n None → Kept s n (Some f)
      here same = subst (λ (w : PageName). Kept w.space w.number None → Kept w.space w.number (Some f)) same
          (read_page v.log beside m target.space target.number f (victim_clean v.pool at free) (victim_idle v.pool at p free)
          (stands_there v.log target.space target.number fills.bytes small (page ∙ ap Some bytes)) (subst (GivesQuiet m target.space target.number) bytes quiet))

  emptied_page : (at : ℕ) (bytes : List ℕ) → IsFrameFor target v.pool.frames at → new.frames ≡ set v.pool.frames at (emptied bytes (was at)) → AllKept
  emptied_page at bytes for is s n =
      moved v.pool new at p q (emptied bytes (was at)) (set_becomes v.pool.frames new.frames at (emptied bytes (was at)) for.within is) (Kept s n) (Kept s n) (record { space = s; number = n })
      (λ _ has _. absurd (empty has)) (λ _ _ had. makes_way at for.free s n had) (λ _ has _. absurd (empty has)) (λ _ o had. had) (k.page s n)
    where
      empty : name_in (left_in (was at).content) ≡ Some (record { space = s; number = n }) → ⊥
      empty has = no_name _ (sym (left_holds_none (was at).content) ∙ has)

  -- what a fetch leaves is kept
  pub kept_fetched : (result : Result ℕ FetchRefusal) → Fetches target v.pool new result → ends v.log < 2 ^ 64
      → ((at : ℕ) → result ≡ Ok at → page_of (replayed v.log) target.space target.number ≡ Some (frame_at new.frames at).page)
      → ((at : ℕ) → result ≡ Ok at → holder v.pool.frames target ≡ None → GivesQuiet m target.space target.number (frame_at new.frames at).page) → AllKept
  kept_fetched result f small page read = by (holder v.pool.frames target) refl f
    where
      misses : (r : Result ℕ FetchRefusal) → result ≡ r → holder v.pool.frames target ≡ None → Misses target v.pool new r → AllKept
      misses (Ok at) is none f = filled_page at none f.0 f.1 small (page at is) (read at is none)
      misses (Err (PoolFull frames)) is none f = λ s n. subst (λ (w : Frames). Kept s n (frame_of w.frames s n)) (sym f.2) (k.page s n)
      misses (Err DiskFault) is none f = emptied_page f.0 f.1.1.bytes f.1.0 f.1.1.frames

      by : (found : Option ℕ) → holder v.pool.frames target ≡ found → MatchOption found (Misses target v.pool new result) (λ at. (result ≡ Ok at) × (new ≡ used at v.pool)) → AllKept
      by None none f = misses result refl none f
      by (Some at) is f = hit at is f.1

  -- where the disk tells what it holds, what was fetched is the page that the log makes
  pub fetched_page : (result : Result ℕ FetchRefusal) (at : ℕ) → Fetches target v.pool new result → ends v.log < 2 ^ 64 → IsSome (page_of (replayed v.log) target.space target.number) → Shows (replayed v.log) v.pool.frames
      → result ≡ Ok at → (holder v.pool.frames target ≡ None → GivesQuiet m target.space target.number (frame_at new.frames at).page) → page_of (replayed v.log) target.space target.number ≡ Some (frame_at new.frames at).page
  fetched_page result at f small there shows ok read = by (holder v.pool.frames target) refl f
    where
      image : Image
      image = replayed v.log

      by : (found : Option ℕ) → holder v.pool.frames target ≡ found → MatchOption found (Misses target v.pool new result) (λ at. (result ≡ Ok at) × (new ≡ used at v.pool)) → page_of image target.space target.number ≡ Some (frame_at new.frames at).page
      by (Some b) is f =
          let name = holder_name v.pool.frames target b is in
          let page : (frame_at new.frames b).page ≡ (was b).page = ap (λ (w : Frames). (frame_at w.frames b).page) f.1 ∙ ap (λ (g : Frame). g.page) (get_or-set_same v.pool.frames b (touched (next_use v.pool.uses) (was b)) no_frame name.0) in
          shown_there image (was b).page target (was b).content (shows b) name.1 there ∙ ap Some (sym page) ∙ ap (λ (k : ℕ). Some (frame_at new.frames k).page) (one_answer b at result f.0 ok)
      by None none f =
          let page = some_of (page_of image target.space target.number) there in
          let bare : Kept target.space target.number None = subst (λ (o : Option ℕ). Kept target.space target.number (frame_in v.pool.frames o)) none (k.page target.space target.number) in
          page.1 ∙ ap Some (sym (read_bytes v.log beside m target.space target.number page.0 (frame_at new.frames at).page bare (stands_there v.log target.space target.number page.0 small page.1) (read none)))

-- what was read keeps the flag where it is the page
is_read : (bytes : List ℕ) (found : Option (List ℕ)) → found ≡ Some bytes → IsTrue (is_page bytes found)
is_read bytes found is = subst (λ (f : Option (List ℕ)). IsTrue (is_page bytes f)) (sym is) ((bytes_eq-Decides bytes bytes).1 refl)

module _ (v : Buffered) (beside : Beside) (told now : Option DiskImage) (new : Frames) (result : Result ℕ FetchRefusal) (space number : ℕ) where
  abbrev goal : PageName
  goal = record { space = space; number = number }

  -- a buffer over a disk stands after a fetch
  pub stands_fetched : (at : ℕ) (bytes : List ℕ) (a : State) → IsPool v.pool → IsPool new → Fetches goal v.pool new result → ends v.log < 2 ^ 64 → (IsTrue v.right → IsSome (page_of (replayed v.log) space number)) → (IsTrue v.right → Shows (replayed v.log) v.pool.frames) → result ≡ Ok at → now ≡ told
      → (holder v.pool.frames goal ≡ None → ForTold told (λ m. GivesQuiet m space number (frame_at new.frames at).page)) → bytes ≡ (frame_at new.frames at).page
      → a ≡ record { log = v.log; right = v.right && is_page bytes (page_of (replayed v.log) space number) } → Stands v beside told → Stands (record { log = a.log; right = a.right; ring = v.ring; pool = new }) beside now
  stands_fetched at bytes a p q f small there shows ok same read is_bytes is st = subst (Stands _ beside) (sym same) (by told read st)
    where
      by : (t : Option DiskImage) → (holder v.pool.frames goal ≡ None → ForTold t (λ m. GivesQuiet m space number (frame_at new.frames at).page)) → Stands v beside t → Stands (record { log = a.log; right = a.right; ring = v.ring; pool = new }) beside t
      by None read st = tt
      by (Some m) read k =
          let page : page_of (replayed v.log) space number ≡ Some (frame_at new.frames at).page = fetched_page v beside m new goal p q k result at f small (there k.right) (shows k.right) ok read in
          let right : IsTrue (v.right && is_page bytes (page_of (replayed v.log) space number)) = and_from v.right _ k.right (is_read bytes _ (page ∙ ap Some (sym is_bytes))) in
          let P : ℕ → Type 0 = λ b. page_of (replayed v.log) space number ≡ Some (frame_at new.frames b).page in
          let Q : ℕ → Type 0 = λ b. GivesQuiet m space number (frame_at new.frames b).page in
          subst (λ (t : State). IsKept (record { log = t.log; right = t.right; ring = v.ring; pool = new }) beside m) (sym is)
          (record { right = right; page = kept_fetched v beside m new goal p q k result f small (λ b answer. subst P (one_answer at b result ok answer) page) (λ b answer miss. subst Q (one_answer at b result ok answer) (read miss)) })

  -- and where it is refused
  pub stands_refused : (e : FetchRefusal) → IsPool v.pool → IsPool new → Fetches goal v.pool new result → ends v.log < 2 ^ 64 → result ≡ Err e → now ≡ told → Stands v beside told → Stands (record { log = v.log; right = v.right; ring = v.ring; pool = new }) beside now
  stands_refused e p q f small err same st = subst (Stands _ beside) (sym same) (by told st)
    where
      no_answer : (b : ℕ) → result ≡ Ok b → ⊥
      no_answer b answer = let both : Err e ≡ Ok b = sym err ∙ answer in absurd (cc)

      by : (t : Option DiskImage) → Stands v beside t → Stands (record { log = v.log; right = v.right; ring = v.ring; pool = new }) beside t
      by None st = tt
      by (Some m) k = record { right = k.right; page = kept_fetched v beside m new goal p q k result f small (λ b answer. absurd (no_answer b answer)) (λ b answer miss. absurd (no_answer b answer)) }
