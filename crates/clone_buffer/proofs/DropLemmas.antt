-- A mini-transaction that drops a space, once the frames of its pages were given up.
use Rattle.std.proofs.Common.{◌≡◌, ◌≢◌, ◌<◌, ◌≤◌, ◌&&◌, ◌⊎◌, inl, inr, ◌++◌, ℕ, Bool, true, false, List, [], ◌∷◌, length, refl, sym, ap, subst, ◌∙◌, arith, Option, Some, None, Result, Ok, Err, nat_lt, IsSome, IfSome, IsTrue, if◌then◌else◌}
use Rattle.clone_buffer.proofs.Common.{Writes, cases_eq, cases_lt, false≢true, true≢false, AllByRecursion, DiskImage, Record, spelling, Image, replayed, IsSpelled, no_space, redone, ends, touches, passes, free_in, LogFull, Frame, Content, Unused, Fresh, Loading, PageName, frame_at, claim_in, claim_of, is_begun, holder, IsPool, Buffered, IsBuffer, Shown, Shows, Beside, frame_of, IsKeptPage, IsKept, HasFrame, IsOnPage, any_names, written}
use Rattle.std.proofs.lemmas.Bool.{eq-eqb, lt-ltb}
use Rattle.clone_mtr.specs.declared.record.Record.TheVariants.{Drop}
use Rattle.clone_image.specs.Image.{page_of}
use Rattle.clone_image.specs.Replay.{end_of}
use Rattle.clone_law.specs.Touches.{becomes, applied}
use Rattle.clone_law.proofs.AppendLemmas.{appended, suits_unnamed}
use Rattle.clone_pool.specs.declared.frame.Content.TheVariants.{Held}
use Rattle.clone_pool.specs.Frames.{page_changed, discarded}
use Rattle.clone_buffer.specs.OnePage.{NoFilesOf, NoFlightsOf, flush_in}
use Rattle.clone_buffer.specs.Keeping.{Stands}
use Rattle.clone_buffer.specs.Dropping.{is_page_below, given_up, without_pages, DropsSpace, WritesWithout}
use Rattle.clone_buffer.proofs.MoveLemmas.{stands_by}
use Rattle.clone_buffer.proofs.PageLemmas.{dropped_page}
use Rattle.clone_buffer.proofs.FrameLemmas.{some_of}
use Rattle.clone_buffer.proofs.ShownLemmas.{frame_of_absent}
use Rattle.clone_buffer.proofs.WriteLemmas.{of_named, applied_passing, unnamed_all, passes_all, ready_there}
use Rattle.clone_buffer.proofs.WrittenLemmas.{KeptAt, small, frame_of-passed, IsBuffer-written}
use Rattle.clone_buffer.proofs.AroundLemmas.{other_space, shows_around, elsewhere}
use Rattle.clone_buffer.proofs.ImageLemmas.{removed, gone, still_there, past_count}
use Rattle.clone_buffer.proofs.GivenLemmas.{freed_at, shown_freed, holder_left, frame_left}

-- a buffer is one without the pages
pub buffer_without : (space pages : ℕ) (v : Buffered) → IsBuffer v → IsBuffer (without_pages space pages v)
buffer_without space pages v b = record {
  bytes = b.bytes;
  end = b.end;
  below = b.below;
  spelled = b.spelled;
  shows = λ right at. subst (λ (f : Frame). Shown (replayed v.log) f.content f.page) (sym (freed_at space pages v.pool at)) (shown_freed space pages (replayed v.log) (frame_at v.pool.frames at) (b.shows right at));
}

module _ (space pages : ℕ) (v : Buffered) (records : List Record) (d : DropsSpace v space pages records) (p : IsPool v.pool) (q : IsPool (given_up space pages v.pool)) (b : IsBuffer v) where
  abbrev image : Image
  image = replayed v.log

  abbrev u : Buffered
  u = without_pages space pages v

  abbrev all : List Record
  all = Drop space ∷ d.rest

  -- a page of the space is one of those that were given up
  below : (name : PageName) (bytes : List ℕ) → page_of image name.space name.number ≡ Some bytes → name.space ≡ space → is_page_below space pages (Some name) ≡ true
  below name bytes is same = by (cases_lt name.number pages)
    where
      by : (name.number < pages) ⊎ (pages ≤ name.number) → is_page_below space pages (Some name) ≡ true
      by (inl low) = ap (λ (t : Bool). t && nat_lt name.number pages) (eq-eqb name.space space same) ∙ lt-ltb name.number pages low
      by (inr high) = let none = ap (λ (s : ℕ). page_of image s name.number) same ∙ past_count image space pages pages d.size name.number high in absurd (false≢true (subst IsSome (sym is ∙ none) refl))

  -- the frames that are left show pages of other spaces
  shown_left : (f : Frame) → Shown image f.content f.page → (t : Bool) → is_page_below space pages (claim_of f) ≡ t → Shown (removed image space) (if t then discarded f else f).content (if t then discarded f else f).page
  shown_left f shown true is = tt
  shown_left f shown false is = by f.content refl shown
    where
      kept : (name : PageName) → claim_of f ≡ Some name → (name.space ≡ space) ⊎ (name.space ≢ space) → (o : Option (List ℕ)) → page_of image name.space name.number ≡ o → page_of (removed image space) name.space name.number ≡ o
      kept name holds (inr other) o is = still_there image space name.space name.number other ∙ is
      kept name holds (inl same) None none = ap (λ (s : ℕ). page_of (removed image space) s name.number) same ∙ gone image space name.number
      kept name holds (inl same) (Some bytes) some = absurd (true≢false (sym (below name bytes some same) ∙ sym (ap (is_page_below space pages) holds) ∙ is))

      by : (content : Content) → f.content ≡ content → Shown image content f.page → Shown (removed image space) content f.page
      by Unused holds shown = tt
      by (Fresh name) holds shown = (kept name (ap claim_in holds) (cases_eq name.space space) None shown.0, shown.1)
      by (Held name) holds shown = kept name (ap claim_in holds) (cases_eq name.space space) (Some f.page) shown
      by (Loading name) holds on =
          let page = some_of (page_of image name.space name.number) on in
          subst IsSome (sym (kept name (ap claim_in holds) (cases_eq name.space space) (Some page.0) page.1)) refl

  shows_left : IsTrue v.right → Shows (removed image space) u.pool.frames
  shows_left right at = subst (λ (f : Frame). Shown (removed image space) f.content f.page) (sym (freed_at space pages v.pool at)) (shown_left (frame_at v.pool.frames at) (b.shows right at) (is_page_below space pages (claim_of (frame_at v.pool.frames at))) refl)

  shows_all : IsTrue v.right → Shows (replayed (v.log ++ all ∷ [])) (written all u).pool.frames
  shows_all right =
      shows_around u [] d.rest (Drop space) q (buffer_without space pages v b) refl d.edits
      (λ at. ready_there (removed image space) d.rest (frame_at u.pool.frames at).content (frame_at u.pool.frames at).page d.there (shows_left right at))

  -- the frames show what the mini-transaction leaves
  pub shows_dropped : IsTrue v.right → Shows (replayed (v.log ++ records ∷ [])) (written records u).pool.frames
  shows_dropped right = subst (λ (rs : List Record). Shows (replayed (v.log ++ rs ∷ [])) (written rs u).pool.frames) (sym d.is) (shows_all right)

  -- the pages that the records behind name are of other spaces
  apart : (page : PageName) → IsSome (page_of (removed image space) page.space page.number) → page.space ≢ space
  apart page on same = false≢true (subst IsSome (ap (λ (s : ℕ). page_of (removed image space) s page.number) same ∙ gone image space page.number) on)

  framed_left : (rs : List Record) → AllByRecursion (HasFrame v.pool.frames) rs → AllByRecursion (IsOnPage (removed image space)) rs → AllByRecursion (HasFrame u.pool.frames) rs
  framed_left [] framed there = tt
  framed_left (r ∷ rs) framed there = (by (page_changed r) framed.0 there.0, framed_left rs framed.1 there.1)
    where
      by : (o : Option PageName) → IfSome o (λ page. IsSome (holder v.pool.frames page)) → IfSome o (λ page. IsSome (page_of (removed image space) page.space page.number)) → IfSome o (λ page. IsSome (holder u.pool.frames page))
      by None framed on = tt
      by (Some page) framed on = subst IsSome (sym (holder_left space pages v.pool p q page (apart page on))) framed

  module _ (beside : Beside) (m : DiskImage) (after : IsBuffer (written all u)) (calm : NoFilesOf space beside.copy) (quiet : NoFlightsOf space beside) (k : IsKept v beside m) where
    abbrev buffer : IsBuffer u
    buffer = buffer_without space pages v b

    abbrev end : ℕ
    end = end_of (ends v.log) all

    abbrev Kept : ℕ → ℕ → Type 0
    Kept s n = KeptAt (written all u) beside m s n

    named_there : (s n : ℕ) → any_names (record { space = s; number = n }) all ≡ true → IsSome (page_of (removed image space) s n)
    named_there s n hits = of_named (λ page. IsSome (page_of (removed image space) page.space page.number)) (record { space = s; number = n }) d.rest hits d.there

    other_page : (s n : ℕ) → s ≢ space → Kept s n
    other_page s n other =
        elsewhere u beside m [] d.rest (Drop space) q buffer after k.right tt d.edits (tt, framed_left d.rest d.framed d.there) s n (ap (λ (t : Bool). if t then becomes no_space else passes) (other_space space s other))
        (λ hits. subst IsSome (still_there image space s n other) (named_there s n hits)) (subst (IsKeptPage v.log beside m s n) (sym (frame_left space pages v.pool p q s n other)) (k.page s n))

    -- a page of the space isn't on its way to the disk
    landed : (n : ℕ) → is_begun (flush_in (frame_of v.pool.frames space n)) ≡ false
    landed n = by (is_begun (flush_in (frame_of v.pool.frames space n))) refl
      where
        by : (t : Bool) → is_begun (flush_in (frame_of v.pool.frames space n)) ≡ t → is_begun (flush_in (frame_of v.pool.frames space n)) ≡ false
        by false is = is
        by true is = absurd (false≢true (subst IsSome (quiet n) ((k.page space n).flights.0 is)))

    own_page : (n : ℕ) → (t : Bool) → any_names (record { space = space; number = n }) all ≡ t → Kept space n
    own_page n true hits = absurd (false≢true (subst IsSome (gone image space n) (named_there space n hits)))
    own_page n false miss =
        let ts = touches end space n d.rest in
        let suits = suits_unnamed space n v.log all (small u beside m all q buffer after k.right) (unnamed_all end space n all miss) in
        let dropped = ap (λ (t : Bool). applied (redone space n v.log) ((if t then becomes no_space else passes) ∷ ts)) (eq-eqb space space refl) ∙ applied_passing no_space ts (passes_all end space n d.rest d.edits miss) in
        let bare = frame_of-passed u beside m all q buffer after k.right space n miss ∙ frame_of_absent (removed image space) u.pool.frames space n (shows_left k.right) (gone image space n) in
        subst (IsKeptPage (v.log ++ all ∷ []) beside m space n) (sym bare)
        (dropped_page v.log beside m space n all (frame_of v.pool.frames space n) suits (appended space n v.log all (k.page space n).rule.engine.fits suits ∙ dropped) (calm n) (landed n) (k.page space n))

    kept_all : IsKept (written all u) beside m
    kept_all = record { right = k.right; page = λ s n. by s n (cases_eq s space) }
      where
        by : (s n : ℕ) → (s ≡ space) ⊎ (s ≢ space) → Kept s n
        by s n (inl same) = subst (λ (x : ℕ). Kept x n) (sym same) (own_page n (any_names (record { space = space; number = n }) all) refl)
        by s n (inr other) = other_page s n other

  pub kept_dropped : IsSpelled records → length (spelling records) ≤ free_in v.ring → (beside : Beside) (m : DiskImage) → NoFilesOf space beside.copy → NoFlightsOf space beside → IsKept v beside m → IsKept (written records u) beside m
  kept_dropped spelled room beside m calm quiet k =
      let after = IsBuffer-written u all (buffer_without space pages v b) (subst IsSpelled d.is spelled) (subst (λ (rs : List Record). length (spelling rs) ≤ free_in v.ring) d.is room) shows_all in
      subst (λ (rs : List Record). IsKept (written rs u) beside m) (sym d.is) (kept_all beside m after calm quiet k)

-- where there is room the mini-transaction is written
pub writes_without : (space pages : ℕ) (v w : Buffered) (records : List Record) (result : Result ℕ LogFull) → length (spelling records) ≤ free_in v.ring → Writes records (without_pages space pages v) w result → WritesWithout space pages records v w result
writes_without space pages v w records (Ok lsn) room writes = writes
writes_without space pages v w records (Err full) room writes = absurd (omega (arith, room, writes.0))

-- a buffer over a disk stands after it
pub stands_dropped : (space pages : ℕ) (v w : Buffered) (beside : Beside) (told : Option DiskImage) (records : List Record) (result : Result ℕ LogFull) → IsPool v.pool → IsPool (given_up space pages v.pool) → IsBuffer v → IsSpelled records → (IsTrue v.right → DropsSpace v space pages records)
    → WritesWithout space pages records v w result → NoFilesOf space beside.copy → NoFlightsOf space beside → Stands v beside told → Stands w beside told
stands_dropped space pages v w beside told records (Ok lsn) p q b spelled drops writes calm quiet st =
    subst (λ (x : Buffered). Stands x beside told) (sym writes.1) (stands_by v (written records (without_pages space pages v)) beside told (λ m k. kept_dropped space pages v records (drops k.right) p q b spelled writes.0 beside m calm quiet k) st)
stands_dropped space pages v w beside told records (Err full) p q b spelled drops writes calm quiet st = subst (λ (x : Buffered). Stands x beside told) (sym writes.2) st
