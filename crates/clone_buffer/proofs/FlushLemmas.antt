-- A flush of a page, step by step, leaves each page kept.
use Rattle.std.proofs.Common.{◌≡◌, ◌≢◌, ◌<◌, ◌≤◌, ◌⊎◌, inl, inr, ◌&&◌, ◌↔◌, ◌++◌, ℕ, Bool, true, false, List, length, drop, slice_get, set, refl, sym, ap, subst, ◌∙◌, arith, Option, Some, None, option_and_then, unwrap_or, is_some, IsSome, IsTrue, if◌then◌else◌, get_or, not, ◌==◌}
use Rattle.clone_buffer.proofs.Common.{cases_eq, false≢true, true≢false, and_parts, length-append, DiskImage, Record, log_of, stands, redone, ends, Rule, Copy, PageEngine, rule_kept, Frame, Flush, PageName, is_name_of, frame_at, name_in, name_of, holder, is_fresh, is_begun, Frames, IsPool, with_frame, named, is_own_name, within, Buffered, Beside, disk_standing, is_open, has_space, frame_in, frame_of, flight_of, engine_with, IsKeptPage, IsKept, Copies}
use Rattle.std.proofs.lemmas.List.{take-append-drop}
use Rattle.std.proofs.lemmas.Option.{slice_get_within, get_or_from_slice_get}
use Rattle.std.specs.FinMap as finite
use Rattle.clone_base.proofs.MapEntries.{slice_get-set_same, slice_get-set_other}
use Rattle.clone_outside.specs.Disk as disk
use Rattle.clone_outside.specs.Disk.{Spaces}
use Rattle.clone_outside.specs.declared.disk.Held.{Held}
use Rattle.clone_outside.specs.declared.disk.TheConstants.{HALF_PAGE}
use Rattle.clone_image.proofs.Images.{get-put_same, get-put_other}
use Rattle.clone_image.proofs.Logs.{log_of-append}
use Rattle.clone_law.specs.Since.{IsAt}
use Rattle.clone_law.specs.Machine as machine
use Rattle.clone_law.specs.Machine.{Flight, Begun, Half, Landed, Checkpointed, AtMost}
use Rattle.clone_law.proofs.ExampleLemmas.{at_end}
use Rattle.clone_pool.specs.declared.frame.Flush.TheVariants as flush
use Rattle.clone_pool.specs.Frames.{is_dirty, counts_as_open, begun, landed, failed}
use Rattle.clone_pool.specs.Pool.{IsFrame}
use Rattle.clone_buffer.specs.OnePage.{standing_at, standing_in, oldest_in, flush_in, world_with}
use Rattle.clone_buffer.specs.Flushing.{with_image, with_begun, with_noted, with_change, Changes, BeginKeeps, OpenKeeps, LandKeeps, RestLands, FailKeeps, CheckpointKeeps}
use Rattle.clone_buffer.proofs.FrameLemmas.{holder_name, is_named, some_name, counted, frame_in-old, set_becomes, held_on}
use Rattle.clone_buffer.proofs.PageLemmas.{world, Ruled, copy_stays}

-- What holds of one page and of each other one holds of all.
pub each : (page : PageName) (P : ℕ → ℕ → Type 0) → P page.space page.number → ((s n : ℕ) → (page ≡ record { space = s; number = n } → ⊥) → P s n) → (s n : ℕ) → P s n
each page P this others s n = by (is_named (record { space = s; number = n }) (Some page))
  where
    by : (Some page ≡ Some (record { space = s; number = n })) ⊎ (Some page ≡ Some (record { space = s; number = n }) → ⊥) → P s n
    by (inl is) =
        let same : page ≡ record { space = s; number = n } = cc in
        subst (λ (w : PageName). P w.space w.number) same this
    by (inr other) = others s n (λ same. other (ap Some same))

-- what is chosen for one page alone
module _ {X : Type 0} (page : PageName) (x y : X) where
  abbrev chosen : ℕ → ℕ → X
  chosen s n = if is_name_of page (Some (record { space = s; number = n })) then x else y

  chosen_this : chosen page.space page.number ≡ x
  chosen_this = ap (λ (b : Bool). if b then x else y) (is_own_name page)

  chosen_other : (s n : ℕ) → (page ≡ record { space = s; number = n } → ⊥) → chosen s n ≡ y
  chosen_other s n apart = by (is_name_of page (Some q)) refl
    where
      q : PageName
      q = record { space = s; number = n }

      by : (b : Bool) → is_name_of page (Some q) ≡ b → chosen s n ≡ y
      by true is =
          let both : Some q ≡ Some page = named page (Some q) is in
          let same : page ≡ q = cc in
          absurd (apart same)
      by false is = ap (λ (b : Bool). if b then x else y) is

-- the images of a page and of another one
pub image_this : (page : PageName) (image : Option (List ℕ)) (beside : Beside) → (with_image page image beside).image page.space page.number ≡ image
image_this page image beside = chosen_this page image (beside.image page.space page.number)

pub image_other : (page : PageName) (image : Option (List ℕ)) (beside : Beside) (s n : ℕ) → (page ≡ record { space = s; number = n } → ⊥) → (with_image page image beside).image s n ≡ beside.image s n
image_other page image beside s n apart = chosen_other page image (beside.image s n) s n apart

-- what a clone has of them
noted_this : (page : PageName) (copies : Copies) → with_noted page copies page.space page.number ≡ machine.noted (copies page.space page.number)
noted_this page copies = chosen_this page (machine.noted (copies page.space page.number)) (copies page.space page.number)

noted_other : (page : PageName) (copies : Copies) (s n : ℕ) → (page ≡ record { space = s; number = n } → ⊥) → with_noted page copies s n ≡ copies s n
noted_other page copies s n apart = chosen_other page (machine.noted (copies s n)) (copies s n) s n apart

-- A page of the disk is edited.
module _ (m : DiskImage) (page : PageName) (edit : Held → Held) where
  abbrev after : DiskImage
  after = disk.with_page m page.space page.number edit

  abbrev spaces : Option (List Held) → Spaces
  spaces o = disk.changed m.spaces page.space (disk.edited page.number edit) o

  pub this_page : (held : Held) → disk.page_of m page.space page.number ≡ Some held → (disk.page_of after page.space page.number ≡ Some (edit held)) × (disk_standing after page.space page.number ≡ stands (edit held).bytes)
  this_page held is = by (finite.get m.spaces page.space) refl is
    where
      by : (o : Option (List Held)) → finite.get m.spaces page.space ≡ o → option_and_then (λ pages. slice_get pages page.number) o ≡ Some held → (disk.page_of after page.space page.number ≡ Some (edit held)) × (disk_standing after page.space page.number ≡ stands (edit held).bytes)
      by None got is = absurd (cc)
      by (Some pages) got is =
          let value : get_or pages page.number disk.zero_page ≡ held = get_or_from_slice_get pages page.number held disk.zero_page is in
          let there : finite.get after.spaces page.space ≡ Some (set pages page.number (edit held)) =
          ap (λ (o : Option (List Held)). finite.get (spaces o) page.space) got ∙ get-put_same m.spaces page.space (disk.edited page.number edit pages) ∙ ap (λ (h : Held). Some (set pages page.number (edit h))) value in
          let found : slice_get (set pages page.number (edit held)) page.number ≡ Some (edit held) = slice_get-set_same pages page.number (edit held) (slice_get_within pages page.number held is) in
          (ap (λ (o : Option (List Held)). option_and_then (λ ps. slice_get ps page.number) o) there ∙ found, ap (λ (o : Option (List Held)). standing_in o page.number) there ∙ ap standing_at found)

  abbrev IsSameOnDisk : ℕ → ℕ → Type 0
  IsSameOnDisk s n = (disk.page_of after s n ≡ disk.page_of m s n) × (disk_standing after s n ≡ disk_standing m s n)

  beside_it : (n : ℕ) → n ≢ page.number → IsSameOnDisk page.space n
  beside_it n apart = by (finite.get m.spaces page.space) refl
    where
      by : (o : Option (List Held)) → finite.get m.spaces page.space ≡ o → IsSameOnDisk page.space n
      by None got = let same : after.spaces ≡ m.spaces = ap spaces got in (ap (λ (x : Spaces). disk.page_in x page.space n) same, ap (λ (x : Spaces). standing_in (finite.get x page.space) n) same)
      by (Some pages) got =
          let new : List Held = disk.edited page.number edit pages in
          let there : finite.get after.spaces page.space ≡ Some new = ap (λ (o : Option (List Held)). finite.get (spaces o) page.space) got ∙ get-put_same m.spaces page.space new in
          let same : slice_get new n ≡ slice_get pages n = slice_get-set_other pages page.number n (edit (get_or pages page.number disk.zero_page)) apart in (
            ap (λ (o : Option (List Held)). option_and_then (λ ps. slice_get ps n) o) there ∙ same ∙ sym (ap (λ (o : Option (List Held)). option_and_then (λ ps. slice_get ps n) o) got),
            ap (λ (o : Option (List Held)). standing_in o n) there ∙ ap standing_at same ∙ sym (ap (λ (o : Option (List Held)). standing_in o n) got),
          )

  elsewhere : (s n : ℕ) → s ≢ page.space → IsSameOnDisk s n
  elsewhere s n apart = by (finite.get m.spaces page.space) refl
    where
      by : (o : Option (List Held)) → finite.get m.spaces page.space ≡ o → IsSameOnDisk s n
      by None got = let same : after.spaces ≡ m.spaces = ap spaces got in (ap (λ (x : Spaces). disk.page_in x s n) same, ap (λ (x : Spaces). standing_in (finite.get x s) n) same)
      by (Some pages) got =
          let same : finite.get after.spaces s ≡ finite.get m.spaces s = ap (λ (o : Option (List Held)). finite.get (spaces o) s) got ∙ get-put_other m.spaces page.space s (disk.edited page.number edit pages) apart in
          (ap (λ (o : Option (List Held)). option_and_then (λ ps. slice_get ps n) o) same, ap (λ (o : Option (List Held)). standing_in o n) same)

  pub other_page : (s n : ℕ) → (page ≡ record { space = s; number = n } → ⊥) → IsSameOnDisk s n
  other_page s n apart = by (cases_eq s page.space) (cases_eq n page.number)
    where
      by : (s ≡ page.space) ⊎ (s ≢ page.space) → (n ≡ page.number) ⊎ (n ≢ page.number) → IsSameOnDisk s n
      by (inr other) b = elsewhere s n other
      by (inl same) (inr other) = subst (λ (x : ℕ). IsSameOnDisk x n) (sym same) (beside_it n other)
      by (inl same) (inl too) = let this : page ≡ record { space = s; number = n } = λ i. record { space = sym same i; number = sym too i } in absurd (apart this)

-- what is kept beside a page is as before
abbrev IsSameBeside : Beside → Beside → ℕ → ℕ → Type 0
IsSameBeside beside beside' s n = (beside'.image s n ≡ beside.image s n) × (beside'.copy s n ≡ beside.copy s n)

-- a page whose frame, place on the disk and what is kept beside it are as before stays kept
pub undisturbed : (log : List (List Record)) (beside beside' : Beside) (m m' : DiskImage) (s n : ℕ) (frame : Option Frame) → beside'.checkpoint ≡ beside.checkpoint → IsSameBeside beside beside' s n
    → (disk.page_of m' s n ≡ disk.page_of m s n) × (disk_standing m' s n ≡ disk_standing m s n) → IsKeptPage log beside m s n frame → IsKeptPage log beside' m' s n frame
undisturbed log beside beside' m m' s n frame point same disks k =
    let e : PageEngine = engine_with log beside m s n frame in
    let writes : Option Held → Bool = λ o. is_open o && has_space (redone s n log) in
    let new : world (beside.copy s n) e ≡ world_with log beside' m' s n frame =
    λ i. world (sym same.1 i) (record e { checkpoint = sym point i; disk = sym disks.1 i; writing = writes (sym disks.0 i); flight = flight_of (flush_in frame) (sym same.0 i) }) in
    record {
      rule = subst (Rule s n) new k.rule;
      dirty = λ t. k.dirty (sym (ap writes disks.0) ∙ t);
      opened = λ t. k.opened (sym (ap writes disks.0) ∙ t);
      flights = subst (λ (x : Option (List ℕ)). IsTrue (is_begun (flush_in frame)) ↔ IsSome x) (sym same.0) k.flights;
    }

-- a frame that is dirty has a page that isn't new
old_frame : (uses : ℕ) (f : Frame) → IsFrame uses f → is_dirty f ≡ true → is_fresh f.content ≡ false
old_frame uses f fine dirty = by (is_fresh f.content) refl
  where
    by : (b : Bool) → is_fresh f.content ≡ b → b ≡ false
    by true is = absurd (true≢false (sym dirty ∙ (fine.fresh is).1))
    by false is = refl

-- a frame whose flush has begun is dirty
flight_dirty : (uses : ℕ) (f : Frame) → IsFrame uses f → is_begun f.flush ≡ true → is_dirty f ≡ true
flight_dirty uses f fine flies = by (is_dirty f) refl
  where
    by : (b : Bool) → is_dirty f ≡ b → b ≡ true
    by true is = refl
    by false is = absurd (false≢true (sym (ap is_begun (fine.clean is)) ∙ flies))

begun_later : (x : Flush) → is_begun x ≡ true → (later : Option ℕ) × (x ≡ flush.Begun later)
begun_later flush.Idle is = absurd (false≢true is)
begun_later (flush.Begun later) is = (later, refl)
begun_later flush.Failed is = absurd (false≢true is)

begun_counts : (x : Flush) → is_begun x ≡ true → counts_as_open x ≡ true
begun_counts flush.Idle is = absurd (false≢true is)
begun_counts (flush.Begun later) is = refl
begun_counts flush.Failed is = absurd (false≢true is)

flown : (x : Flush) (image : Option (List ℕ)) → is_begun x ≡ true → IsSome image → (i : Flight) × (flight_of x image ≡ Some i)
flown flush.Idle image is there = absurd (false≢true is)
flown (flush.Begun later) None is there = absurd (false≢true there)
flown (flush.Begun later) (Some bytes) is there = (record { image = bytes; later = later }, refl)
flown flush.Failed image is there = absurd (false≢true is)

-- the page of the disk, if it is there
held_there : (o : Option Held) → IsSome o → (held : Held) × (o ≡ Some held)
held_there None there = absurd (false≢true there)
held_there (Some held) there = (held, refl)

-- One page, as its flush goes on.
module _ (log : List (List Record)) (beside : Beside) (m : DiskImage) (page : PageName) where
  abbrev Kept : Beside → DiskImage → Frame → Type 0
  Kept beside' m' f = IsKeptPage log beside' m' page.space page.number (Some f)

  abbrev copy : Copy
  copy = beside.copy page.space page.number

  abbrev engine : Frame → PageEngine
  engine f = engine_with log beside m page.space page.number (Some f)

  begin_page : (f : Frame) → Kept beside m f → Kept (with_begun page f.page beside) m (begun f)
  begin_page f k =
      let image = image_this page (Some f.page) beside in
      record {
        rule = subst (Rule page.space page.number) (λ i. world (sym (noted_this page beside.copy) i) (record (engine f) { flight = flight_of (flush.Begun None) (sym image i) })) (rule_kept page.space page.number (world copy (engine f)) (Begun f.page) k.rule refl);
        dirty = k.dirty;
        opened = λ t. refl;
        flights = (λ t. subst IsSome (sym image) refl, λ t. refl);
      }

  open_page : (f : Frame) (held : Held) (edit : Held → Held) → is_dirty f ≡ true → is_begun f.flush ≡ true → disk.page_of m page.space page.number ≡ Some held → ((held : Held) → (edit held).writing ≡ true) → Kept beside m f → Kept beside (disk.with_page m page.space page.number edit) f
  open_page f held edit dirty flies there opens k =
      let now = this_page m page edit held there in
      let spaced : has_space (redone page.space page.number log) ≡ true = ap has_space k.rule.engine.framed in
      let writing : true ≡ (is_open (disk.page_of (disk.with_page m page.space page.number edit) page.space page.number) && has_space (redone page.space page.number log)) = sym (ap (λ (b : Bool). b && has_space (redone page.space page.number log)) (ap is_open now.0 ∙ opens held) ∙ spaced) in
      record {
        rule = subst (Ruled page.space page.number copy) (λ i. record (engine f) { disk = sym now.1 i; writing = writing i })
            (rule_kept page.space page.number (world copy (engine f)) (Half (stands (edit held).bytes)) k.rule (flown f.flush (beside.image page.space page.number) flies (k.flights.0 flies)));
        dirty = λ t. dirty;
        opened = λ t. begun_counts f.flush flies;
        flights = k.flights;
      }

  land_page : (f : Frame) (later : Option ℕ) (image : List ℕ) (held : Held) (edit : Held → Held) → beside.image page.space page.number ≡ Some image → disk.page_of m page.space page.number ≡ Some held → edit held ≡ record { bytes = image; writing = false }
      → Kept beside m (record f { flush = flush.Begun later }) → Kept (with_image page None beside) (disk.with_page m page.space page.number edit) (landed (record f { flush = flush.Begun later }))
  land_page f later image held edit image_is there becomes k =
      let m' : DiskImage = disk.with_page m page.space page.number edit in
      let g : Frame = record f { flush = flush.Begun later } in
      let now = this_page m page edit held there in
      let none = image_this page None beside in
      let bytes : stands image ≡ disk_standing m' page.space page.number = sym (now.1 ∙ ap (λ (h : Held). stands h.bytes) becomes) in
      let closed : (is_open (disk.page_of m' page.space page.number) && has_space (redone page.space page.number log)) ≡ false = ap (λ (b : Bool). b && has_space (redone page.space page.number log)) (ap is_open now.0 ∙ ap (λ (h : Held). h.writing) becomes) in
      let flies : machine.landed (engine g) (engine g).flight ≡ record (engine g) { disk = stands image; writing = false; oldest = later; flight = None } = ap (λ (o : Option (List ℕ)). machine.landed (engine g) (flight_of (flush.Begun later) o)) image_is in
      record {
        rule = subst (Ruled page.space page.number copy) (λ i. record (engine g) { disk = bytes i; writing = sym closed i; oldest = later; flight = None }) (subst (Ruled page.space page.number copy) flies (rule_kept page.space page.number (world copy (engine g)) Landed k.rule tt));
        dirty = λ t. absurd (true≢false (sym t ∙ closed));
        opened = λ t. absurd (true≢false (sym t ∙ closed));
        flights = subst (λ (x : Option (List ℕ)). IsTrue false ↔ IsSome x) (sym none) (λ t. t, λ t. t);
      }

  fail_page : (f : Frame) → Kept beside m f → Kept (with_image page None beside) m (failed f)
  fail_page f k = record {
    rule =
        let r = k.rule.engine in
        record { engine = record { fits = r.fits; framed = r.framed; quiet = r.quiet; flying = tt; order = tt; bare = tt; low = r.low; aligned = r.aligned }; copy = copy_stays page.space page.number (engine f) (engine f).disk (engine f).writing None copy (λ closed. closed) (λ _. refl) k.rule.copy };
    dirty = k.dirty;
    opened = λ t. refl;
    flights = subst (λ (x : Option (List ℕ)). IsTrue false ↔ IsSome x) (sym (image_this page None beside)) (λ t. t, λ t. t);
  }

-- The page of one frame.
module _ (v : Buffered) (page : PageName) (at : ℕ) where
  abbrev f : Frame
  f = frame_at v.pool.frames at

  dirty_frame : IsPool v.pool → is_begun f.flush ≡ true → is_dirty f ≡ true
  dirty_frame p flies = flight_dirty v.pool.uses f (p.frame at) flies

  framed : IsPool v.pool → name_of f ≡ Some page → is_dirty f ≡ true → frame_of v.pool.frames page.space page.number ≡ Some f
  framed p name dirty = ap (frame_in v.pool.frames) (p.once page at name) ∙ frame_in-old v.pool.frames at (old_frame v.pool.uses f (p.frame at) dirty)

  -- its frame has changed, and what is kept beside it and on the disk
  pub changed_frame : (change : Frame → Frame) (beside beside' : Beside) (m m' : DiskImage) → Changes v page at change → is_dirty f ≡ true → (change f).content ≡ f.content → beside'.checkpoint ≡ beside.checkpoint
      → ((s n : ℕ) → (page ≡ record { space = s; number = n } → ⊥) → IsSameBeside beside beside' s n × ((disk.page_of m' s n ≡ disk.page_of m s n) × (disk_standing m' s n ≡ disk_standing m s n)))
      → (IsKeptPage v.log beside m page.space page.number (Some f) → IsKeptPage v.log beside' m' page.space page.number (Some (change f))) → IsKept v beside m → IsKept (with_change at change v) beside' m'
  changed_frame change beside beside' m m' c dirty content point others this k = record {
    right = k.right;
    page = λ s n. held_on v.pool new at c.old c.new (change f) (set_becomes v.pool.frames new.frames at (change f) (within v.pool.frames at (subst IsSome (sym c.name) refl)) refl)
        (IsKeptPage v.log beside m s n) (IsKeptPage v.log beside' m' s n) (record { space = s; number = n }) (ap name_in content)
        (λ had. here s n (some_name page (record { space = s; number = n }) (sym c.name ∙ had)))
        (λ other o had. let far = others s n (λ same. other (c.name ∙ ap Some same)) in undisturbed v.log beside beside' m m' s n o point far.0 far.1 had) (k.page s n);
  }
    where
      new : Frames
      new = with_frame at change v.pool

      counted_is : (g : Frame) → g.content ≡ f.content → counted g ≡ Some g
      counted_is g same = ap (λ (b : Bool). if b then None else Some g) (ap is_fresh same ∙ old_frame v.pool.uses f (c.old.frame at) dirty)

      here : (s n : ℕ) → page ≡ record { space = s; number = n } → IsKeptPage v.log beside m s n (counted f) → IsKeptPage v.log beside' m' s n (counted (change f))
      here s n same = subst (λ (w : PageName). IsKeptPage v.log beside m w.space w.number (counted f) → IsKeptPage v.log beside' m' w.space w.number (counted (change f))) same
          (λ had. subst (IsKeptPage v.log beside' m' page.space page.number) (sym (counted_is (change f) content)) (this (subst (IsKeptPage v.log beside m page.space page.number) (counted_is f refl) had)))

pub begin_keeps : BeginKeeps
begin_keeps v beside m page at c waits k =
    changed_frame v page at begun beside (with_begun page (frame_at v.pool.frames at).page beside) m m c (and_parts _ _ waits).0 refl refl (λ s n apart. ((image_other page _ beside s n apart, noted_other page beside.copy s n apart), (refl, refl))) (begin_page v.log beside m page (frame_at v.pool.frames at)) k

pub open_keeps : OpenKeeps
open_keeps v beside m page at edit p name flies there opens k = record {
  right = k.right;
  page = each page (λ s n. IsKeptPage v.log beside m' s n (frame_of v.pool.frames s n)) here (λ s n apart. undisturbed v.log beside beside m m' s n (frame_of v.pool.frames s n) refl (refl, refl) (other_page m page edit s n apart) (k.page s n));
}
  where
    m' : DiskImage
    m' = disk.with_page m page.space page.number edit

    dirty : is_dirty (frame_at v.pool.frames at) ≡ true
    dirty = dirty_frame v page at p flies

    here : IsKeptPage v.log beside m' page.space page.number (frame_of v.pool.frames page.space page.number)
    here =
        let is = framed v page at p name dirty in
        let held = held_there (disk.page_of m page.space page.number) there in
        subst (IsKeptPage v.log beside m' page.space page.number) (sym is) (open_page v.log beside m page (frame_at v.pool.frames at) held.0 edit dirty flies held.1 opens (subst (IsKeptPage v.log beside m page.space page.number) is (k.page page.space page.number)))

pub land_keeps : LandKeeps
land_keeps v beside m page at image held edit c flies image_is there becomes k =
    let f : Frame = frame_at v.pool.frames at in
    let later = begun_later f.flush flies in
    let same : f ≡ record f { flush = flush.Begun later.0 } = λ i. record f { flush = later.1 i } in
    let m' : DiskImage = disk.with_page m page.space page.number edit in
    let P : Frame → Type 0 = λ g. IsKeptPage v.log beside m page.space page.number (Some g) → IsKeptPage v.log (with_image page None beside) m' page.space page.number (Some (landed g)) in
    changed_frame v page at landed beside (with_image page None beside) m m' c (dirty_frame v page at c.old flies) refl refl (λ s n apart. ((image_other page None beside s n apart, refl), other_page m page edit s n apart))
    (subst P (sym same) (land_page v.log beside m page f later.0 image held edit image_is there becomes)) k

pub rest_lands : RestLands
rest_lands image held same = ap (λ (front : List ℕ). record { bytes = front ++ drop HALF_PAGE image; writing = false }) same ∙ ap (λ (bytes : List ℕ). record { bytes = bytes; writing = false }) (take-append-drop HALF_PAGE image)

pub fail_keeps : FailKeeps
fail_keeps v beside m page at c flies k =
    changed_frame v page at failed beside (with_image page None beside) m m c (dirty_frame v page at c.old flies) refl refl (λ s n apart. ((image_other page None beside s n apart, refl), (refl, refl))) (fail_page v.log beside m page (frame_at v.pool.frames at)) k

-- A checkpoint.

-- a log ends no earlier than where a mini-transaction ends
pub at_most : (lsn : ℕ) (log : List (List Record)) → IsAt lsn log → lsn ≤ ends log
at_most lsn log is = omega (arith, is.moment, ap (λ (l : List (List Record)). length (log_of l)) is.split, ap length (log_of-append is.before is.behind), length-append (log_of is.before) (log_of is.behind))

-- the frame of a page is one of the frames
from_frame : (frames : List Frame) (s n : ℕ) (f : Frame) → frame_of frames s n ≡ Some f → (at : ℕ) × ((at < length frames) × (frame_at frames at ≡ f))
from_frame frames s n f is = by (holder frames (record { space = s; number = n })) refl is
  where
    by : (o : Option ℕ) → holder frames (record { space = s; number = n }) ≡ o → frame_in frames o ≡ Some f → (at : ℕ) × ((at < length frames) × (frame_at frames at ≡ f))
    by None got none = absurd (cc)
    by (Some at) got found = (at, ((holder_name frames (record { space = s; number = n }) at got).0, one (is_fresh (frame_at frames at).content) found))
      where
        one : (b : Bool) → (if b then None else Some (frame_at frames at)) ≡ Some f → frame_at frames at ≡ f
        one true none = absurd (cc)
        one false some = cc

-- what no page is dirty from before
module _ (v : Buffered) (beside : Beside) (m : DiskImage) (lsn : ℕ) (k : IsKept v beside m) where
  abbrev AreLater : Type 0
  AreLater = (other : ℕ) → other < length v.pool.frames → lsn ≤ unwrap_or (frame_at v.pool.frames other).oldest lsn

  raised : IsAt lsn v.log → AreLater → IsKept v (record beside { checkpoint = lsn }) m
  raised at later = record { right = k.right; page = one }
    where
      low : (s n : ℕ) (frame : Option Frame) → frame_of v.pool.frames s n ≡ frame → IsKeptPage v.log beside m s n frame → AtMost lsn (oldest_in frame) v.log
      low s n None is had = at_most lsn v.log at
      low s n (Some g) is had = by g.oldest refl had.rule.engine.low
        where
          by : (o : Option ℕ) → g.oldest ≡ o → AtMost beside.checkpoint o v.log → AtMost lsn o v.log
          by None clean most = at_most lsn v.log at
          by (Some o) dirty most =
              let from = from_frame v.pool.frames s n g is in
              (subst (λ (x : Option ℕ). lsn ≤ unwrap_or x lsn) (ap (λ (h : Frame). h.oldest) from.1.1 ∙ dirty) (later from.0 from.1.0), most.1)

      one : (s n : ℕ) → IsKeptPage v.log (record beside { checkpoint = lsn }) m s n (frame_of v.pool.frames s n)
      one s n =
          let had = k.page s n in
          let frame : Option Frame = frame_of v.pool.frames s n in
          record {
            rule = rule_kept s n (world (beside.copy s n) (engine_with v.log beside m s n frame)) (Checkpointed lsn) had.rule (low s n frame refl had, at);
            dirty = had.dirty;
            opened = had.opened;
            flights = had.flights;
          }

  -- a frame that is dirty has been so since a mini-transaction began
  at_oldest : IsPool v.pool → (at : ℕ) → (frame_at v.pool.frames at).oldest ≡ Some lsn → AtMost beside.checkpoint (Some lsn) v.log
  at_oldest p at is = by (name_of f) refl
    where
      f : Frame
      f = frame_at v.pool.frames at

      dirty : is_dirty f ≡ true
      dirty = ap is_some is

      by : (o : Option PageName) → name_of f ≡ o → AtMost beside.checkpoint (Some lsn) v.log
      by None none = absurd (true≢false (sym ((p.frame at).unused none).0 ∙ ap (λ (b : Bool). (f.pins == 0) && not b) dirty ∙ never (f.pins == 0)))
        where
          never : (b : Bool) → (b && false) ≡ false
          never true = refl
          never false = refl
      by (Some page) name =
          let had : IsKeptPage v.log beside m page.space page.number (Some f) = subst (IsKeptPage v.log beside m page.space page.number) (framed v page at p name dirty) (k.page page.space page.number) in
          subst (λ (o : Option ℕ). AtMost beside.checkpoint o v.log) is had.rule.engine.low

pub checkpoint_keeps : CheckpointKeeps
checkpoint_keeps v beside m lsn p (inl oldest) k =
    let low = at_oldest v beside m lsn k p oldest.at oldest.dirty in
    (low.0, at_most lsn v.log low.1, raised v beside m lsn k low.1 oldest.least)
checkpoint_keeps v beside m lsn p (inr ended) k =
    let at : IsAt lsn v.log = subst (λ (x : ℕ). IsAt x v.log) (sym ended.1) (at_end v.log) in
    (subst (λ (x : ℕ). beside.checkpoint ≤ x) (sym ended.1) (at_most beside.checkpoint v.log (k.page 0 0).rule.engine.aligned), at_most lsn v.log at, raised v beside m lsn k at later)
  where
    none : (o : Option ℕ) → is_some o ≡ false → lsn ≤ unwrap_or o lsn
    none None is = omega (arith)
    none (Some x) is = absurd (true≢false is)

    later : (other : ℕ) → other < length v.pool.frames → lsn ≤ unwrap_or (frame_at v.pool.frames other).oldest lsn
    later other within = none (frame_at v.pool.frames other).oldest (ended.0 other within)
