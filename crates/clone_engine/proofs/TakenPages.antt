-- What a clone has of each page, event by event, and what its session begins with.
use Rattle.std.proofs.Common.{[], ◌≡◌, ℕ, Bool, true, false, List, ◌∷◌, refl, sym, ap, subst, ◌∙◌, Option, None, Some, if◌then◌else◌, ◌==◌, ◌&&◌, is_some, IsSome, cond, ◌||◌, get_or, IsTrue, option_map, ◌≢◌, ◌≤◌, suc, length, arith, inl, inr, T}
use Rattle.clone_mtr.specs.declared.record.Record.{Record}
use Rattle.clone_image.specs.Redone.{Standing, no_space, past_end, stands, redone, standing_in}
use Rattle.clone_law.specs.Machine as machine
use Rattle.clone_law.specs.Rule.{Held, Framed, Bare, EngineRule, CopyRule}
use Rattle.clone_law.proofs.TouchLemmas.{Lax-refl}
use Rattle.clone_law.proofs.EventLemmas.{copy_kept}
use Rattle.clone_flush.specs.Flights.{ends_before, Flights, IsFlown, beside_of, beyond, Files}
use Rattle.std.specs.List.{AllByRecursion, Contains, list_any, All}
use Rattle.std.specs.FinMap as finite
use Rattle.std.specs.Cmp.{tied_then, unsigned_tied, eq_by_cmp_equiv}
use Rattle.std.specs.Ordering.{eq_by_cmp, nat_cmp, is_lt, is_eq}
use Rattle.std.proofs.lemmas.Bool.{and_parts, eqb-true, true≢false, eq-eqb}
use Rattle.std.proofs.lemmas.Cmp.{eq_by_cmp_equiv}
use Rattle.clone_outside.specs.Disk.{DiskImage}
use Rattle.clone_model.specs.Keys.{row_cmp}
use Rattle.clone_model.proofs.RowMaps.{row_cmp_total, row_cmp_exact}
use Rattle.clone_pool.specs.declared.frame.PageName.{PageName}
use Rattle.clone_pool.specs.Index.{is_same}
use Rattle.clone_buffer.specs.Buffered.{Buffered, IsBuffer, image_of}
use Rattle.clone_buffer.specs.Flushing.{with_noted}
use Rattle.clone_buffer.specs.OnePage.{Copies, no_copies, engine_of}
use Rattle.clone_buffer.proofs.LawLemmas.{copy_keeps}
use Rattle.clone_track.specs.TrackedPages.{Pages, noted, all_noted, listed}
use Rattle.clone_engine.specs.Copies as copies
use Rattle.std.proofs.lemmas.List.Elements.{All-contains_itself, recursion_from_All, All-nil, All-cons}
use Rattle.std.proofs.lemmas.Map.Views.{Contains-from_any, list_any-from_Contains}
use Rattle.clone_base.proofs.MapEntries.{is_equal}
use Rattle.clone_engine.specs.Engine.{Engine, AreOfDonor, IsEngine}
use Rattle.clone_engine.specs.Donor.{ArePages, IsPageOf, NotesPages}
use Rattle.clone_pool.specs.declared.frame.Frame.{Frame}
use Rattle.clone_pool.specs.Frames.{counts_as_open, frame_at, is_fresh, name_of, open_page}
use Rattle.clone_pool.specs.Pool.{AreOpenPages, IsFrame, IsPool}
use Rattle.clone_engine.proofs.EngineLemmas.{in_image}
use Rattle.std.specs.Int.{div_ceil}
use Rattle.std.specs.FinMap.Entries.{below_all}
use Rattle.std.specs.declared.cmp.Ordering.{Ordering}
use Rattle.std.specs.declared.cmp.Ordering.TheVariants.{Less, Equal, Greater}
use Rattle.std.proofs.lemmas.Bool.Decides.{eqb_tells}
use Rattle.std.proofs.lemmas.List.Sums.{sum_by-le}
use Rattle.clone_image.proofs.RedoLemmas.{replayed_is_redone}
use Rattle.clone_trx.specs.Kept.{IsSafe}
use Rattle.clone_snapshot.specs.declared.sizes.TheConstants.{CHUNK_PAGES}
use Rattle.clone_session.specs.CloneCalls.{AreFiles}
use Rattle.clone_plain.specs.Donor.{Donor}

-- What a clone has of each page, event by event.

-- What an answer of a block, and the end of a stage, do to what a clone has of one page.

-- a clone whose copy of files is over has this of a page, where its archive starts there
abbrev pub IsInPages : ℕ → machine.Copy → Type 0
IsInPages base copy = (starts : List Standing) × (copy ≡ machine.Copied base starts)

-- the tracker notes the page
pub noted_in_files : (tracked : Bool) (copy : machine.Copy) → copies.IsInFiles tracked copy → copies.IsInFiles true (machine.noted copy)
noted_in_files true copy is = subst (λ (c : machine.Copy). machine.noted c ≡ machine.Tracked) (sym is) refl
noted_in_files false copy is = subst (λ (c : machine.Copy). machine.noted c ≡ machine.Tracked) (sym is.1) refl

-- the copy of files ends
pub files_ended_copied : (tracked : Bool) (copy : machine.Copy) (base : ℕ) → copies.IsInFiles tracked copy → IsInPages base (machine.files_ended base copy)
files_ended_copied true copy base is = subst (λ (c : machine.Copy). IsInPages base (machine.files_ended base c)) (sym is) ([], refl)
files_ended_copied false copy base is = subst (λ (c : machine.Copy). IsInPages base (machine.files_ended base c)) (sym is.1) (is.0, refl)

module _ (space number : ℕ) (e : machine.PageEngine) (r : EngineRule space number e) where
  -- the page, and what the clone has of it
  abbrev pub beside : machine.Copy → machine.PageWorld
  beside copy = record { engine = e; copy = copy }

  abbrev Kept : machine.Copy → Type 0
  Kept copy = CopyRule space number e copy

  -- a block of a file was answered
  pub file_answered : (tracked : Bool) (copy : machine.Copy) (bytes : List ℕ) → copies.IsInFiles tracked copy → Kept copy → machine.Allowed space number (beside copy) (machine.FileRead bytes) → Kept (copies.answered bytes copy) × copies.IsInFiles tracked (copies.answered bytes copy)
  file_answered true copy bytes is rule may = subst (λ (c : machine.Copy). Kept (copies.answered bytes c) × (copies.answered bytes c ≡ machine.Tracked)) (sym is) (tt, refl)
  file_answered false copy bytes is rule may =
      subst (λ (c : machine.Copy). Kept c → Kept (copies.answered bytes c) × copies.IsInFiles false (copies.answered bytes c)) (sym is.1)
      (λ rule. (copy_kept space number (beside (machine.Untracked is.0)) (machine.FileRead bytes) r rule may, (stands bytes ∷ is.0, refl))) rule

  -- a block of pages was answered
  pub page_answered : (base : ℕ) (starts : List Standing) (copy : machine.Copy) (bytes : List ℕ) → copy ≡ machine.Copied base starts → Kept copy → machine.Allowed space number (beside copy) (machine.PageRead bytes)
      → Kept (copies.answered bytes copy) × (copies.answered bytes copy ≡ machine.Copied base (stands bytes ∷ starts))
  page_answered base starts copy bytes is rule may =
      subst (λ (c : machine.Copy). Kept c → Kept (copies.answered bytes c) × (copies.answered bytes c ≡ machine.Copied base (stands bytes ∷ starts))) (sym is)
      (λ rule. (copy_kept space number (beside (machine.Copied base starts)) (machine.PageRead bytes) r rule may, refl)) rule

  pub files_ended_rule : (copy : machine.Copy) → Kept copy → Kept (machine.files_ended e.checkpoint copy)
  files_ended_rule copy rule = copy_kept space number (beside copy) machine.FilesEnded r rule tt

  pub pages_ended_rule : (copy : machine.Copy) → Kept copy → Kept (machine.pages_ended e.log copy)
  pages_ended_rule copy rule = copy_kept space number (beside copy) machine.PagesEnded r rule tt

  -- A page that isn't there has no frame, so it is clean.
  clean : (frame : Option (List ℕ)) → ((bytes : List ℕ) → redone space number e.log ≡ stands bytes → ⊥) → Framed frame (redone space number e.log) → Bare frame e.writing e.oldest e.flight → e.oldest ≡ None
  clean None absent framed bare = bare.1
  clean (Some bytes) absent framed bare = absurd (absent bytes framed)

  held_absent : (v : Standing) → redone space number e.log ≡ v → ((bytes : List ℕ) → v ≡ stands bytes → ⊥) → Held space number e.oldest v e.log
  held_absent v is absent =
      let none = clean e.frame (λ bytes there. absent bytes (sym is ∙ there)) r.framed r.bare in
      subst (λ (o : Option ℕ). Held space number o v e.log) (sym none) (subst (λ (u : Standing). Held space number None u e.log) is (Lax-refl _))

  -- a session begins
  pub first_rule : (tracked : Bool) (file : Option ℕ) → (tracked ≡ false → (e.writing ≡ false) × (e.flight ≡ None)) → (file ≡ None → redone space number e.log ≡ no_space) → Kept (if ends_before file number then machine.Untracked (past_end ∷ []) else machine.Idle)
      → Kept (copies.first_copy tracked (copies.first_starts file number))
  first_rule true file closed none short = tt
  first_rule false None closed none short = let c = closed refl in (c.0, c.1, (held_absent no_space (none refl) (λ bytes is. cc), tt))
  first_rule false (Some pages) closed none short = by (ends_before (Some pages) number) short
    where
      by : (past : Bool) → Kept (if past then machine.Untracked (past_end ∷ []) else machine.Idle) → Kept (machine.Untracked (if past then past_end ∷ [] else []))
      by true short = short
      by false short = let c = closed refl in (c.0, c.1, tt)

-- the stop
pub pages_ended_stopped : (base : ℕ) (starts : List Standing) (log : List (List Record)) (copy : machine.Copy) → copy ≡ machine.Copied base starts → machine.pages_ended log copy ≡ machine.Stopped base log starts
pages_ended_stopped base starts log copy is = ap (λ (c : machine.Copy). machine.pages_ended log c) is

-- a session begins
pub first_in_files : (tracked : Bool) (starts : List Standing) → copies.IsInFiles tracked (copies.first_copy tracked starts)
first_in_files true starts = refl
first_in_files false starts = (starts, refl)

-- What a clone has of all pages, beside a buffer and its writes: each page keeps its rule.

module _ (b : Buffered) (f : Flights) (m : DiskImage) where
  -- the page in the donor, whatever a clone has of it
  abbrev pub engine_at : ℕ → ℕ → machine.PageEngine
  engine_at space number = engine_of b (beside_of f no_copies) m space number

  abbrev Flown : Copies → Type 0
  Flown cs = IsFlown b f cs m

  -- what a clone has of a page keeps the rule
  abbrev pub IsRight : ℕ → ℕ → machine.Copy → Type 0
  IsRight space number copy = CopyRule space number (engine_at space number) copy

  engine : (cs : Copies) → Flown cs → (space number : ℕ) → EngineRule space number (engine_at space number)
  engine cs flown space number = (flown.kept.page space number).rule.engine

  right : (cs : Copies) → Flown cs → (space number : ℕ) → IsRight space number (cs space number)
  right cs flown space number = (flown.kept.page space number).rule.copy

  -- whatever else a clone has of each page, if it keeps the rule
  pub replaced : (cs others : Copies) → Flown cs → ((space number : ℕ) → IsRight space number (others space number)) → Flown others
  replaced cs others flown rules = record { kept = copy_keeps b (beside_of f cs) m others flown.kept rules; there = flown.there; floor = flown.floor }

  -- the session ends
  pub left_flown : (cs : Copies) → Flown cs → Flown no_copies
  left_flown cs flown = replaced cs no_copies flown (λ space number. tt)

  -- a page may have these bytes as an answer
  abbrev pub MayRead : (List ℕ → machine.Event) → copies.PageRead → Type 0
  MayRead event p = machine.Allowed p.0.0 p.0.1 (record { engine = engine_at p.0.0 p.0.1; copy = machine.Idle }) (event p.1)

  -- Answers of a stage, in which this holds of what a clone has of each page.
  module _ (Stage : ℕ → ℕ → machine.Copy → Type 0) (event : List ℕ → machine.Event)
      (answers : (space number : ℕ) (copy : machine.Copy) (bytes : List ℕ) → EngineRule space number (engine_at space number) → Stage space number copy → IsRight space number copy
      → MayRead event ((space, number), bytes) → IsRight space number (copies.answered bytes copy) × Stage space number (copies.answered bytes copy)) where
    abbrev Has : Copies → Type 0
    Has cs = (space number : ℕ) → Stage space number (cs space number)

    page_read : (cs : Copies) (p : copies.PageRead) → MayRead event p → Flown cs → Has cs → (space number : ℕ) → IsRight space number (copies.with_page p cs space number) × Stage space number (copies.with_page p cs space number)
    page_read cs p may flown has space number = by ((space == p.0.0) && (number == p.0.1)) refl
      where
        by : (same : Bool) → ((space == p.0.0) && (number == p.0.1)) ≡ same → (λ (c : machine.Copy). IsRight space number c × Stage space number c) (if same then copies.answered p.1 (cs space number) else cs space number)
        by false is = (right cs flown space number, has space number)
        by true is =
            let both = and_parts (space == p.0.0) (number == p.0.1) is in
            answers space number (cs space number) p.1 (engine cs flown space number) (has space number) (right cs flown space number)
            (subst (λ n. MayRead event ((space, n), p.1)) (sym (eqb-true number p.0.1 both.1)) (subst (λ s. MayRead event ((s, p.0.1), p.1)) (sym (eqb-true space p.0.0 both.0)) may))

    all_read : (list : List copies.PageRead) (cs : Copies) → AllByRecursion (MayRead event) list → Flown cs → Has cs → Flown (copies.with_pages list cs) × Has (copies.with_pages list cs)
    all_read [] cs may flown has = (flown, has)
    all_read (p ∷ list) cs may flown has =
        let one = page_read cs p may.0 flown has in
        all_read list (copies.with_page p cs) may.1 (replaced cs (copies.with_page p cs) flown (λ space number. (one space number).0)) (λ space number. (one space number).1)

  -- blocks of files were answered
  pub files_read : (pages : Option Pages) (list : List copies.PageRead) (cs : Copies) → AllByRecursion (MayRead (λ bytes. machine.FileRead bytes)) list → Flown cs → copies.AreInFiles pages cs → Flown (copies.with_pages list cs) × copies.AreInFiles pages (copies.with_pages list cs)
  files_read pages list cs =
      all_read (λ space number copy. copies.IsInFiles (copies.is_noted pages space number) copy) (λ bytes. machine.FileRead bytes)
      (λ space number copy bytes r is rule may. file_answered space number (engine_at space number) r (copies.is_noted pages space number) copy bytes is rule may) list cs

  -- blocks of pages were answered
  pub pages_read : (start : ℕ) (list : List copies.PageRead) (cs : Copies) → AllByRecursion (MayRead (λ bytes. machine.PageRead bytes)) list → Flown cs → copies.AreInPages start cs → Flown (copies.with_pages list cs) × copies.AreInPages start (copies.with_pages list cs)
  pages_read start list cs =
      all_read (λ space number copy. IsInPages start copy) (λ bytes. machine.PageRead bytes)
      (λ space number copy bytes r is rule may. let one = page_answered space number (engine_at space number) r start is.0 copy bytes is.1 rule may in (one.0, (stands bytes ∷ is.0, one.1))) list cs

  -- the copy of files ends
  pub files_over_flown : (pages : Option Pages) (cs : Copies) → copies.AreInFiles pages cs → Flown cs → Flown (copies.files_over f.checkpoint cs) × copies.AreInPages f.checkpoint (copies.files_over f.checkpoint cs)
  files_over_flown pages cs is flown = (
    replaced cs (copies.files_over f.checkpoint cs) flown (λ space number. files_ended_rule space number (engine_at space number) (engine cs flown space number) (cs space number) (right cs flown space number)),
    λ space number. files_ended_copied (copies.is_noted pages space number) (cs space number) f.checkpoint (is space number),
  )

  -- the stop
  pub pages_over_flown : (start : ℕ) (cs : Copies) → copies.AreInPages start cs → Flown cs → Flown (copies.pages_over b.log cs) × copies.AreStopped start b.log (copies.pages_over b.log cs)
  pages_over_flown start cs is flown = (
    replaced cs (copies.pages_over b.log cs) flown (λ space number. pages_ended_rule space number (engine_at space number) (engine cs flown space number) (cs space number) (right cs flown space number)),
    λ space number. let has = is space number in (has.0, pages_ended_stopped start has.0 b.log (cs space number) has.1),
  )

  -- A session begins, where each page that isn't noted is closed, a space without a file isn't
  -- there, and a clone may have of each page past its file's end that it isn't there.
  pub first_flown : (pages : Option Pages) → ((space number : ℕ) → copies.is_noted pages space number ≡ false → ((engine_at space number).writing ≡ false) × ((engine_at space number).flight ≡ None)) → ((space number : ℕ) → finite.get f.files space ≡ None → redone space number b.log ≡ no_space)
      → Flown (beyond f.files) → Flown (copies.first_copies pages f.files) × copies.AreInFiles pages (copies.first_copies pages f.files)
  first_flown pages closed none short = (
    replaced (beyond f.files) (copies.first_copies pages f.files) short
        (λ space number. first_rule space number (engine_at space number) (engine (beyond f.files) short space number) (copies.is_noted pages space number) (finite.get f.files space) (closed space number) (none space number) (right (beyond f.files) short space number)),
    λ space number. first_in_files (copies.is_noted pages space number) (copies.first_starts (finite.get f.files space) number),
  )

-- A flush of a page begins, and the tracker notes it.

-- the page is the one that is noted
pub same_page : (page : PageName) (space number : ℕ) → is_same page (record { space = space; number = number }) ≡ eq_by_cmp row_cmp (space, number) (page.space, page.number)
same_page page space number =
    (λ i. sym (unsigned_tied page.space space) i && sym (unsigned_tied page.number number) i)
    ∙ tied_then (nat_cmp page.space space) (nat_cmp page.number number)
    ∙ (eq_by_cmp_equiv row_cmp_total).symm (page.space, page.number) (space, number)

abbrev pub chosen : Bool → machine.Copy → machine.Copy
chosen is copy = if is then machine.noted copy else copy

-- what was noted before, or is now
pub noted_by : (pages : Option Pages) (page : PageName) (space number : ℕ) → IsSome pages → copies.is_noted (noted (page.space, page.number) pages) space number ≡ cond (is_same page (record { space = space; number = number })) true (copies.is_noted pages space number)
noted_by None page space number tracks = absurd (cc)
noted_by (Some set) page space number tracks =
    ap is_some (finite.get-insert row_cmp_total set (page.space, page.number) tt (space, number))
    ∙ ap (λ is. is_some (cond is (Some tt) (finite.get set (space, number)))) (sym (same_page page space number))
    ∙ some (is_same page (record { space = space; number = number })) (finite.get set (space, number))
  where
    some : (is : Bool) (o : Option (Unit {0})) → is_some (cond is (Some tt) o) ≡ cond is true (is_some o)
    some true o = refl
    some false o = refl

pub begun_in_files : (pages : Option Pages) (page : PageName) (cs : Copies) → IsSome pages → copies.AreInFiles pages cs → copies.AreInFiles (noted (page.space, page.number) pages) (with_noted page cs)
begun_in_files pages page cs tracks is space number =
    let same = is_same page (record { space = space; number = number }) in
    subst (λ tracked. copies.IsInFiles tracked (chosen same (cs space number))) (sym (noted_by pages page space number tracks)) (by same (copies.is_noted pages space number) (cs space number) (is space number))
  where
    by : (same tracked : Bool) (copy : machine.Copy) → copies.IsInFiles tracked copy → copies.IsInFiles (cond same true tracked) (chosen same copy)
    by true tracked copy is = noted_in_files tracked copy is
    by false tracked copy is = is

-- Behind the copy of files it changes nothing.

noted_same : (copy : machine.Copy) (is : Bool) → machine.noted copy ≡ copy → chosen is copy ≡ copy
noted_same copy true same = same
noted_same copy false same = refl

pub begun_in_pages : (start : ℕ) (page : PageName) (cs : Copies) → copies.AreInPages start cs → copies.AreInPages start (with_noted page cs)
begun_in_pages start page cs is space number =
    let has = is space number in
    (has.0, noted_same (cs space number) _ (subst (λ c. machine.noted c ≡ c) (sym has.1) refl) ∙ has.1)

pub begun_stopped : (start : ℕ) (log : List (List Record)) (page : PageName) (cs : Copies) → copies.AreStopped start log cs → copies.AreStopped start log (with_noted page cs)
begun_stopped start log page cs is space number =
    let has = is space number in
    (has.0, noted_same (cs space number) _ (subst (λ c. machine.noted c ≡ c) (sym has.1) refl) ∙ has.1)

pub begun_idle : (page : PageName) (cs : Copies) → ((space number : ℕ) → cs space number ≡ machine.Idle) → (space number : ℕ) → with_noted page cs space number ≡ machine.Idle
begun_idle page cs is space number = noted_same (cs space number) _ (subst (λ c. machine.noted c ≡ c) (sym (is space number)) refl) ∙ is space number

-- The pages and the files that a session begins with.

-- Which pages are noted: those of a list where it was noted, and then those that are listed.

same_row : (x y : ℕ × ℕ) → eq_by_cmp row_cmp x y ≡ true → x ≡ y
same_row x y is = row_cmp_exact x y (is_equal (row_cmp x y) is)

is_some_cond : (b : Bool) (o : Option (Unit {0})) → is_some (cond b (Some tt) o) ≡ (b || is_some o)
is_some_cond true o = refl
is_some_cond false o = refl

any_noted : (pages : List (ℕ × ℕ)) (page : ℕ × ℕ) → finite.contains_key (all_noted pages finite.empty) page ≡ list_any (eq_by_cmp row_cmp page) pages
any_noted [] page = ap is_some (finite.get-empty row_cmp page)
any_noted (p ∷ ps) page =
    ap is_some (finite.get-insert row_cmp_total (all_noted ps finite.empty) p tt page)
    ∙ is_some_cond (eq_by_cmp row_cmp page p) (finite.get (all_noted ps finite.empty) page)
    ∙ ap (λ (b : Bool). eq_by_cmp row_cmp page p || b) (any_noted ps page)

module _ (pages : List (ℕ × ℕ)) (space number : ℕ) where
  abbrev noted_here : Bool
  noted_here = copies.is_noted (Some (all_noted pages finite.empty)) space number

  pub noted_listed : noted_here ≡ true → Contains pages (space, number)
  noted_listed is = Contains-from_any same_row (space, number) pages (sym (any_noted pages (space, number)) ∙ is)

  pub unnoted : noted_here ≡ false → Contains pages (space, number) → ⊥
  unnoted is has = true≢false (sym (any_noted pages (space, number) ∙ list_any-from_Contains (eq_by_cmp_equiv row_cmp_total) (space, number) pages has) ∙ is)

-- each page that is noted is listed, and no other
pub listed_pages : (e : Engine) (pages : Option Pages) → NotesPages e pages → ArePages e (listed pages)
listed_pages e None notes = tt
listed_pages e (Some set) notes = recursion_from_All (λ page. IsPageOf e page.0 page.1) (finite.keys set)
    (λ k other low. let page = get_or (finite.keys set) k other in
    notes page.0 page.1 (finite.contains_key-keys set page ∙ list_any-from_Contains (eq_by_cmp_equiv row_cmp_total) page (finite.keys set) (All-contains_itself (finite.keys set) k other low)))

-- The pages whose write counts as open are the donor's.

-- a frame with such a page has it, and it isn't new
module _ (uses : ℕ) (f : Frame) (is : IsFrame uses f) (page : ℕ × ℕ) (opens : open_page f ≡ Some page) where
  abbrev page_if : Bool → Option PageName → Option (ℕ × ℕ)
  page_if counts name = if counts then option_map (λ (name : PageName). (name.space, name.number)) name else None

  open_old : is_fresh f.content ≡ false
  open_old = by (is_fresh f.content) refl
    where
      by : (fresh : Bool) → is_fresh f.content ≡ fresh → is_fresh f.content ≡ false
      by true fresh = let none : None ≡ Some page = sym (ap (λ flush. page_if (counts_as_open flush) (name_of f)) (is.clean (is.fresh fresh).1)) ∙ opens in absurd (cc)
      by false old = old

  open_name : name_of f ≡ Some (record { space = page.0; number = page.1 })
  open_name = by (counts_as_open f.flush) (name_of f) opens
    where
      by : (counts : Bool) (o : Option PageName) → page_if counts o ≡ Some page → o ≡ Some (record { space = page.0; number = page.1 })
      by false o some = absurd (cc)
      by true None some = absurd (cc)
      by true (Some name) some = let same : (name.space, name.number) ≡ page = cc in λ i. Some (record { space = (same i).0; number = (same i).1 })

-- so each page of them is one of the image
pub open_notes : (e : Engine) (pages : List (ℕ × ℕ)) → IsBuffer e.buffer → IsPool e.buffer.pool → IsTrue e.buffer.right → AreOpenPages e.buffer.pool.frames pages → NotesPages e (Some (all_noted pages finite.empty))
open_notes e pages buffer pool right opens space number noted =
    let b : Buffered = e.buffer in
    let (at, there) = (opens.exact (space, number)).0 (noted_listed pages space number noted) in
    let f : Frame = frame_at b.pool.frames at in
    let found = in_image b (record { space = space; number = number }) buffer right (record { at = at; name = open_name b.pool.uses f (pool.frame at) (space, number) there; old = open_old b.pool.uses f (pool.frame at) (space, number) there }) in
    ap is_some found.1

-- The files of an engine, as they are listed: their chunks have numbers, and a space that has none
-- isn't there.

not_tied : (r : Ordering) → T (is_lt r) → is_eq r ≡ false
not_tied Less below = refl
not_tied Equal below = absurd below
not_tied Greater below = absurd below

parts : (a b : Bool) → T (a && b) → T a × T b
parts true b both = (tt, both)
parts false b both = absurd both

none_below : (key : ℕ) (es : List (ℕ × ℕ)) → T (below_all nat_cmp key es) → finite.find nat_cmp key es ≡ None
none_below key [] below = refl
none_below key (e ∷ es) below =
    let p = parts (is_lt (nat_cmp key e.0)) (below_all nat_cmp key es) below in
    ap (λ (b : Bool). cond b (Some e.1) (finite.find nat_cmp key es)) (not_tied (nat_cmp key e.0) p.0) ∙ none_below key es p.1

-- what a map finds it has, and no more
module _ (P : ℕ → ℕ → Type 0) where
  all_found : (es : List (ℕ × ℕ)) → T (finite.is_sorted nat_cmp es) → ((key value : ℕ) → finite.find nat_cmp key es ≡ Some value → P key value) → All (λ e. P e.0 e.1) es
  all_found [] sorted found = All-nil (λ e. P e.0 e.1)
  all_found (e ∷ es) sorted found =
      All-cons (λ e. P e.0 e.1) e es (found e.0 e.1 (ap (λ b. cond b (Some e.1) (finite.find nat_cmp e.0 es)) (unsigned_tied e.0 e.0 ∙ eq-eqb e.0 e.0 refl))) (all_found es p.1 later)
    where
      p : T (below_all nat_cmp e.0 es) × T (finite.is_sorted nat_cmp es)
      p = parts (below_all nat_cmp e.0 es) (finite.is_sorted nat_cmp es) sorted

      later : (key value : ℕ) → finite.find nat_cmp key es ≡ Some value → P key value
      later key value is =
          elim (eqb_tells key e.0) [
            | inl same ↦ let none : None ≡ Some value = sym (ap (λ k. finite.find nat_cmp k es) same.1 ∙ none_below e.0 es p.0) ∙ is in absurd (cc)
            | inr other ↦ found key value (ap (λ b. cond b (Some e.1) (finite.find nat_cmp key es)) (unsigned_tied key e.0 ∙ other.0) ∙ is)
          ]

  -- so each entry is one that the map finds
  pub all_entries : (files : Files) → ((space pages : ℕ) → finite.get files space ≡ Some pages → P space pages) → All (λ e. P e.0 e.1) (finite.entries files)
  all_entries files each = all_found (finite.entries files) (finite.entries_sorted files) (λ space pages is. each space pages (finite.get-entries files space ∙ is))

found_entry : (es : List (ℕ × ℕ)) (key value : ℕ) → finite.find nat_cmp key es ≡ Some value → Contains es (key, value)
found_entry [] key value is = absurd (cc)
found_entry (e ∷ es) key value is =
    elim (eqb_tells key e.0) [
      | inl same ↦
          let found : Some e.1 ≡ Some value = sym (ap (λ b. cond b (Some e.1) (finite.find nat_cmp key es)) (unsigned_tied key e.0 ∙ same.0)) ∙ is in
          let value_is : e.1 ≡ value = cc in
          (0, omega arith, λ i. (sym same.1 i, value_is i))
      | inr other ↦
          let there = found_entry es key value (sym (ap (λ b. cond b (Some e.1) (finite.find nat_cmp key es)) (unsigned_tied key e.0 ∙ other.0)) ∙ is) in
          (suc there.0, omega (arith, there.1), there.2)
    ]

pub has_entry : (files : Files) (space pages : ℕ) → finite.get files space ≡ Some pages → Contains (finite.entries files) (space, pages)
has_entry files space pages is = found_entry (finite.entries files) space pages (sym (finite.get-entries files space) ∙ is)

-- there are few files, and each has few chunks
pub are_files : (d : Donor) (files : Files) → AreOfDonor d files → IsSafe d → AreFiles (finite.entries files)
are_files d files is safe =
    let few_chunks : ℕ → ℕ → Type 0 = λ space pages. div_ceil pages CHUNK_PAGES ≤ 1025 in
    let each = all_entries few_chunks files (λ space pages known. let most = (is.sizes space pages known).1 in omega (arith, most)) in
    let sum = sum_by-le (λ space. div_ceil space.1 CHUNK_PAGES) 1025 (finite.entries files) each in
    (omega (arith, sum, is.count, safe.tables.few, finite.len-entries files), omega (arith, is.count, safe.tables.few, finite.len-entries files))

-- A SPACE WITHOUT A FILE isn't there.
module _ (e : Engine) (is : IsEngine e) (buffer : IsBuffer e.buffer) (right : IsTrue e.buffer.right) (space number : ℕ) (none : finite.get e.flights.files space ≡ None) where
  not_there : IsSome (finite.get e.flights.files space) → ⊥
  not_there some = absurd (let wrong : false ≡ true = sym (ap is_some none) ∙ some in cc)

  other : space ≢ 0
  other system = not_there (subst (λ (s : ℕ). IsSome (finite.get e.flights.files s)) (sym system) is.spaces.system)

  no_table : (o : Option ℕ) → finite.get e.donor.tables space ≡ o → finite.get e.donor.tables space ≡ None
  no_table None table = table
  no_table (Some count) table = absurd (not_there (is.spaces.tables space (ap is_some table)))

  no_pages : (o : Option (List (List ℕ))) → option_map length o ≡ None → o ≡ None
  no_pages None count = refl
  no_pages (Some pages) count = absurd (cc)

  pub no_file : redone space number e.buffer.log ≡ no_space
  no_file =
      let count = (is.keeps.kept right).sound.tables.spaces space other (no_table (finite.get e.donor.tables space) refl) in
      sym (replayed_is_redone e.buffer.log space number (omega (arith, buffer.below)))
      ∙ ap (λ (o : Option (List (List ℕ))). standing_in o number) (no_pages (finite.get (image_of e.buffer) space) count)
