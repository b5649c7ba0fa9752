-- The blocks of a clone: what is read, and what was taken by them.
use Rattle.std.specs.Prelude.{IsErr, not, slice_get, ◌==◌, ◌&&◌}
use Rattle.std.proofs.Common.{[], ◌≡◌, ℕ, List, refl, sym, subst, arith, Option, None, Some, IsSome, Result, Ok, Err, OnOk, IfErr, ◌<◌, ◌+◌, ◌++◌, ◌∷◌, ◌∙◌, length, get_or, take, ap, map, ◌≤◌, Bool, true, false, option_map, if◌then◌else◌}
use Rattle.clone_outside.specs.Disk as disk
use Rattle.clone_outside.specs.Disk.{DiskImage, ForTold, GivesQuiet}
use Rattle.clone_outside.specs.declared.Refusal.{Refusal}
use Rattle.clone_image.specs.Image.{page_of}
use Rattle.clone_law.specs.Machine.{Event, Allowed, FileRead, PageRead}
use Rattle.clone_buffer.specs.Buffered.{IsBuffer, image_of}
use Rattle.clone_buffer.specs.Keeping.{IsKept}
use Rattle.clone_buffer.specs.OnePage.{Beside, Copies, no_copies, world_of}
use Rattle.clone_buffer.specs.Reading.{IsLatest, OthersAreClosed}
use Rattle.clone_buffer.proofs.ReadLemmas.{file_read_allowed}
use Rattle.clone_flush.specs.Flights.{HasFiles, IsFlown, beside_of}
use Rattle.clone_plain.specs.declared.refusal.Cause.TheVariants.{DiskFault}
use Rattle.clone_plain.specs.declared.refusal.EngineRefusal.{EngineRefusal}
use Rattle.clone_plain.specs.declared.refusal.EngineRefusal.TheVariants.{Because, NoMemory}
use Rattle.clone_outside.specs.DiskCalls.{DiskState, Reads}
use Rattle.clone_engine.specs.Engine.{Engine, IsEngine, IsInFile, MakesPages}
use Rattle.clone_engine.specs.Reading.{ReadsFile, ReadsPage, ListsOpen, OnlyVisits, read_answer, MayHappen}
use Rattle.clone_flush.proofs.FileLemmas.{page_there as page_on_disk}
use Rattle.clone_engine.proofs.EngineLemmas.{spaced_by, retold}
use Rattle.clone_engine.proofs.ToldLemmas.{told_both, of_told}
use Rattle.std.specs.List.{AllByRecursion, All, Contains, flat_map, range_with_len}
use Rattle.std.proofs.lemmas.List.{map-append, take_more, length-map}
use Rattle.clone_base.proofs.Lists.{All-push}
use Rattle.clone_page.specs.declared.pages.PageAt.{PageAt}
use Rattle.clone_engine.specs.Copying.{FailsReading, RefusesBlock, ReadsIn, places_of, Gives, IsBlock, IsRedo, ReadsPageOf, taken_from}
use Rattle.clone_engine.specs.Donor.{IsPageOf, ArePages, CopiesOwn, Donor, HasPages, IsDonor, list_of}
use Rattle.clone_engine.specs.Copies as copies
use Rattle.clone_engine.specs.Copies.{AreInFiles, AreInPages, with_pages}
use Rattle.clone_track.specs.TrackedPages.{Pages}
use Rattle.clone_engine.proofs.TakenPages.{MayRead, files_read, pages_read}
use Rattle.std.specs.Option.{option_or, option_map_or}
use Rattle.std.proofs.lemmas.Bool.{eqb-true, true≢false}
use Rattle.clone_chunk.specs.declared.chunk.Chunk.{Chunk}
use Rattle.clone_chunk.specs.declared.chunk.Chunk.TheVariants.{Free, Claimed, Finished}
use Rattle.std.proofs.lemmas.List.Elements.{All-append, All-contains, All-from_recursion, All-head, All-map, All-nil, All-tail, All-weaker, recursion_from_All}
use Rattle.std.proofs.lemmas.List.FromFn.{get_or-range_with_len, length-range_with_len}
use Rattle.clone_base.specs.declared.limits.TheConstants.{BLOCK_BYTES, BLOCK_PAGES}
use Rattle.clone_chunk.specs.Stages.{stage_number}
use Rattle.clone_snapshot.specs.StageLists as lists
use Rattle.clone_snapshot.specs.declared.block.RedoBlock.{RedoBlock}
use Rattle.clone_snapshot.specs.declared.listing.Listing.TheVariants as listing
use Rattle.clone_snapshot.proofs.EachBlock.{block_sized, no_pages, pages_listed, redo_alone}
use Rattle.clone_calls.specs.Answering.{is_redo}
use Rattle.clone_session.specs.declared.caller.Caller.{Caller}
use Rattle.clone_session.specs.declared.copying.BlockWork.{BlockWork}
use Rattle.clone_session.specs.declared.copying.BlockWork.TheVariants as work
use Rattle.clone_chunk.specs.declared.cause.CloneCause.{CloneCause}
use Rattle.clone_chunk.specs.declared.cause.CloneCause.TheVariants.{NoSuchSession}
use Rattle.clone_session.specs.Cloning.{Cloning, IsCloning, IsInSession, IsInStage, Session}
use Rattle.clone_session.specs.CloneCalls.{Answers, HasClaimed, IsBlockOf, OnSession, part_of}
use Rattle.clone_session.proofs.PartLemmas.{stands_as}
use Rattle.clone_session.specs.CloneCauses.{archive_behind, block_cause, donor_stage, is_claimed, not_claimed, other_stage, session_of, stale, whether}
use Rattle.clone_session.specs.Effects.{finished}
use Rattle.clone_calls.specs.declared.block.Block.{Block}
use Rattle.clone_calls.specs.declared.block.Block.TheVariants as block
use Rattle.clone_calls.specs.declared.answer.DonorAnswer.TheVariants as answer
use Rattle.clone_calls.specs.declared.block.BlockRefusal.{BlockRefusal}
use Rattle.clone_calls.specs.declared.block.BlockRefusal.TheVariants as refused
use Rattle.clone_calls.specs.declared.call.DonorCall.TheVariants as call
use Rattle.clone_session.specs.declared.refusal.CloneRefusal.TheVariants as refusal
use Rattle.clone_engine.specs.Acts as act
use Rattle.clone_engine.specs.Taken.{IsTaken, IsTakenBy, IsTakenIn, Taken}
use Rattle.clone_engine.proofs.GoingLemmas.{Like, like_same, like_session}
use Rattle.clone_engine.proofs.SessionActs.{retold_stays}

-- What was read of a donor's pages.

module _ (e : Engine) (is : IsEngine e) (b : IsBuffer e.buffer) (space number : ℕ) (bytes : List ℕ) where
  abbrev Flown : DiskImage → Type 0
  Flown m = IsFlown e.buffer e.flights no_copies m

  abbrev Within : Type 0
  Within = MakesPages e.flights.files e.buffer

  abbrev HasAll : DiskImage → Type 0
  HasAll m = Flown m × HasFiles e.flights.files m × Within

  abbrev GivesBytes : DiskImage → Type 0
  GivesBytes m = GivesQuiet m space number bytes

  abbrev Latest : DiskImage → Type 0
  Latest m = (beside : Beside) → IsKept e.buffer beside m → IsSome (page_of (image_of e.buffer) space number) → IsLatest e.buffer beside m space number bytes

  abbrev Is : DiskImage → Type 0
  Is m = page_of (image_of e.buffer) space number ≡ Some bytes

  abbrev Allows : Event → DiskImage → Type 0
  Allows event m = (copies : Copies) → Allowed space number (world_of e.buffer (beside_of e.flights copies) m space number) event

  all : (told : Option DiskImage) → ForTold told Flown → ForTold told (HasFiles e.flights.files) → ForTold told (λ _. Within) → ForTold told HasAll
  all None flown files within = tt
  all (Some m) flown files within = (flown, files, within)

  -- a page within its file is on the disk
  on_disk : (m : DiskImage) → HasFiles e.flights.files m → IsInFile e space number → IsSome (disk.page_of m space number)
  on_disk m files inside = let long = files space inside.pages inside.file in page_on_disk m space number long.0 long.1 (omega (arith, inside.within, long.2))

  pub reads_file : ForTold e.disk.told GivesBytes → ReadsFile e space number bytes
  reads_file quiet = record {
    quiet = quiet;
    allowed = λ inside. told_both HasAll GivesBytes (Allows (FileRead bytes)) e.disk.told
        (λ m had gives copies. file_read_allowed e.buffer (beside_of e.flights no_copies) m space number bytes b had.0.kept (spaced_by e.buffer space number b (had.2 space number inside)) (on_disk m had.1 inside) gives)
        (all e.disk.told is.stands is.files is.within) quiet;
  }

  pub reads_page : ForTold e.disk.told Latest → ReadsPage e space number bytes
  reads_page latest = record {
    page = λ made. told_both Flown Latest Is e.disk.told (λ m flown reads. (reads (beside_of e.flights no_copies) flown.kept made).page) is.stands latest;
    allowed = λ made. told_both Flown Latest (Allows (PageRead bytes)) e.disk.told (λ m flown reads copies. (reads (beside_of e.flights no_copies) flown.kept made).allowed) is.stands latest;
  }

-- each page that isn't listed is closed
pub lists_open : (e : Engine) (pages : List (ℕ × ℕ)) → IsEngine e → ((m : DiskImage) → IsFlown e.buffer e.flights no_copies m → OthersAreClosed e.buffer (beside_of e.flights no_copies) m pages) → ListsOpen e pages
lists_open e pages is others = by e.disk.told is.stands
  where
    by : (told : Option DiskImage) → ForTold told (IsFlown e.buffer e.flights no_copies) → ForTold told (λ m. (copies : Copies) → OthersAreClosed e.buffer (beside_of e.flights copies) m pages)
    by None stands = tt
    by (Some m) stands = λ copies. others m stands

-- a call that only asked the disk
pub visited : {P : Type 0} (e : Engine) (l : DiskState) → Reads P e.disk l → OnlyVisits e (record e { disk = l })
visited e l r = record { same = λ i. record e { disk = record { told = r.told i; stops = r.stops i; failures = l.failures; orders = r.orders i } }; later = r.later }

-- The answer of a read.
module _ {X : Type 0} (read : Result X Refusal) (result : Result X EngineRefusal) (is : result ≡ read_answer read) where
  pub answer_ok : (P Q : Type 0) → (P → Q) → OnOk read P → OnOk result Q
  answer_ok P Q to p = subst (λ (r : Result X EngineRefusal). OnOk r Q) (sym is) (by read p)
    where
      by : (r : Result X Refusal) → OnOk r P → OnOk (read_answer r) Q
      by (Ok x) p = to p
      by (Err refusal) p = tt

  pub answer_refused : IfErr result (λ refusal. refusal ≡ Because DiskFault)
  answer_refused = subst (λ (r : Result X EngineRefusal). IfErr r (λ refusal. refusal ≡ Because DiskFault)) (sym is) (by read)
    where
      by : (r : Result X Refusal) → IfErr (read_answer r) (λ refusal. refusal ≡ Because DiskFault)
      by (Ok x) = tt
      by (Err refusal) = refl

  pub answer_reads : (k l : DiskState) → Reads (IsErr read) k l → Reads (IsErr result) k l
  answer_reads k l r = record { told = r.told; stops = r.stops; orders = r.orders; later = r.later; fault = λ err. r.fault (by read (subst IsErr is err)) }
    where
      by : (r : Result X Refusal) → IsErr (read_answer r) → IsErr r
      by (Ok x) err = err
      by (Err refusal) err = err

-- The blocks of a clone: what they have, and what was taken by them.

-- The pages of a block that a donor gives, each read of the engine as it was.

-- An engine that was only visited

pub visits_none : (e : Engine) → OnlyVisits e e
visits_none e = record { same = refl; later = omega arith }

pub visits_more : (a b c : Engine) → OnlyVisits a b → OnlyVisits b c → OnlyVisits a c
visits_more a b c first second = record {
  same = second.same ∙ ap (λ (x : Engine). record x { disk = record x.disk { failures = c.disk.failures } }) first.same;
  later = omega (arith, first.later, second.later);
}

-- a page that was read then was read of the donor as it was
as_read : (stage : ℕ) (e f : Engine) (p : PageAt) → OnlyVisits e f → ReadsIn stage f p → ReadsIn stage e p
as_read stage e f p is = subst (λ (x : Engine). ReadsIn stage x p → ReadsIn stage e p) (sym is.same)
    (λ r. (λ one. let x = r.0 one in record { quiet = x.quiet; allowed = λ own. x.allowed (record { pages = own.pages; file = own.file; within = own.within }) }, λ other. let x = r.1 other in record { page = x.page; allowed = x.allowed }))

-- it is one still
pub visited_engine : (e f : Engine) → OnlyVisits e f → IsEngine e → IsEngine f
visited_engine e f visits is = subst IsEngine (sym visits.same) (retold e (record e.disk { failures = f.disk.failures }) refl is)

-- THE PAGES of a block, of which so many were read, and nothing has changed but the disk's count of
-- faults
pub record HasRead (stage : ℕ) (block : List (ℕ × ℕ)) (d e : Engine) (count : ℕ) (pages : List PageAt) : Type 0 where
  pub places : places_of pages ≡ take count block
  pub read : AllByRecursion (ReadsIn stage d) pages
  pub visits : OnlyVisits d e

-- one page more
pub read_more : (stage : ℕ) (block : List (ℕ × ℕ)) (d e f : Engine) (i : ℕ) (pages new : List PageAt) (list : List (ℕ × ℕ)) (page : PageAt) → list ≡ block → i < length list → OnlyVisits e f → ReadsIn stage e page
    → (page.space ≡ (get_or list i (0, 0)).0) × (page.number ≡ (get_or list i (0, 0)).1) → new ≡ pages ++ page ∷ [] → HasRead stage block d e i pages → HasRead stage block d f (i + 1) new
read_more stage block d e f i pages new list page same within visits read place is had = record {
  places = ap places_of is ∙ map-append (λ (x : PageAt). (x.space, x.number)) pages (page ∷ []) ∙ (λ k. had.places k ++ (place.0 k, place.1 k) ∷ [])
      ∙ ap (λ (l : List (ℕ × ℕ)). take i block ++ get_or l i (0, 0) ∷ []) same ∙ sym (take_more block i (0, 0) (subst (λ (l : List (ℕ × ℕ)). i < length l) same within));
  read = subst (AllByRecursion (ReadsIn stage d)) (sym is) (All-push (ReadsIn stage d) pages page had.read (as_read stage d e page had.visits read));
  visits = visits_more d e f had.visits visits;
}

-- What was taken of a donor after a block of it was answered.

-- the pages of a block, as they were read
abbrev pub read_of : List PageAt → List copies.PageRead
read_of pages = map (λ p. ((p.space, p.number), p.page)) pages

module _ (e : Engine) (m : DiskImage) (told : e.disk.told ≡ Some m) where
  -- what the law of a page allows of an engine over this disk
  allowed : (event : List ℕ → Event) (p : PageAt) → MayHappen e p.space p.number (event p.page) → MayRead e.buffer e.flights m event ((p.space, p.number), p.page)
  allowed event p may = of_told (λ m. (copies : Copies) → Allowed p.space p.number (world_of e.buffer (beside_of e.flights copies) m p.space p.number) (event p.page)) e.disk.told m told may no_copies

  module _ (own : PageAt → Type 0) where
    all_allowed : (event : List ℕ → Event) (Reads : PageAt → Type 0) → ((p : PageAt) → own p → Reads p → MayHappen e p.space p.number (event p.page)) → (pages : List PageAt) → AllByRecursion own pages → AllByRecursion Reads pages
        → AllByRecursion (MayRead e.buffer e.flights m event) (read_of pages)
    all_allowed event Reads to [] owns reads = tt
    all_allowed event Reads to (p ∷ ps) owns reads = (allowed event p (to p owns.0 reads.0), all_allowed event Reads to ps owns.1 reads.1)

-- each page of a block lies within its file, or is one of the image
abbrev pub AreInFile : Engine → List PageAt → Type 0
AreInFile e pages = AllByRecursion (λ p. IsInFile e p.space p.number) pages

abbrev pub AreOfImage : Engine → List PageAt → Type 0
AreOfImage e pages = AllByRecursion (λ p. IsPageOf e p.space p.number) pages

module _ (e : Engine) (m : DiskImage) (told : e.disk.told ≡ Some m) (pages : List PageAt) (cs : Copies) (flown : IsFlown e.buffer e.flights cs m) where
  pub files_answered : AreInFile e pages → (noted : Option Pages) → AllByRecursion (λ p. ReadsFile e p.space p.number p.page) pages → AreInFiles noted cs → IsFlown e.buffer e.flights (with_pages (read_of pages) cs) m × AreInFiles noted (with_pages (read_of pages) cs)
  files_answered own noted reads are = files_read e.buffer e.flights m noted (read_of pages) cs (all_allowed e m told (λ p. IsInFile e p.space p.number) (λ bytes. FileRead bytes) (λ p. ReadsFile e p.space p.number p.page) (λ p own read. read.allowed own) pages own reads) flown are

  pub pages_answered : AreOfImage e pages → (start : ℕ) → AllByRecursion (λ p. ReadsPage e p.space p.number p.page) pages → AreInPages start cs → IsFlown e.buffer e.flights (with_pages (read_of pages) cs) m × AreInPages start (with_pages (read_of pages) cs)
  pages_answered own start reads are = pages_read e.buffer e.flights m start (read_of pages) cs (all_allowed e m told (λ p. IsPageOf e p.space p.number) (λ bytes. PageRead bytes) (λ p. ReadsPage e p.space p.number p.page) (λ p own read. read.allowed own) pages own reads) flown are

-- A block that is read of a donor, in the stage that its session has come to; and what was taken
-- then.

-- THE STAGE: where no cause is against a block, it is the donor's.

both_none : (a b : Option CloneCause) → option_or a b ≡ None → (a ≡ None) × (b ≡ None)
both_none None b none = (refl, none)
both_none (Some cause) b none = absurd (let e = none in cc)

is_so : (b : Bool) (cause : CloneCause) → whether (not b) cause ≡ None → b ≡ true
is_so true cause none = refl
is_so false cause none = absurd (let e = none in cc)

-- the session is in the stage, and the task has claimed the chunk and may have the block
clear_is : (c : Cloning) (caller : Caller) (stage chunk number : ℕ) (s : Session) → session_of c caller.session ≡ Some s → block_cause c caller stage chunk number ≡ None → (other_stage s stage ≡ None) × (not_claimed s caller.task chunk number ≡ None)
clear_is c caller stage chunk number s stands none =
    let archived : Option CloneCause = archive_behind c.archive (lists.block_of s.snap.list chunk number) in
    let behind : Option CloneCause = option_or (not_claimed s caller.task chunk number) archived in
    let at : option_or (stale s caller.incarnation) (option_or (other_stage s stage) behind) ≡ None =
    subst (λ (o : Option Session). option_map_or (λ s. option_or (stale s caller.incarnation) (option_or (other_stage s stage) (option_or (not_claimed s caller.task chunk number) (archive_behind c.archive (lists.block_of s.snap.list chunk number))))) o (Some NoSuchSession) ≡ None) stands none in
    let here = both_none (other_stage s stage) behind (both_none (stale s caller.incarnation) (option_or (other_stage s stage) behind) at).1 in
    (here.0, (both_none (not_claimed s caller.task chunk number) archived here.1).0)

pub stage_is : (c : Cloning) (caller : Caller) (stage chunk number : ℕ) (s : Session) → session_of c caller.session ≡ Some s → block_cause c caller stage chunk number ≡ None → stage ≡ donor_stage s
stage_is c caller stage chunk number s stands none =
    eqb-true stage (donor_stage s) (is_so (stage == donor_stage s) _ (clear_is c caller stage chunk number s stands none).0)

first_true : (a b : Bool) → (a && b) ≡ true → a ≡ true
first_true true b both = refl
first_true false b both = both

claimed_chunk : (task : ℕ) (chunk : Option Chunk) → is_claimed task chunk ≡ true → chunk ≡ Some (Claimed task)
claimed_chunk task None is = absurd (true≢false (sym is))
claimed_chunk task (Some Free) is = absurd (true≢false (sym is))
claimed_chunk task (Some (Claimed by)) is = ap (λ (t : ℕ). Some (Claimed t)) (eqb-true by task is)
claimed_chunk task (Some Finished) is = absurd (true≢false (sym is))

pub claimed_is : (c : Cloning) (caller : Caller) (stage chunk number : ℕ) (made : BlockWork) → block_cause c caller stage chunk number ≡ None → IsBlockOf c caller.session chunk number made → HasClaimed caller chunk c
claimed_is c caller stage chunk number made none of =
    let on = of.0 in
    let clear = clear_is c caller stage chunk number on.0 on.1 none in
    (on.0, on.1, claimed_chunk caller.task (slice_get on.0.snap.chunks chunk) (first_true _ _ (first_true _ _ (is_so _ _ clear.1))))

-- A BLOCK is of redo exactly where its stage copies redo.
abbrev is_of_redo : BlockWork → Bool
is_of_redo (work.Pages pages) = false
is_of_redo (work.Redo redo) = true

work_kind : (l : lists.StageList) (chunk number : ℕ) (made : BlockWork) → lists.block_of l chunk number ≡ Some (part_of made) → is_of_redo made ≡ (stage_number (lists.stage_of l) == 3)
work_kind l chunk number (work.Redo redo) is =
    let (start, until, same) = redo_alone l chunk number redo.from redo.length is in
    subst (λ (x : lists.StageList). true ≡ (stage_number (lists.stage_of x) == 3)) (sym same) refl
work_kind l chunk number (work.Pages pages) is = by l is
  where
    by : (x : lists.StageList) → lists.block_of x chunk number ≡ Some (lists.PagePart pages) → false ≡ (stage_number (lists.stage_of x) == 3)
    by (lists.Files spaces) has = refl
    by (lists.Pages listed) has = refl
    by (lists.Redo start until) has = absurd (no_pages (listing.Redo start until) chunk number pages (λ spaces e. cc) (λ listed e. cc) has)
    by lists.Nothing has = refl

block_kind : (l : lists.StageList) (d : Donor) (made : BlockWork) (read : Block) → IsBlock l d made read → is_redo read ≡ is_of_redo made
block_kind l d (work.Pages pages) (block.Pages read) is = refl
block_kind l d (work.Pages pages) (block.Redo from bytes) is = absurd is
block_kind l d (work.Redo redo) (block.Pages read) is = absurd is
block_kind l d (work.Redo redo) (block.Redo from bytes) is = refl

-- A BLOCK has something, and no more than a block may have.
module _ (c : Cloning) (session chunk number : ℕ) (made : BlockWork) (of : IsBlockOf c session chunk number made) where
  sized : lists.IsBlockSized (part_of made)
  sized = let on = of.0 in block_sized on.0.snap.list chunk number (part_of made) on.2

  pub pages_sized : (pages : List (ℕ × ℕ)) (read : List PageAt) → made ≡ work.Pages pages → places_of read ≡ pages → (1 ≤ length read) × (length read ≤ BLOCK_PAGES)
  pages_sized pages read is places =
      let has : lists.IsBlockSized (lists.PagePart pages) = subst (λ (w : BlockWork). lists.IsBlockSized (part_of w)) is sized in
      let long : length read ≡ length pages = sym (length-map read (λ p. (p.space, p.number))) ∙ ap length places in
      (omega (arith, has.0, long), omega (arith, has.1, long))

  pub redo_sized : (redo : RedoBlock) → made ≡ work.Redo redo → (1 ≤ redo.length) × (redo.length ≤ BLOCK_BYTES)
  redo_sized redo is = subst (λ (w : BlockWork). lists.IsBlockSized (part_of w)) is sized

-- what was read, by the stage's list
reads_as : (l : lists.StageList) (stage : ℕ) (e : Engine) (p : PageAt) → stage ≡ stage_number (lists.stage_of l) → ReadsIn stage e p → ReadsPageOf l e p
reads_as (lists.Files spaces) stage e p is read = read.0 is
reads_as (lists.Pages list) stage e p is read = read.1 (λ one. omega (arith, is, one))
reads_as (lists.Redo start end) stage e p is read = read.1 (λ one. omega (arith, is, one))
reads_as lists.Nothing stage e p is read = read.1 (λ one. omega (arith, is, one))

reads_of : (l : lists.StageList) (stage : ℕ) (e : Engine) (pages : List PageAt) → stage ≡ stage_number (lists.stage_of l) → AllByRecursion (ReadsIn stage e) pages → AllByRecursion (ReadsPageOf l e) pages
reads_of l stage e [] is all = tt
reads_of l stage e (p ∷ ps) is all = (reads_as l stage e p is all.0, reads_of l stage e ps is all.1)

-- THE PAGES of a block lie within the engine's files, or are of its image, as those of its stage
-- do.

module _ (e : Engine) where
  abbrev pub InFile : ℕ × ℕ → Type 0
  InFile page = IsInFile e page.0 page.1

  abbrev pub OfImage : ℕ × ℕ → Type 0
  OfImage page = IsPageOf e page.0 page.1

  file_own : (file : ℕ × ℕ) → HasPages e.flights.files file → All InFile (lists.pages_of_space file)
  file_own file has = All-map InFile (λ number. (file.0, number)) (range_with_len 0 file.1)
      (λ k other low. let within : k < file.1 = omega (arith, low, length-range_with_len 0 file.1) in
      record { pages = has.pages; file = has.known; within = omega (arith, within, get_or-range_with_len 0 file.1 k other within, has.enough) })

  pub files_own : (spaces : List (ℕ × ℕ)) → All (HasPages e.flights.files) spaces → All InFile (flat_map lists.pages_of_space spaces)
  files_own [] all = All-nil InFile
  files_own (s ∷ ss) all = All-append InFile (lists.pages_of_space s) (flat_map lists.pages_of_space ss) (file_own s (All-head (HasPages e.flights.files) s ss all)) (files_own ss (All-tail (HasPages e.flights.files) s ss all))

-- what holds of the pages that are listed holds of those that were read
module _ (Own : ℕ × ℕ → Type 0) where
  of_places : (read : List PageAt) → AllByRecursion Own (places_of read) → AllByRecursion (λ p. Own (p.space, p.number)) read
  of_places [] all = tt
  of_places (p ∷ ps) all = (all.0, of_places ps all.1)

  are_own : (listed : List (ℕ × ℕ)) (read : List PageAt) → All Own listed → All (Contains listed) (places_of read) → AllByRecursion (λ p. Own (p.space, p.number)) read
  are_own listed read own are = of_places read (recursion_from_All Own (places_of read) (All-weaker (Contains listed) Own (λ x has. All-contains Own listed x own has) (places_of read) are))

-- no page is listed, so none was read
none_read : (read : List PageAt) → All (Contains []) (places_of read) → read ≡ []
none_read [] listed = refl
none_read (p ∷ ps) listed = let h = All-head (Contains []) (p.space, p.number) (places_of ps) listed in absurd (omega (arith, h.1))

-- WHAT WAS TAKEN, after these pages were given

abbrev pub after_pages : List PageAt → Taken → Taken
after_pages read taken = record taken { copies = with_pages (read_of read) taken.copies }

for_told : (P : DiskImage → Type 0) (told : Option DiskImage) → ((m : DiskImage) → told ≡ Some m → P m) → ForTold told P
for_told P None for = tt
for_told P (Some m) for = for m refl

module _ (d : Donor) (taken : Taken) (read : List PageAt) where
  abbrev e : Engine
  e = d.engine

  abbrev c : Cloning
  c = d.cloning

  abbrev AreTaken : DiskImage → lists.StageList → Type 0
  AreTaken m l = IsFlown e.buffer e.flights (with_pages (read_of read) taken.copies) m × IsTakenIn c e.buffer.log (after_pages read taken) l

  module _ (m : DiskImage) (told : e.disk.told ≡ Some m) (flown : IsFlown e.buffer e.flights taken.copies m) where
    none_taken : (l : lists.StageList) → read ≡ [] → IsTakenIn c e.buffer.log taken l → AreTaken m l
    none_taken l none are = subst (λ (r : List PageAt). IsFlown e.buffer e.flights (with_pages (read_of r) taken.copies) m × IsTakenIn c e.buffer.log (after_pages r taken) l) (sym none) (flown, are)

    taken_in : (s : Session) (l : lists.StageList) → CopiesOwn e l → IsInStage c s l → AllByRecursion (ReadsPageOf l e) read → All (Contains (lists.all_pages l)) (places_of read) → IsTakenIn c e.buffer.log taken l → AreTaken m l
    taken_in s (lists.Files spaces) own stage reads listed are = files_answered e m told read taken.copies flown (are_own (InFile e) (lists.all_pages (lists.Files spaces)) read (files_own e spaces own) listed) c.tracking.pages reads are
    taken_in s (lists.Pages list) own stage reads listed are =
        let owned = are_own (OfImage e) list read (All-from_recursion (OfImage e) list (of_told (λ _. ArePages e list) e.disk.told m told own)) listed in
        ((pages_answered e m told read taken.copies flown owned stage.archive.start reads (are stage.archive stage.stands)).0, λ a stands. (pages_answered e m told read taken.copies flown owned a.start reads (are a stands)).1)
    taken_in s (lists.Redo start end) own stage reads listed are = none_taken (lists.Redo start end) (none_read read listed) are
    taken_in s lists.Nothing own stage reads listed are = none_taken lists.Nothing (none_read read listed) are

  module _ (is : IsDonor d) (cloning : IsCloning c) (was : IsTaken d taken) (s : Session) (stands : c.session ≡ Some s) (reads : AllByRecursion (ReadsPageOf s.snap.list e) read) (listed : All (Contains (lists.all_pages s.snap.list)) (places_of read)) where
    same : list_of c ≡ Some s.snap.list
    same = ap (λ (o : Option Session). option_map (λ (x : Session). x.snap.list) o) stands

    taken_on : (m : DiskImage) → e.disk.told ≡ Some m → AreTaken m s.snap.list
    taken_on m told = taken_in m told (of_told (IsFlown e.buffer e.flights taken.copies) e.disk.told m told was.stands) s s.snap.list (is.own s.snap.list same) (subst (IsInSession c) stands cloning.session).2 reads listed
        (subst (IsTakenBy c e.buffer.log taken) same (of_told (λ _. IsTakenBy c e.buffer.log taken (list_of c)) e.disk.told m told was.stage))

    taken_pages : IsTaken d (after_pages read taken)
    taken_pages = record {
      stands = for_told (IsFlown e.buffer e.flights (with_pages (read_of read) taken.copies)) e.disk.told (λ m told. (taken_on m told).0);
      stage = for_told (λ _. IsTakenBy c e.buffer.log (after_pages read taken) (list_of c)) e.disk.told (λ m told. subst (IsTakenBy c e.buffer.log (after_pages read taken)) (sym same) (taken_on m told).1);
    }

-- A BLOCK that may be given, and is made of this
pub record MayGive (caller : Caller) (stage chunk number : ℕ) (d : Donor) (made : BlockWork) : Type 0 where
  pub is : IsDonor d
  pub cloning : IsCloning d.cloning
  pub free : block_cause d.cloning caller stage chunk number ≡ None
  pub made_of : IsBlockOf d.cloning caller.session chunk number made

-- it was read, and nothing has changed but the disk's count of faults
pub record HasBlock (caller : Caller) (chunk number : ℕ) (d : Donor) (k : DiskState) (read : Block) : Type 0 where
  pub is : IsDonor d
  pub cloning : IsCloning d.cloning
  pub session : Session
  pub stands : session_of d.cloning caller.session ≡ Some session
  pub made : BlockWork
  pub made_of : IsBlockOf d.cloning caller.session chunk number made
  pub block : IsBlock session.snap.list d made read
  pub visits : OnlyVisits d.engine (record d.engine { disk = k })

module _ (caller : Caller) (stage chunk number : ℕ) (d : Donor) (k : DiskState) (made : BlockWork) (may : MayGive caller stage chunk number d made) (visits : OnlyVisits d.engine (record d.engine { disk = k })) where
  has_block : (read : Block) → ((s : Session) → session_of d.cloning caller.session ≡ Some s → IsBlock s.snap.list d made read) → HasBlock caller chunk number d k read
  has_block read block =
      let on = may.made_of.0 in
      record { is = may.is; cloning = may.cloning; session = on.0; stands = on.1; made = made; made_of = may.made_of; block = block on.0 on.1; visits = visits }

  pub has_pages : (pages : List (ℕ × ℕ)) (read : List PageAt) → made ≡ work.Pages pages → places_of read ≡ pages → AllByRecursion (ReadsIn stage d.engine) read → HasBlock caller chunk number d k (block.Pages read)
  has_pages pages read is places reads = has_block (block.Pages read)
      (λ s stands. subst (λ w. IsBlock s.snap.list d w (block.Pages read)) (sym is) (places, reads_of s.snap.list stage d.engine read (stage_is d.cloning caller stage chunk number s stands may.free) reads))

  pub has_redo : (redo : RedoBlock) (read : Block) → made ≡ work.Redo redo → IsRedo d redo read → HasBlock caller chunk number d k read
  has_redo redo read is has = has_block read (λ s stands. subst (λ w. IsBlock s.snap.list d w read) (sym is) has)

module _ (caller : Caller) (stage chunk number : ℕ) (d : Donor) (k : DiskState) (read : Block) (free : block_cause d.cloning caller stage chunk number ≡ None) (has : HasBlock caller chunk number d k read) (new : Cloning) (last : Bool) (answered : Answers caller chunk number d.cloning new last) where
  abbrev after : Donor
  after = record { engine = record d.engine { disk = k }; cloning = new }

  given : Gives caller chunk number d after read last
  given = record { session = has.session; stands = has.stands; work = has.made; made_of = has.made_of; read = has.block; visits = has.visits; answers = answered }

  like : Like new d.cloning
  like = subst (λ (k : Cloning). Like k d.cloning) (sym answered.2.1) (by last)
    where
      by : (b : Bool) → Like (if b then finished chunk answered.0 d.cloning else d.cloning) d.cloning
      by true = like_session d.cloning answered.0 _ (stands_as d.cloning.session caller.session answered.0 answered.1) refl
      by false = like_same d.cloning

  taken_block : (b : Block) (taken : Taken) → IsBlock has.session.snap.list d has.made b → IsTaken d taken → IsTaken d (taken_from b taken)
  taken_block (block.Redo from bytes) taken is was = was
  taken_block (block.Pages pages) taken is was = of_work has.made has.made_of.0 is
    where
      of_work : (w : BlockWork) → OnSession d.cloning caller.session (λ s. lists.block_of s.snap.list chunk number ≡ Some (part_of w)) → IsBlock has.session.snap.list d w (block.Pages pages) → IsTaken d (after_pages pages taken)
      of_work (work.Redo redo) on is = absurd is
      of_work (work.Pages places) on is =
          let s = has.session in
          let one : Some on.0 ≡ Some s = sym on.1 ∙ has.stands in
          let same : on.0 ≡ s = cc in
          taken_pages d taken pages has.is has.cloning was s (stands_as d.cloning.session caller.session s has.stands) is.1
          (subst (All (Contains (lists.all_pages s.snap.list))) (sym is.0) (pages_listed s.snap.list chunk number places (subst (λ (x : Session). lists.block_of x.snap.list chunk number ≡ Some (lists.PagePart places)) same on.2)))

  pub gives : act.CloneActs (call.ReadBlock caller stage chunk number) (answer.ReadBlock (Ok (read, last))) d after
  gives =
      let stays = retold_stays d k (ap (λ (e : Engine). e.disk.told) has.visits.same) new like has.is in
      record { does = (free, given); donor = stays.donor; taken = λ taken was. stays.taken (taken_from read taken) (taken_block read taken has.block was) }

-- of the redo exactly in the copy of redo
pub kind_is : (caller : Caller) (stage chunk number : ℕ) (d : Donor) (k : DiskState) (read : Block) → block_cause d.cloning caller stage chunk number ≡ None → HasBlock caller chunk number d k read → is_redo read ≡ (stage == 3)
kind_is caller stage chunk number d k read none has =
    let on = has.made_of.0 in
    let one : Some on.0 ≡ Some has.session = sym on.1 ∙ has.stands in
    let same : on.0 ≡ has.session = cc in
    let of : lists.block_of has.session.snap.list chunk number ≡ Some (part_of has.made) = subst (λ (x : Session). lists.block_of x.snap.list chunk number ≡ Some (part_of has.made)) same on.2 in
    block_kind has.session.snap.list d has.made read has.block ∙ work_kind has.session.snap.list chunk number has.made of
    ∙ ap (λ (n : ℕ). n == 3) (sym (stage_is d.cloning caller stage chunk number has.session has.stands none))

-- NO BLOCK IS GIVEN.
pub misses : (caller : Caller) (stage chunk number : ℕ) (d : Donor) (k : DiskState) (why : BlockRefusal) → OnlyVisits d.engine (record d.engine { disk = k }) → IsDonor d → RefusesBlock caller stage chunk number d (record d { engine = record d.engine { disk = k } }) why
    → act.CloneActs (call.ReadBlock caller stage chunk number) (answer.ReadBlock (Err why)) d (record d { engine = record d.engine { disk = k } })
misses caller stage chunk number d k why visits is refuses =
    let stays = retold_stays d k (ap (λ (e : Engine). e.disk.told) visits.same) d.cloning (like_same d.cloning) is in
    record { does = refuses; donor = stays.donor; taken = stays.taken }

-- since memory ran out, or after a fault of the disk
pub unread : (caller : Caller) (stage chunk number : ℕ) (d : Donor) (k : DiskState) (why : BlockRefusal) → OnlyVisits d.engine (record d.engine { disk = k }) → FailsReading d.engine (record d.engine { disk = k }) why → RefusesBlock caller stage chunk number d (record d { engine = record d.engine { disk = k } }) why
unread caller stage chunk number d k (refused.Clone (refusal.Because cause)) visits fails = absurd (let e = fails in cc)
unread caller stage chunk number d k (refused.Clone refusal.NoMemory) visits fails = (visits, refl)
unread caller stage chunk number d k (refused.Engine (Because cause)) visits fails = (same_cause fails.0, fails.1, visits, refl)
  where
    same_cause : Because cause ≡ Because DiskFault → cause ≡ DiskFault
    same_cause is = cc
unread caller stage chunk number d k (refused.Engine NoMemory) visits fails = absurd (let e = fails.0 in cc)
