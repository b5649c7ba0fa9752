-- What a call does to the pages and the log, step by step.
use Rattle.std.specs.Prelude.{ℕ, ◌≡◌, ◌≢◌, ◌<◌, ◌≤◌, ◌-◌, ◌⊎◌, ◌↔◌, ◌&&◌, Bool, true, false, List, length, None, Some, IsTrue, IsOk, Result, Ok, Err, nat_lt, is_some, not, option_and_then, if◌then◌else◌}
use Rattle.std.specs.declared.option.Option.{Option}
use Rattle.clone_model.specs.declared.line.TheConstants.{MOST_PAGES}
use Rattle.clone_mtr.specs.declared.record.Record.{Record}
use Rattle.clone_mtr.specs.Spelling.{spelling}
use Rattle.clone_row.specs.Chains.{behind}
use Rattle.clone_row.specs.Slots.{slots, Finds, FindsFree}
use Rattle.clone_image.specs.Image.{page_of}
use Rattle.clone_ring.specs.Window.{free_in}
use Rattle.clone_outside.specs.Disk.{DiskImage}
use Rattle.clone_pool.specs.declared.frame.Frame.{Frame}
use Rattle.clone_pool.specs.declared.frame.PageName.{PageName}
use Rattle.clone_pool.specs.declared.pool.FetchRefusal.{FetchRefusal}
use Rattle.clone_pool.specs.declared.pool.FetchRefusal.TheVariants as fetch
use Rattle.clone_pool.specs.Frames.{frame_at, holder, pinned, unpinned}
use Rattle.clone_pool.specs.Pool.{HasNoFrameFor, Fetches, Freshens, with_frame}
use Rattle.clone_buffer.specs.Buffered.{Buffered, image_of}
use Rattle.clone_buffer.specs.Writing.{written}
use Rattle.clone_buffer.specs.Dropping.{without_pages}
use Rattle.clone_buffer.specs.OnePage.{Beside, NoFilesOf, NoFlightsOf, after_create}
use Rattle.clone_buffer.specs.Keeping.{Stands}
use Rattle.clone_plain.specs.Donor.{Donor}
use Rattle.clone_plain.specs.Effects.{dropped}
use Rattle.clone_plain.specs.declared.refusal.Cause.{Cause}
use Rattle.clone_plain.specs.declared.refusal.Cause.TheVariants.{LogFull, PoolFull, DiskFault}
use Rattle.clone_plain.specs.declared.refusal.EngineRefusal.{EngineRefusal}
use Rattle.clone_plain.specs.declared.refusal.EngineRefusal.TheVariants.{Because, NoMemory}
use Rattle.clone_trx.specs.declared.walk.Course.{Course}
use Rattle.clone_trx.specs.declared.walk.Spot.{Spot}

-- The way of a call. What is done behind a page may depend on the bytes that were read of it.
pub data Way : Type 0 where
  -- a page is brought into a frame, and stays there while the rest is done
  reads : PageName → (List ℕ → Way) → Way
  -- A chain is walked. What is done behind it may depend on the page that the walk comes to, on the
  -- slot there, and on the bytes of that page, which stays in its frame meanwhile.
  walks : Course → (ℕ → Option ℕ → List ℕ → Way) → Way
  -- there is a cause against the call
  stops : Cause → Way
  -- a mini-transaction is written
  writes : List Record → Way
  -- a frame is taken for a new page, and stays pinned while the rest is done
  freshens : PageName → Way → Way
  -- a mini-transaction that makes a space longer is written, and then the rest is done
  lengthens : List Record → Way → Way
  -- the disk makes a space, and the mini-transaction that makes it is written
  makes : List Record → Way
  -- The pages of a space below a number are given up, the mini-transaction that drops the space is
  -- written, and the disk removes it.
  drops : ℕ → ℕ → List Record → Way
  -- nothing more is done
  ends : Way

-- the bytes in a frame
abbrev pub page_in : ℕ → Buffered → List ℕ
page_in at b = (frame_at b.pool.frames at).page

-- a frame has a pin more
abbrev pub held : ℕ → Buffered → Buffered
held at b = record b { pool = with_frame at pinned b.pool }

-- a frame has a pin less
abbrev pub let_go : ℕ → Buffered → Buffered
let_go at b = record b { pool = with_frame at unpinned b.pool }

-- A page was brought into a frame. All that was read is right if it was so before, and this page is
-- the one that the log makes.
pub record Brings (page : PageName) (at : ℕ) (old new : Buffered) : Type 0 where
  pub fetched : Fetches page old.pool new.pool (Ok at)
  pub log : new.log ≡ old.log
  pub ring : new.ring ≡ old.ring
  pub right : IsTrue new.right
      ↔ (IsTrue old.right × (page_of (image_of old) page.space page.number ≡ Some (page_in at new)))

-- why a page isn't brought
abbrev pub cause_of : FetchRefusal → Cause
cause_of (fetch.PoolFull frames) = PoolFull frames
cause_of fetch.DiskFault = DiskFault

-- a page wasn't brought, and nothing but frames has changed
pub record Misses (page : PageName) (cause : Cause) (old new : Buffered) : Type 0 where
  pub refusal : FetchRefusal
  pub is : cause ≡ cause_of refusal
  pub fetched : Fetches page old.pool new.pool (Err refusal)
  pub same : new ≡ record old { pool = new.pool }

-- the page was brought into a frame, and pinned there
pub record Holds (page : PageName) (at : ℕ) (old new : Buffered) : Type 0 where
  pub next : Buffered
  pub brings : Brings page at old next
  pub is : new ≡ held at next

-- a page wasn't held, for this refusal
abbrev pub MissesBy : PageName → EngineRefusal → Buffered → Buffered → Type 0
MissesBy page refusal old new =
    (cause : Cause) × (refusal ≡ Because cause) × Misses page cause old new

-- A frame was taken for a new page and pinned. One that the new page had already was pinned once
-- more.
pub record Takes (page : PageName) (at : ℕ) (old new : Buffered) : Type 0 where
  pub taken : Freshens page old.pool new.pool (Ok at)
  pub same : new ≡ record old { pool = new.pool }

-- a new page has no frame, none is set aside for it, and none may go
pub record HasNoFrame (page : PageName) (b : Buffered) (cause : Cause) : Type 0 where
  pub absent : holder b.pool.frames page ≡ None
  pub kept : HasNoFrameFor page b.pool.frames
  pub is : cause ≡ PoolFull (length b.pool.frames)

-- A WALK goes along a chain page by page, and looks for a slot that is bound to its key. If it is
-- for room, the first page with a slot that was never used is kept: it stays pinned meanwhile.

-- a page of the chain
abbrev pub chain_page : Course → ℕ → PageName
chain_page course number = record { space = course.table; number = number }

-- the page that was kept, if one was, is let go
abbrev pub let_go_kept : Option Spot → Buffered → Buffered
let_go_kept None b = b
let_go_kept (Some spot) b = let_go spot.at b

-- the page was brought into a frame and pinned there, and no slot of it is bound to the key
pub record Lacks (course : Course) (page at : ℕ) (old new : Buffered) : Type 0 where
  pub holds : Holds (chain_page course page) at old new
  pub lacks : Finds course.key (slots (page_in at new)) None

-- the first slot of a page that was never used, if one is wanted
abbrev pub FindsWanted : Bool → List ℕ → Option ℕ → Type 0
FindsWanted true page found = FindsFree (slots page) found
FindsWanted false page found = found ≡ None

-- a walk that is for room wants such a slot until it has kept one
abbrev pub FindsRoom : Course → Option Spot → List ℕ → Option ℕ → Type 0
FindsRoom course kept page found = FindsWanted (course.for_room && not (is_some kept)) page found

-- The page behind a page on its chain, where as many more pages may be walked. No row is on a page
-- above the highest.
abbrev pub onward : ℕ → List ℕ → Option ℕ
onward left page =
    option_and_then (λ next. if nat_lt 0 left && nat_lt next MOST_PAGES then Some next else None)
    (behind page)

-- What comes of a walk from a page on, behind which so many more pages may be walked. Where it
-- comes to the spot for the key, the spot's page stays pinned and no other.
pub data Walks (course : Course) : ℕ → ℕ → Option Spot → Buffered → Buffered
    → Result Spot EngineRefusal → Type 0 where
  -- the page isn't brought
  misses : (left page : ℕ) (kept : Option Spot) (old mid new : Buffered) (refusal : EngineRefusal)
      → MissesBy (chain_page course page) refusal old mid → new ≡ let_go_kept kept mid
      → Walks course left page kept old new (Err refusal)
  -- a slot of the page is bound to the key
  finds : (left page at slot : ℕ) (kept : Option Spot) (old mid new : Buffered)
      → Holds (chain_page course page) at old mid
      → Finds course.key (slots (page_in at mid)) (Some slot) → new ≡ let_go_kept kept mid
      → Walks course left page kept old new (Ok (record { page = page; at = at; slot = Some slot }))
  -- the page is kept, and the walk goes on
  keeps : (left page at slot next : ℕ) (old mid new : Buffered) (result : Result Spot EngineRefusal)
      → Lacks course page at old mid → FindsRoom course None (page_in at mid) (Some slot)
      → onward left (page_in at mid) ≡ Some next
      → Walks course (left - 1) next (Some (record { page = page; at = at; slot = Some slot })) mid
      new result
      → Walks course left page None old new result
  -- the page is let go, and the walk goes on
  passes : (left page at next : ℕ) (kept : Option Spot) (old mid passed new : Buffered)
      (result : Result Spot EngineRefusal)
      → Lacks course page at old mid → FindsRoom course kept (page_in at mid) None
      → onward left (page_in at mid) ≡ Some next → passed ≡ let_go at mid
      → Walks course (left - 1) next kept passed new result
      → Walks course left page kept old new result
  -- it is the last page, and one was kept before
  returns : (left page at : ℕ) (spot : Spot) (old mid new : Buffered)
      → Lacks course page at old mid → onward left (page_in at mid) ≡ None → new ≡ let_go at mid
      → Walks course left page (Some spot) old new (Ok spot)
  -- it is the last page, and none was
  arrives : (left page at : ℕ) (slot : Option ℕ) (old new : Buffered)
      → Lacks course page at old new → FindsRoom course None (page_in at new) slot
      → onward left (page_in at new) ≡ None
      → Walks course left page None old new (Ok (record { page = page; at = at; slot = slot }))

-- what comes of a walk from its first page on, which goes over no more pages than a space may have
abbrev pub WalksAll : Course → Buffered → Buffered → Result Spot EngineRefusal → Type 0
WalksAll course old new result = Walks course (MOST_PAGES - 1) course.first None old new result

-- the log has room for a mini-transaction
abbrev pub HasRoom : List Record → Buffered → Type 0
HasRoom records b = length (spelling records) ≤ free_in b.ring

-- the log has none
pub record IsFull (records : List Record) (b : Buffered) (cause : Cause) : Type 0 where
  pub less : free_in b.ring < length (spelling records)
  pub is : cause ≡ LogFull (length (spelling records)) (free_in b.ring)

-- A mini-transaction is written where the log has room for it. Else the call is refused, and
-- nothing has changed. It may want memory where there is room.
abbrev pub Writes : {X : Type 0} → List Record → Buffered → Buffered → Result X EngineRefusal
    → Type 0
Writes records old new (Ok x) = HasRoom records old × (new ≡ written records old)
Writes records old new (Err (Because cause)) = IsFull records old cause × (new ≡ old)
Writes records old new (Err NoMemory) = HasRoom records old × (new ≡ old)

-- where there is room, the disk may fail to make the space first
abbrev pub Makes : {X : Type 0} → List Record → Buffered → Buffered → Result X EngineRefusal
    → Type 0
Makes records old new result =
    Writes records old new result
    ⊎ (HasRoom records old × (result ≡ Err (Because DiskFault)) × (new ≡ old))

-- the mini-transaction was written, without the pages of the space below a number
abbrev pub WritesWithout : ℕ → ℕ → List Record → Buffered → Buffered → Type 0
WritesWithout space pages records old new =
    HasRoom records old × (new ≡ written records (without_pages space pages old))

-- A space is dropped where the log has room for that. The disk may fail to remove the space then.
-- Else the call is refused, and nothing has changed. It may want memory where there is room.
abbrev pub Drops : {X : Type 0} → ℕ → ℕ → List Record → Buffered → Buffered
    → Result X EngineRefusal → Type 0
Drops space pages records old new (Ok x) = WritesWithout space pages records old new
Drops space pages records old new (Err (Because cause)) =
    (IsFull records old cause × (new ≡ old))
    ⊎ ((cause ≡ DiskFault) × WritesWithout space pages records old new)
Drops space pages records old new (Err NoMemory) = HasRoom records old × (new ≡ old)

-- THE WAY IS GONE, up to this answer. Where a new page wasn't made by then, the frame that was
-- taken for it is free again.
abbrev pub Goes : {X : Type 0} → Way → Buffered → Buffered → Result X EngineRefusal → Type 0
Goes (reads page rest) old new result =
    ((cause : Cause) × (result ≡ Err (Because cause)) × Misses page cause old new)
    ⊎ ((at : ℕ) × (next last : Buffered) × Brings page at old next
    × Goes (rest (page_in at next)) (held at next) last result × (new ≡ let_go at last))
Goes (walks course rest) old new result =
    ((cause : Cause) × (result ≡ Err (Because cause))
    × WalksAll course old new (Err (Because cause)))
    ⊎ ((spot : Spot) × (next last : Buffered) × WalksAll course old next (Ok spot)
    × Goes (rest spot.page spot.slot (page_in spot.at next)) next last result
    × (new ≡ let_go spot.at last))
Goes (freshens page rest) old new result =
    ((cause : Cause) × (result ≡ Err (Because cause)) × HasNoFrame page old cause × (new ≡ old))
    ⊎ ((at : ℕ) × (next last : Buffered) × Takes page at old next × Goes rest next last result
    × (new ≡ let_go at last))
Goes (lengthens records rest) old new result =
    ((cause : Cause) × (result ≡ Err (Because cause)) × IsFull records old cause × (new ≡ old))
    ⊎ (HasRoom records old × Goes rest (written records old) new result)
Goes (stops cause) old new result = (result ≡ Err (Because cause)) × (new ≡ old)
Goes (writes records) old new result = Writes records old new result
Goes (makes records) old new result = Makes records old new result
Goes (drops space pages records) old new result = Drops space pages records old new result
Goes ends old new result = IsOk result × (new ≡ old)

-- what the donor is afterwards: a call that was refused leaves it
abbrev pub Carries : {X : Type 0} → Donor → Donor → Result X EngineRefusal → (X → Type 0) → Type 0
Carries old new (Ok x) Does = Does x
Carries old new (Err refusal) Does = new ≡ old

-- Where the plain donor has a cause against it, a call is refused for the first one, and nothing
-- changes. Else it goes its way, and does what it is for if it comes to the end.
abbrev pub Answers : {X : Type 0} → Option Cause → Way → Donor → Donor → Buffered → Buffered
    → Result X EngineRefusal → (X → Type 0) → Type 0
Answers (Some cause) way d e old new result Does =
    (result ≡ Err (Because cause)) × (e ≡ d) × (new ≡ old)
Answers None way d e old new result Does = Goes way old new result × Carries d e result Does

-- A table is dropped where its mini-transaction was written, also where the disk then fails to
-- remove its space. A call that wrote none leaves the donor.
abbrev pub CarriesDrop : {X : Type 0} → ℕ → Donor → Donor → Buffered → Buffered
    → Result X EngineRefusal → Type 0
CarriesDrop table d after old new (Ok x) = after ≡ dropped table d
CarriesDrop table d after old new (Err refusal) =
    ((new.log ≡ old.log) × (after ≡ d))
    ⊎ ((refusal ≡ Because DiskFault) × (new.log ≢ old.log) × (after ≡ dropped table d))

-- so many pins has each frame at most
abbrev pub PinsAtMost : ℕ → List Frame → Type 0
PinsAtMost most frames = (at : ℕ) → (frame_at frames at).pins ≤ most

-- over a disk that tells what it holds, a buffer that stood stands
abbrev pub StaysStanding : Buffered → Buffered → Option DiskImage → Option DiskImage → Type 0
StaysStanding old new before after =
    (beside : Beside) → Stands old beside before → Stands new beside after

-- So does one after a call that is to make a space of so many pages. Where the call was carried
-- out, a clone has each page of the space as it was made.
abbrev pub StaysCreating : {X : Type 0} → ℕ → ℕ → Result X EngineRefusal → Buffered → Buffered
    → Option DiskImage → Option DiskImage → Type 0
StaysCreating space pages (Ok x) old new before after =
    (beside : Beside) → Stands old beside before
    → Stands new (record beside { copy = after_create space pages beside.copy }) after
StaysCreating space pages (Err refusal) old new before after = StaysStanding old new before after

-- so does one that is beside no FILE COPY of a space and no flush of a page of it
abbrev pub StaysOutside : ℕ → Buffered → Buffered → Option DiskImage → Option DiskImage → Type 0
StaysOutside space old new before after =
    (beside : Beside) → NoFilesOf space beside.copy → NoFlightsOf space beside
    → Stands old beside before → Stands new beside after
